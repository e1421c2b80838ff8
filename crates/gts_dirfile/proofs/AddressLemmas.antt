-- Texts that are read as addresses.
use Rattle.gts_dirfile.proofs.Cited.{◌≡◌, ◌↔◌, ℕ, List, [], ◌∷◌, length, Option, Some, None, option_map, refl, sym, ◌∙◌, ap, subst, append-nil, lit≤, arith, none-some, read_ipv4_sound, read_ipv4_complete, Ipv4Addr, IsDotted, IsIpv4Text, Read, address_of, address_of_text, ipv4_octets, whole_value, read_ipv4}
use Rattle.std.proofs.Common.{ne_eqb}

-- what is read is written so
written : (text : List ℕ) (a : Ipv4Addr) (r : Read (List ℕ)) → read_ipv4 text ≡ r → option_map address_of (whole_value r) ≡ Some a → IsIpv4Text text a
written text a None e h = absurd (none-some _ h)
written text a (Some (octets, [])) e h =
    let (front, split, dotted) = read_ipv4_sound text octets [] e in
    let same : octets ≡ ipv4_octets a = ap (λ (o : Option Ipv4Addr). elim o [ Some b ↦ ipv4_octets b | None ↦ octets ]) h in
    subst (λ (o : List ℕ). IsDotted text o) same (subst (λ (t : List ℕ). IsDotted t octets) (sym (split ∙ append-nil front)) dotted)
written text a (Some (octets, byte ∷ rest)) e h = absurd (none-some _ (rw (ne_eqb (length (byte ∷ rest)) 0 (omega arith)) at h))

-- and what is written so is read
is_read : (text : List ℕ) (a : Ipv4Addr) → IsIpv4Text text a → address_of_text text ≡ Some a
is_read text a spelled =
    ap (λ (r : Read (List ℕ)). option_map address_of (whole_value r))
    (ap read_ipv4 (sym (append-nil text)) ∙ read_ipv4_complete text (ipv4_octets a) [] spelled (lit≤ tt))

pub address-both : (text : List ℕ) (a : Ipv4Addr) → (address_of_text text ≡ Some a) ↔ IsIpv4Text text a
address-both text a = (λ h. written text a (read_ipv4 text) refl h, λ h. is_read text a h)

-- nothing is there where no value is
pub none-where : {A : Type 0} (o : Option A) → ((a : A) → o ≡ Some a → ⊥) → None ≡ o
none-where None h = refl
none-where (Some a) h = absurd (h a refl)
