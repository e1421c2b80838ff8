-- Two headings have the same fields exactly where they are written alike.
use Rattle.gts_heading.proofs.Cited.{◌≡◌, ℕ, Bool, true, false, ◌&&◌, nat_eq, List, Option, None, Some, refl, sym, ap, ◌∙◌, true≢false, Decides-eqb, Decides, HeadingFields, IsHeading, bytes_decides, heading_text, is_same_heading, option_eq, pointwise}
use Rattle.gts_heading.proofs.HeadingLemmas.{same_heading}

-- field by field
abbrev pub have_same_fields : HeadingFields → HeadingFields → Bool
have_same_fields g h =
    pointwise nat_eq g.tt h.tt && (pointwise nat_eq g.aa h.aa && (nat_eq g.ii h.ii && (pointwise nat_eq g.cccc h.cccc
    && (nat_eq g.day h.day && (nat_eq g.hour h.hour && (nat_eq g.minute h.minute && option_eq (pointwise nat_eq) g.bbb h.bbb))))))

both : (a b : Bool) {P Q : Type 0} → Decides a P → Decides b Q → Decides (a && b) (P × Q)
both true b p q = (λ e. (p.0 refl, q.0 e), λ both. q.1 both.1)
both false b p q = (λ e. absurd (true≢false (sym e)), λ both. absurd (true≢false (sym (p.1 both.0))))

group_decides : (o p : Option (List ℕ)) → Decides (option_eq (pointwise nat_eq) o p) (o ≡ p)
group_decides None None = (λ e. refl, λ e. refl)
group_decides None (Some y) = (λ e. absurd (true≢false (sym e)), λ e. absurd (cc e))
group_decides (Some x) None = (λ e. absurd (true≢false (sym e)), λ e. absurd (cc e))
group_decides (Some x) (Some y) = (λ e. ap Some ((bytes_decides x y).0 e), λ e. (bytes_decides x y).1 (let same : x ≡ y = cc e in same))

pub fields_decide : (g h : HeadingFields) → Decides (have_same_fields g h) (g ≡ h)
fields_decide g h =
    let parts = both (pointwise nat_eq g.tt h.tt) _ (bytes_decides g.tt h.tt) (both (pointwise nat_eq g.aa h.aa) _ (bytes_decides g.aa h.aa)
    (both (nat_eq g.ii h.ii) _ (Decides-eqb g.ii h.ii) (both (pointwise nat_eq g.cccc h.cccc) _ (bytes_decides g.cccc h.cccc)
    (both (nat_eq g.day h.day) _ (Decides-eqb g.day h.day) (both (nat_eq g.hour h.hour) _ (Decides-eqb g.hour h.hour)
    (both (nat_eq g.minute h.minute) _ (Decides-eqb g.minute h.minute) (group_decides g.bbb h.bbb))))))) in (
      λ e.
          let p = parts.0 e in
          ap (λ (x : List ℕ). let r : HeadingFields = record g { tt = x } in r) p.0
          ∙ ap (λ (x : List ℕ). let r : HeadingFields = record g { tt = h.tt; aa = x } in r) p.1.0
          ∙ ap (λ (x : ℕ). let r : HeadingFields = record g { tt = h.tt; aa = h.aa; ii = x } in r) p.1.1.0
          ∙ ap (λ (x : List ℕ). let r : HeadingFields = record g { tt = h.tt; aa = h.aa; ii = h.ii; cccc = x } in r) p.1.1.1.0
          ∙ ap (λ (x : ℕ). let r : HeadingFields = record h { day = x; hour = g.hour; minute = g.minute; bbb = g.bbb } in r) p.1.1.1.1.0
          ∙ ap (λ (x : ℕ). let r : HeadingFields = record h { hour = x; minute = g.minute; bbb = g.bbb } in r) p.1.1.1.1.1.0
          ∙ ap (λ (x : ℕ). let r : HeadingFields = record h { minute = x; bbb = g.bbb } in r) p.1.1.1.1.1.1.0
          ∙ ap (λ (x : Option (List ℕ)). let r : HeadingFields = record h { bbb = x } in r) p.1.1.1.1.1.1.1,
      λ e. parts.1 (
        ap (λ (x : HeadingFields). x.tt) e,
        (
          ap (λ (x : HeadingFields). x.aa) e,
          (
            ap (λ (x : HeadingFields). x.ii) e,
            (
              ap (λ (x : HeadingFields). x.cccc) e,
              (
                ap (λ (x : HeadingFields). x.day) e,
                (
                  ap (λ (x : HeadingFields). x.hour) e,
                  (ap (λ (x : HeadingFields). x.minute) e, ap (λ (x : HeadingFields). x.bbb) e),
                ),
              ),
            ),
          ),
        ),
      ),
    )

pub texts_decide : (g h : HeadingFields) → IsHeading g → IsHeading h → Decides (is_same_heading g h) (g ≡ h)
texts_decide g h is_g is_h = (
  λ e. same_heading g h is_g is_h ((bytes_decides (heading_text g) (heading_text h)).0 e),
  λ e. (bytes_decides (heading_text g) (heading_text h)).1 (ap heading_text e),
)
