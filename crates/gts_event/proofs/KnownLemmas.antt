-- What is known is a duplicate.
use Rattle.gts_event.proofs.Cited.{◌≡◌, ℕ, zero, suc, Bool, true, false, cond, List, [], ◌∷◌, ◌++◌, length, reverse, Option, Some, None, is_some, Result, Ok, Err, refl, sym, ap, ◌∙◌, slice_get, Accepted, Bulletin, Directory, Duplicate, Entry, HeadingFields, Heard, Kind, Knows, KnowsMessage, Message, MessageField, MessageParts, Outcome, Refused, State, WasRead, after, after_all, after_heard, answer_to, body_of, duplicate, heading_of, is_recent, named, outcome, request_at, text_of, verdict, true≢false, and_from, append_assoc, reverse-append, same_bytes, common_steps, arith}
use Rattle.std.proofs.Common.{find}
use Rattle.gts_event.proofs.BulletinLemmas.{was_read, body_at-read, heading-read}
use Rattle.gts_event.proofs.GrowthLemmas.{history_goes_on}

-- ---- a bulletin that is there is found

find_there : (f : Bulletin → Bool) (xs : List Bulletin) (x : Bulletin) (ys : List Bulletin) → f x ≡ true → is_some (find f (xs ++ x ∷ ys)) ≡ true
find_there f [] x ys e = ap (λ b. is_some (cond b (Some x) (find f ys))) e
find_there f (z ∷ zs) x ys e = elim (f z) as (λ b. is_some (cond b (Some z) (find f (zs ++ x ∷ ys))) ≡ true) [ true ↦ refl | false ↦ find_there f zs x ys e ]

turned : (front : List Bulletin) (b : Bulletin) (rest : List Bulletin) → reverse (front ++ b ∷ rest) ≡ reverse rest ++ b ∷ reverse front
turned front b rest = grind (arith, common_steps, reverse-append, append_assoc)

place : (xs : List Bulletin) (i : ℕ) (x : Bulletin) → slice_get xs i ≡ Some x → (front : List Bulletin) × (rest : List Bulletin) × (xs ≡ front ++ x ∷ rest)
place [] i x e = absurd (cc)
place (z ∷ zs) zero x e = let same : z ≡ x = cc in ([], zs, ap (λ (y : Bulletin). y ∷ zs) same)
place (z ∷ zs) (suc i) x e = let p = place zs i x e in (z ∷ p.0, p.1, ap (λ (xs : List Bulletin). z ∷ xs) p.2)

known_at : (d : Directory) (t : State) (front : List Bulletin) (b : Bulletin) (rest : List Bulletin) (h : HeadingFields) (x : List ℕ) → t.accepted ≡ front ++ b ∷ rest
    → is_recent d t.count b.position ≡ true → heading_of b.body ≡ h → text_of b.body ≡ x → is_some (duplicate d t h x) ≡ true
known_at d t front b rest h x there near heading text = grind (arith, common_steps, same_bytes, and_from, turned, find_there)

-- a bulletin of a state is known in each state that follows
pub knows : (d : Directory) (s : State) (entries : List Entry) (b : Bulletin) (i : ℕ) → slice_get s.accepted i ≡ Some b → Knows d (after_all d s entries) b
knows d s entries b i at near =
    let p = place s.accepted i b at in
    let g = (history_goes_on d s entries).bulletins in
    known_at d (after_all d s entries) p.0 b (p.1 ++ g.0) (heading_of b.body) (text_of b.body)
    (g.1 ∙ ap (λ (bs : List Bulletin). bs ++ g.0) p.2 ∙ append_assoc p.0 (b ∷ p.1) g.0) near refl refl

-- ---- a message that was accepted is known

text-read : (d : Directory) (message : List ℕ) (w : WasRead d message) → text_of (body_of message) ≡ w.parts.text
text-read d message w = ap (λ (r : Result (HeadingFields × List ℕ) MessageField). elim r as (λ _. List ℕ) [ Ok found ↦ found.1 | Err _ ↦ [] ]) (body_at-read d message w)

as_duplicate : (o : Option Bulletin) (new : Outcome) → is_some o ≡ true → (p : ℕ) × (elim o as (λ _. Outcome) [ Some b ↦ Duplicate b.position | None ↦ new ] ≡ Duplicate p)
as_duplicate (Some b) new e = (b.position, refl)
as_duplicate None new e = absurd (true≢false (sym e))

again : (d : Directory) (t : State) (c : ℕ) (kind : Kind) (m : List ℕ) (w : WasRead d m) → is_some (duplicate d t w.parts.heading w.parts.text) ≡ true → (p : ℕ) × (outcome d t (Heard c kind m) ≡ Duplicate p)
again d t c kind m w known =
    let new : Outcome = Accepted t.count (length (named d c w.parts.heading)) in
    let found : Outcome = elim (duplicate d t w.parts.heading w.parts.text) as (λ _. Outcome) [ Some b ↦ Duplicate b.position | None ↦ new ] in
    let r = as_duplicate (duplicate d t w.parts.heading w.parts.text) new known in (
      r.0,
      ap (λ (x : Result MessageParts MessageField). elim x as (λ _. Outcome) [ Err field ↦ Refused (Message field) | Ok parts ↦ verdict d t c parts ]) w.read
          ∙ ap (λ b. cond b (answer_to d t c (request_at w.parts.text)) found) w.other ∙ r.1,
    )

pub knows_message : (d : Directory) (s : State) (c p n : ℕ) (kind : Kind) (m : List ℕ) (entries : List Entry) → outcome d s (Heard c kind m) ≡ Accepted p n
    → KnowsMessage d (after_all d (after d s (Heard c kind m)) entries) s.count m
knows_message d s c p n kind m entries e near e_circuit other =
    let w = was_read d s c kind m p n e in
    let b : Bulletin = record { position = s.count; from = c; kind = kind; body = body_of m } in
    let u : State = after d s (Heard c kind m) in
    let put : u.accepted ≡ s.accepted ++ b ∷ [] = ap (λ (o : Outcome). (after_heard d s c kind m o).accepted) e in
    let g = (history_goes_on d u entries).bulletins in
    again d (after_all d u entries) e_circuit other m w
    (known_at d (after_all d u entries) s.accepted b g.0 w.parts.heading w.parts.text
    (g.1 ∙ ap (λ (bs : List Bulletin). bs ++ g.0) put ∙ append_assoc s.accepted (b ∷ []) g.0) near (heading-read d m w) (text-read d m w))
