-- Which directory takes over from another one: the loops over its rows, and what both forms of the definition say.
use Rattle.gts_directory.proofs.Cited.{◌≡◌, ℕ, zero, suc, ◌+◌, ◌<◌, ◌≤◌, Bool, true, false, nat_eq, List, [], ◌∷◌, length, map, get_or, drop, Option, None, Some, cond, refl, sym, ◌∙◌, ap, arith, inl, inr, BeginWith, Change, Circuit, Directory, KeepsPlace, Rows, TakesOver, change_in, circuit_of_row, directory_of_rows, first_change, first_changed, keeps_place, option_or, pointwise, row_keeps_place, top_stays, cases_Bool, eqb-true, and_parts, common_steps}
use Rattle.gts_directory.specs.declared.fault.Part as part
use Rattle.gts_directory.specs.declared.fault.Part.TheVariants as parts
use Rattle.gts_directory.proofs.NameLemmas.{same_as_itself}

-- all rows below i stay
pub record AllStayBelow {A : Type 0} (stays : A → A → Bool) (old new : List A) (i : ℕ) : Type 0 where
  pub rest : first_changed stays i (drop i old) (drop i new) ≡ first_changed stays 0 old new

-- a row that isn't there any more is the first that doesn't stay
gone : {A : Type 0} (stays : A → A → Bool) (n i : ℕ) (old new : List A) → i < length old → length new ≤ i
    → first_changed stays n (drop i old) (drop i new) ≡ Some n
gone stays n i [] new within none = absurd (omega (arith, within))
gone stays n zero (row ∷ old) [] within none = refl
gone stays n zero (row ∷ old) (other ∷ new) within none = absurd (omega (arith, none))
gone stays n (suc i) (row ∷ old) [] within none = no_rows i ∙ gone stays n i old [] (omega (arith, within)) (omega arith)
  where
    no_rows : (i : ℕ) → first_changed stays n (drop i old) [] ≡ first_changed stays n (drop i old) (drop i [])
    no_rows zero = refl
    no_rows (suc i) = refl
gone stays n (suc i) (row ∷ old) (other ∷ new) within none = gone stays n i old new (omega (arith, within)) (omega (arith, none))

-- and so is one that is there and doesn't stay
differs : {A : Type 0} (stays : A → A → Bool) (n i : ℕ) (old new : List A) (d e : A) → i < length old → i < length new
    → stays (get_or old i d) (get_or new i e) ≡ false → first_changed stays n (drop i old) (drop i new) ≡ Some n
differs stays n i [] new d e within there other = absurd (omega (arith, within))
differs stays n i (row ∷ old) [] d e within there other = absurd (omega (arith, there))
differs stays n zero (row ∷ old) (new ∷ rows) d e within there other = rw other refl
differs stays n (suc i) (row ∷ old) (new ∷ rows) d e within there other = grind (arith, common_steps)

-- one that stays is passed over
passed : {A : Type 0} (stays : A → A → Bool) (n i : ℕ) (old new : List A) (d e : A) → i < length old → i < length new
    → stays (get_or old i d) (get_or new i e) ≡ true
    → first_changed stays n (drop i old) (drop i new) ≡ first_changed stays (n + 1) (drop (suc i) old) (drop (suc i) new)
passed stays n i [] new d e within there same = absurd (omega (arith, within))
passed stays n i (row ∷ old) [] d e within there same = absurd (omega (arith, there))
passed stays n zero (row ∷ old) (new ∷ rows) d e within there same = rw same refl
passed stays n (suc i) (row ∷ old) (new ∷ rows) d e within there same =
    passed stays n i old rows d e (omega (arith, within)) (omega (arith, there)) same

pub found_gone : {A : Type 0} (stays : A → A → Bool) (i : ℕ) (old new : List A) → AllStayBelow stays old new i → i < length old
    → length new ≤ i → Some i ≡ first_changed stays 0 old new
found_gone stays i old new below within none = sym (gone stays i i old new within none) ∙ below.rest

pub found_other : {A : Type 0} (stays : A → A → Bool) (i : ℕ) (old new : List A) (d e : A) → AllStayBelow stays old new i
    → i < length old → i < length new → stays (get_or old i d) (get_or new i e) ≡ false → Some i ≡ first_changed stays 0 old new
found_other stays i old new d e below within there other = sym (differs stays i i old new d e within there other) ∙ below.rest

pub next_stays : {A : Type 0} (stays : A → A → Bool) (i : ℕ) (old new : List A) (d e : A) → AllStayBelow stays old new i
    → i < length old → i < length new → stays (get_or old i d) (get_or new i e) ≡ true → AllStayBelow stays old new (i + 1)
next_stays stays i old new d e below within there same = grind (arith, common_steps, passed)

-- the rows of a directory are looked at as they are
first_changed-map : {A B : Type 0} (stays : B → B → Bool) (f g : A → B) (n : ℕ) (old new : List A)
    → first_changed (λ a b. stays (f a) (g b)) n old new ≡ first_changed stays n (map f old) (map g new)
first_changed-map stays f g n [] new = refl
first_changed-map stays f g n (row ∷ old) [] = refl
first_changed-map stays f g n (row ∷ old) (new ∷ rows) = grind (arith, common_steps, cases_Bool, first_changed-map stays f g (n + 1) old rows)

-- equal texts
same_text : (xs ys : List ℕ) → pointwise nat_eq xs ys ≡ true → ys ≡ xs
same_text [] [] h = refl
same_text [] (y ∷ ys) h = absurd (cc)
same_text (x ∷ xs) [] h = absurd (cc)
same_text (x ∷ xs) (y ∷ ys) h =
    let parts = and_parts (nat_eq x y) (pointwise nat_eq xs ys) h in
    ap (λ (n : ℕ). n ∷ ys) (sym (eqb-true x y parts.0)) ∙ ap (λ (ns : List ℕ). x ∷ ns) (same_text xs ys parts.1)

text_same : (xs ys : List ℕ) → ys ≡ xs → pointwise nat_eq xs ys ≡ true
text_same xs ys same = rw same (same_as_itself xs)

-- both forms of what stays
circuit_from : (old new : Circuit) → keeps_place old new ≡ true → KeepsPlace old new
circuit_from old new h = grind (arith, common_steps, and_parts, same_text)

from_circuit : (old new : Circuit) → KeepsPlace old new → keeps_place old new ≡ true
from_circuit old new stays = grind (arith, common_steps, text_same)

-- all rows stay exactly where none is the first that doesn't
begin_with : {A : Type 0} (stays : A → A → Bool) (Stays : A → A → Type 0) → ((a b : A) → stays a b ≡ true → Stays a b)
    → (n : ℕ) (old new : List A) → first_changed stays n old new ≡ None → BeginWith Stays old new
begin_with stays Stays from n [] new h = tt
begin_with stays Stays from n (row ∷ old) [] h = absurd (cc)
begin_with stays Stays from n (row ∷ old) (new ∷ rows) h =
    elim (cases_Bool (stays row new)) [
      | inl same ↦ (from row new same, begin_with stays Stays from (n + 1) old rows (rw same at h))
      | inr other ↦ absurd (let none = rw other at h in cc)
    ]

none_changed : {A : Type 0} (stays : A → A → Bool) (Stays : A → A → Type 0) → ((a b : A) → Stays a b → stays a b ≡ true)
    → (n : ℕ) (old new : List A) → BeginWith Stays old new → first_changed stays n old new ≡ None
none_changed stays Stays to n [] new h = refl
none_changed stays Stays to n (row ∷ old) [] h = absurd h
none_changed stays Stays to n (row ∷ old) (new ∷ rows) h = rw (to row new h.0) (none_changed stays Stays to (n + 1) old rows h.1)

-- what stands once
top_from : (old new : Directory) → top_stays old new ≡ true → new.centre ≡ old.centre
top_from old new h = same_text _ _ h

from_top : (old new : Directory) → new.centre ≡ old.centre → top_stays old new ≡ true
from_top old new centre = text_same _ _ centre

no_change : (p : part.Part) (row : Option ℕ) → change_in p row ≡ None → row ≡ None
no_change p None h = refl
no_change p (Some row) h = absurd (cc)

-- the parts in their order
join_none : (a b : Option Change) → option_or a b ≡ None → (a ≡ None) × (b ≡ None)
join_none None b h = (refl, h)
join_none (Some change) b h = absurd (cc)

top_none : (b : Bool) → change_in parts.Top (cond b None (Some 0)) ≡ None → b ≡ true
top_none true h = refl
top_none false h = absurd (cc)

-- no row changes exactly where the directory takes over from the old one
pub takes_over_from : (new old : Directory) → first_change new old ≡ None → TakesOver new old
takes_over_from new old h = grind (arith, common_steps, join_none, top_from, top_none, begin_with, circuit_from, no_change)

pub none_from : (new old : Directory) → TakesOver new old → first_change new old ≡ None
none_from new old e = grind (arith, common_steps, from_top, none_changed, from_circuit)

-- a circuit is the first row that doesn't stay, or none is
pub circuit_change : (new old : Rows) (row : Option ℕ) → top_stays (directory_of_rows old) (directory_of_rows new) ≡ true
    → row ≡ first_changed row_keeps_place 0 old.circuits new.circuits
    → change_in parts.Circuit row ≡ first_change (directory_of_rows new) (directory_of_rows old)
circuit_change new old row top told =
    rw top (ap (change_in parts.Circuit) (told ∙ first_changed-map keeps_place circuit_of_row circuit_of_row 0 old.circuits new.circuits))
