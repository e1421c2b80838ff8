-- A set is missing, or whole, as the counts say.
use Rattle.std.proofs.Common.{◌≡◌, ℕ, ◌+◌, ◌-◌, ◌<◌, ◌≤◌, ◌%◌, Bool, true, false, IsTrue, nat_lt, refl, sym, ap, ◌∙◌, zero-add, mod-lt, arith, ◌↔◌}
use Rattle.std.proofs.lemmas.Bool.{true≢false, ltb-true, ltb-false, false_from_ne_true as bool_false}
use Rattle.gts_segments.specs.Cited.{GROUPS, IsComplete, IsMissing, LETTERS, PLACES, passing}
use Rattle.gts_segments.proofs.PassingLemmas.{none_passes, passes_none, each_passes, passes_each, one_passes, passes_one, passing-add}

at_start : (p : ℕ → Bool) (i : ℕ) → p (0 + i) ≡ p i
at_start p i = ap p (zero-add i)

-- all groups are the places and the last segments
pub all_groups : (p : ℕ → Bool) → passing p 0 GROUPS ≡ passing p 0 PLACES + passing p PLACES LETTERS
all_groups p = passing-add p 0 PLACES LETTERS

pub missing_from_zero : (p : ℕ → Bool) → passing p 0 PLACES + passing p PLACES LETTERS ≡ 0 → IsMissing p
missing_from_zero p e place h = sym (at_start p place) ∙ none_passes p 0 GROUPS (all_groups p ∙ e) place h

pub zero_from_missing : (p : ℕ → Bool) → IsMissing p → passing p 0 PLACES + passing p PLACES LETTERS ≡ 0
zero_from_missing p missing = sym (all_groups p) ∙ passes_none p 0 GROUPS (λ i h. at_start p i ∙ missing i h)

-- the places below k are noted, and none above
pub places_of_complete : (p : ℕ → Bool) (k : ℕ) → IsComplete p k → passing p 0 PLACES ≡ k
places_of_complete p k is =
    let rest : ℕ = PLACES - k in
    let whole : k + rest ≡ PLACES = omega (arith, is.within) in
    let below : passing p 0 k ≡ k = passes_each p 0 k (λ i h. at_start p i ∙ (is.places i (omega (arith, h, is.within))).1 h) in
    let above : passing p (0 + k) rest ≡ 0 =
    passes_none p (0 + k) rest (λ i h. bool_false (p (0 + k + i)) (λ here. omega (arith, (is.places (0 + k + i) (omega (arith, h, whole))).0 here))) in
    ap (passing p 0) (sym whole) ∙ passing-add p 0 k rest ∙ omega (arith, below, above)

pub lasts_of_complete : (p : ℕ → Bool) (k : ℕ) → IsComplete p k → (passing p PLACES LETTERS ≡ 1) × (p (PLACES + k % LETTERS) ≡ true)
lasts_of_complete p k is =
    let letter : k % LETTERS < LETTERS = mod-lt k (omega arith) in
    let noted : p (PLACES + k % LETTERS) ≡ true = (is.last (k % LETTERS) letter).1 refl in
    (passes_one p PLACES LETTERS (k % LETTERS) letter noted (λ i h here. (is.last i h).0 here), noted)

pub first_of_complete : (p : ℕ → Bool) (k : ℕ) → IsComplete p k → passing p 0 k ≡ k
first_of_complete p k is = passes_each p 0 k (λ i h. at_start p i ∙ (is.places i (omega (arith, h, is.within))).1 h)

pub complete_from_counts : (p : ℕ → Bool) (k : ℕ) → passing p 0 PLACES ≡ k → k ≤ PLACES → passing p 0 k ≡ k → passing p PLACES LETTERS ≡ 1 → p (PLACES + k % LETTERS) ≡ true → IsComplete p k
complete_from_counts p k places within first lasts noted =
    let rest : ℕ = PLACES - k in
    let whole : k + rest ≡ PLACES = omega (arith, within) in
    let sum : passing p 0 PLACES ≡ passing p 0 k + passing p (0 + k) rest = ap (passing p 0) (sym whole) ∙ passing-add p 0 k rest in
    let none : passing p (0 + k) rest ≡ 0 = omega (arith, sum, places, first) in
    record {
      within = within;
      places = λ place h. (
        λ here. below place h here none,
        λ less. sym (at_start p place) ∙ each_passes p 0 k first place less,
      );
      last = λ letter h. (
        λ here. one_passes p PLACES LETTERS (k % LETTERS) lasts (mod-lt k (omega arith)) noted letter h here,
        λ same. ap (λ (l : ℕ). p (PLACES + l)) same ∙ noted,
      );
    }
  where
    below : (place : ℕ) → place < PLACES → p place ≡ true → passing p (0 + k) (PLACES - k) ≡ 0 → place < k
    below place h here none =
        elim (nat_lt place k) as (λ b. nat_lt place k ≡ b → place < k) [
          | true ↦ λ less. ltb-true place k less
          | false ↦ λ more.
              let above : k ≤ place = ltb-false place k more in
              let there : 0 + k + (place - k) ≡ place = omega (arith, above) in
              absurd (true≢false (sym here ∙ ap p (sym there) ∙ none_passes p (0 + k) (PLACES - k) none (place - k) (omega (arith, above, h, within))))
        ] refl

-- what the test says, where there is one last segment and the places are the first ones
pub whole_then : (p : ℕ → Bool) (places lasts : ℕ) (noted : Bool) → places ≡ passing p 0 PLACES → lasts ≡ passing p PLACES LETTERS → places ≤ PLACES
    → lasts ≡ 1 → passing p 0 places ≡ places → noted ≡ p (PLACES + places % LETTERS) → IsTrue noted ↔ IsComplete p places
whole_then p places lasts noted is_places is_lasts within one first is_noted = (
  λ here. complete_from_counts p places (sym is_places) within first (sym is_lasts ∙ one) (sym is_noted ∙ here),
  λ complete. is_noted ∙ (lasts_of_complete p places complete).1,
)
