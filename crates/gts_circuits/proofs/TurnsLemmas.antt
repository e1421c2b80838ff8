-- Turns of a hall, and the entries that they added.
use Rattle.gts_circuits.proofs.Cited.{◌≡◌, ◌≤◌, ◌<◌, ℕ, zero, suc, length, List, [], ◌∷◌, inl, inr, map, refl, sym, ap, subst, some, some-injective, some-ne-none, get_elem?, Entry, NamesAreUpTo, entries_under, flat, under, common_steps, arith}
use Rattle.gts_circuits.proofs.DrainLemmas.{in_both}

-- ---- the names

under_name : (n : ℕ) (more : List Entry) (k : ℕ) (x : ℕ × Entry) → get_elem? (under n more) k ≡ some x → n ≡ x.0
under_name n [] k x at = absurd (some-ne-none x (sym at))
under_name n (e ∷ more) zero x at = ap (λ (y : ℕ × Entry). y.0) (some-injective (n, e) x at)
under_name n (e ∷ more) (suc k) x at = under_name n more k x at

-- the names of the entries are those of the turns
pub named_flat : (turns : List (ℕ × List Entry)) (count : ℕ) → NamesAreUpTo count turns → NamesAreUpTo count (flat turns)
named_flat [] count names k x at = absurd (some-ne-none x (sym at))
named_flat (turn ∷ turns) count names k x at = elim (in_both (under turn.0 turn.1) (flat turns) k x at) as (λ _. (0 < x.0) × (x.0 ≤ count)) [
  | inl here ↦ subst (λ (n : ℕ). (0 < n) × (n ≤ count)) (under_name turn.0 turn.1 here.0 x here.1) (names 0 turn refl)
  | inr behind ↦ named_flat turns count (λ j y there. names (suc j) y there) behind.0 x behind.1
]

-- ---- a turn for each entry

abbrev pub as_turns : List (ℕ × Entry) → List (ℕ × List Entry)
as_turns history = map (λ x. (x.0, x.1 ∷ [])) history

pub flat_turns : (history : List (ℕ × Entry)) → flat (as_turns history) ≡ history
flat_turns [] = refl
flat_turns (x ∷ history) = ap (λ (l : List (ℕ × Entry)). x ∷ l) (flat_turns history)

pub count_turns : (n : ℕ) (history : List (ℕ × Entry)) → length (entries_under n (as_turns history)) ≡ length (entries_under n history)
count_turns n [] = refl
count_turns n (x ∷ history) = grind (arith, common_steps, count_turns n history)
