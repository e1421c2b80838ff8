-- The origin of an engine's history, with the compactions that were done.
use Rattle.gts_app.proofs.Cited.{◌≡◌, ℕ, ◌+◌, ◌≤◌, List, [], ◌∷◌, ◌++◌, length, take, sym, ap, ◌∙◌, arith, append_assoc, AllByRecursion, Entry, Ghosts as StationMeanings, ObservedOrigin, Origin, Step, begun, compacted_at, compactions, done_by, history, no_bytes, origin_behind, switch_meanings, leb-true, append-nil, length-take-le, compactions_between, common_steps}

abbrev pub AllWithin : ℕ → List ℕ → Type 0
AllWithin n ks = AllByRecursion (λ k. k ≤ n) ks

done_within : (n : ℕ) (ks : List ℕ) → AllWithin n (done_by n ks)
done_within n [] = tt
done_within n (k ∷ ks) = grind (arith, common_steps, leb-true, done_within n ks)

-- the origin with these compactions more
abbrev pub with_more : {observed : Type 0} → ObservedOrigin observed → List ℕ → ObservedOrigin observed
with_more t ks = record t { origin = record t.origin { compactions = t.origin.compactions ++ ks } }

module _ {P : Type 0} (station : StationMeanings P) where
  pub compacted_is : (t : ObservedOrigin station.observed) (h : List Entry) (ks : List ℕ) → AllWithin (length h) ks → compacted_at (switch_meanings station) t h ks ≡ with_more t ks
  compacted_is t h [] each = ap (λ (cs : List ℕ). record t { origin = record t.origin { compactions = cs } }) (sym (append-nil t.origin.compactions))
  compacted_is t h (k ∷ ks) each =
      compacted_is ((switch_meanings station).compacts t (take k h)) h ks each.1
      ∙ ap (λ (cs : List ℕ). record t { origin = record t.origin { compactions = cs } })
      (ap (λ (n : ℕ). (t.origin.compactions ++ n ∷ []) ++ ks) (length-take-le k h each.0) ∙ append_assoc t.origin.compactions (k ∷ []) ks)

  -- behind entries, those compactions count that were done by then
  pub behind_is : (t : ObservedOrigin station.observed) (h : List Entry) (ks : List ℕ) → origin_behind (switch_meanings station) t ks h ≡ with_more t (done_by (length h) ks)
  behind_is t h ks = compacted_is t h (done_by (length h) ks) (done_within (length h) ks)

-- how many entries there were at each compaction of a capture's steps
abbrev pub counts : Origin → List Step → List ℕ
counts o steps = compactions o.directory (begun o.start) 0 steps

-- each comes behind entries of the capture
pub counts_within : (o : Origin) (steps : List Step) → AllWithin (length (history o steps)) (counts o steps)
counts_within o steps = go (counts o steps) (compactions_between o.directory (begun o.start) (no_bytes o.directory) 0 steps)
  where
    go : (xs : List ℕ) → AllByRecursion (λ k. (0 ≤ k) × (k ≤ 0 + length (history o steps))) xs → AllWithin (length (history o steps)) xs
    go [] each = tt
    go (x ∷ xs) each = (omega (arith, each.0.1), go xs each.1)
