-- The checkpoint of a need is found by its lengths, at the front of whatever stands behind it.
use Rattle.gts_standby.proofs.Cited.{◌≡◌, ℕ, ◌+◌, ◌^◌, ◌<◌, ◌≤◌, List, [], ◌∷◌, ◌++◌, length, drop, Some, sym, ap, ◌∙◌, arith, length-append, AllByRecursion, Behind, Bulletin, Circuit, FitBodies, FitsCircuit, FitsNeed, LONGEST_BODY, Listed, Need, Reached, and_then, behind_all, behind_checkpoint, behind_front, behind_one, bulletin_text, checkpoint_text, circuit_text, flat_map, listed_size, reach_found, drop-drop, drop-append_seam, bulletin_listed, circuit_listed, need_front}
use Rattle.std.proofs.lemmas.List.{append_assoc}
use Rattle.gts_standby.proofs.ScanLemmas.{reach_on}

-- ---- one behind the other

-- each is found by its first bytes
module _ {A : Type 0} (listed : Listed) (text : A → List ℕ) (Fits : A → Type 0) (limit : ℕ) (bytes : List ℕ)
    (found : (x : A) (more : List ℕ) → Fits x → listed_size listed (text x ++ more) ≡ Some (length (text x))) where
  all_there : (xs : List A) (at : ℕ) (more : List ℕ) → AllByRecursion Fits xs → drop at bytes ≡ flat_map text xs ++ more → at + length (flat_map text xs) ≤ limit → at + length (flat_map text xs) ≤ length bytes
      → behind_all (behind_one listed limit bytes) (length xs) at ≡ Behind (at + length (flat_map text xs))
  all_there [] at more fits is low there = ap Behind (let e : at ≡ at + 0 = omega arith in e)
  all_there (x ∷ xs) at more fits is low there =
      let behind : List ℕ = flat_map text xs ++ more in
      let size = length-append (text x) (flat_map text xs) in
      let split : drop at bytes ≡ text x ++ behind = is ∙ append_assoc (text x) (flat_map text xs) more in
      let next : drop (at + length (text x)) bytes ≡ behind =
      sym (drop-drop (length (text x)) at bytes) ∙ ap (drop (length (text x))) split ∙ drop-append_seam (text x) behind in
      ap (λ (r : Reached). and_then r (behind_all (behind_one listed limit bytes) (length xs))) (
      ap (λ (l : List ℕ). reach_found limit bytes at (listed_size listed l)) split ∙ ap (reach_found limit bytes at) (found x behind fits.0)
      ∙ reach_on limit bytes at (length (text x)) (omega (arith, low, size)) (omega (arith, there, size)))
      ∙ all_there xs (at + length (text x)) more fits.1 next (omega (arith, low, size)) (omega (arith, there, size))
      ∙ ap Behind (let e : at + length (text x) + length (flat_map text xs) ≡ at + length (flat_map text (x ∷ xs)) = omega (arith, size) in e)

-- ---- all of it

pub scan_text : (limit : ℕ) (n : Need) (rest : List ℕ) → FitsNeed n → FitBodies n.bulletins → length (checkpoint_text n) ≤ limit
    → behind_checkpoint limit (checkpoint_text n ++ rest) ≡ Behind (length (checkpoint_text n))
scan_text limit n rest fits short low =
    let bytes : List ℕ = checkpoint_text n ++ rest in
    let bs : List ℕ = flat_map bulletin_text n.bulletins in
    let cs : List ℕ = flat_map circuit_text n.circuits in
    let size : length (checkpoint_text n) ≡ 20 + (length bs + length cs) = omega (arith, length-append bs cs) in
    let all : length bytes ≡ length (checkpoint_text n) + length rest = length-append (checkpoint_text n) rest in
    let split : drop 20 bytes ≡ bs ++ (cs ++ rest) = append_assoc bs cs rest in
    let next : drop (20 + length bs) bytes ≡ cs ++ rest =
    sym (drop-drop (length bs) 20 bytes) ∙ ap (drop (length bs)) split ∙ drop-append_seam bs (cs ++ rest) in
    let circuits : ℕ → Reached = behind_all (behind_one Circuit limit bytes) (length n.circuits) in
    ap (behind_front limit bytes) (need_front n rest fits)
    ∙ ap (λ (r : Reached). and_then r (λ at. and_then (behind_all (behind_one Bulletin limit bytes) (length n.bulletins) at) circuits))
    (reach_on limit bytes 0 20 (omega (arith, low, size)) (omega (arith, all, size)))
    ∙ ap (λ (r : Reached). and_then r circuits)
    (all_there Bulletin bulletin_text (λ b. (b.position < 256 ^ 8) × (length b.body ≤ LONGEST_BODY)) limit bytes (λ b more fit. bulletin_listed b more fit.0 fit.1) n.bulletins 20 (cs ++ rest) short split (omega (arith, low, size)) (omega (arith, all, size)))
    ∙ all_there Circuit circuit_text FitsCircuit limit bytes circuit_listed n.circuits (20 + length bs) rest fits.circuits next (omega (arith, low, size)) (omega (arith, all, size))
    ∙ ap Behind (let e : 20 + length bs + length cs ≡ length (checkpoint_text n) = omega (arith, size) in e)
