-- What is read of a checkpoint that stands in no file.
use Rattle.gts_checkpoint.proofs.Cited.{common_steps, ◌≡◌, ℕ, zero, suc, ◌+◌, ◌-◌, ◌≤◌, min, List, [], ◌∷◌, ◌++◌, length, take, drop, refl, sym, ap, ◌∙◌, arith, length-append, drop-nil, drop-append-add, append-nil, take_at, length-take, in_front, laid, seen}

pub length-in_front : length in_front ≡ 41
unfolding in_front
length-in_front = refl

pub seen-laid : (bytes : List ℕ) → seen (laid bytes) 0 ≡ in_front ++ bytes
seen-laid bytes = ap (λ (l : List ℕ). (in_front ++ bytes) ++ l) (drop-nil (0 + length (in_front ++ bytes))) ∙ append-nil (in_front ++ bytes)

pub behind-in_front : (bytes : List ℕ) (at : ℕ) → 41 ≤ at → drop at (seen (laid bytes) 0) ≡ drop (at - 41) bytes
behind-in_front bytes at low =
    let there : at ≡ length in_front + (at - 41) = omega (arith, low, length-in_front) in
    ap (λ (l : List ℕ). drop at l) (seen-laid bytes) ∙ ap (λ (k : ℕ). drop k (in_front ++ bytes)) there ∙ drop-append-add in_front bytes (at - 41)

pub size-laid : (bytes : List ℕ) → length (seen (laid bytes) 0) ≡ 41 + length bytes
size-laid bytes = ap (λ (l : List ℕ). length l) (seen-laid bytes) ∙ omega (arith, length-append in_front bytes, length-in_front)

pub counted-laid : (bytes : List ℕ) (file at room start count : ℕ) → file ≡ 0 → 41 ≤ at → start ≡ min (length bytes) (at - 41) → count ≡ min room (length bytes - start)
    → count ≡ min room (length (seen (laid bytes) file) - at)
counted-laid bytes file at room start count is low start_is count_is = grind (arith, common_steps, size-laid)

drop-at : (s k : ℕ) (bytes : List ℕ) → s ≡ min (length bytes) k → drop s bytes ≡ drop k bytes
drop-at zero zero bytes is = refl
drop-at zero (suc k) [] is = refl
drop-at zero (suc k) (x ∷ xs) is = absurd (omega (arith, is))
drop-at (suc s) zero bytes is = absurd (omega (arith, is))
drop-at (suc s) (suc k) [] is = refl
drop-at (suc s) (suc k) (x ∷ xs) is = drop-at s k xs (omega (arith, is))

pub taken-laid : (bytes found rest into : List ℕ) (file at start count : ℕ) → file ≡ 0 → 41 ≤ at → start ≡ min (length bytes) (at - 41) → count ≡ min (length into) (length bytes - start)
    → found ≡ take (start + count - start) (drop start bytes) → length found ≡ length (take count into) → take count (found ++ rest) ≡ take count (drop at (seen (laid bytes) file))
taken-laid bytes found rest into file at start count is low start_is count_is found_is long =
    let size : length found ≡ count = omega (arith, long, count_is, length-take count into) in
    let there : drop at (seen (laid bytes) file) ≡ drop start bytes = ap (λ (k : ℕ). drop at (seen (laid bytes) k)) is ∙ behind-in_front bytes at low ∙ sym (drop-at start (at - 41) bytes start_is) in
    take_at found rest count size ∙ found_is ∙ ap (λ (k : ℕ). take k (drop start bytes)) (let e : start + count - start ≡ count = omega arith in e) ∙ ap (take count) (sym there)
