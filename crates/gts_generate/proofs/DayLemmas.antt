-- Pieces of a capture, one behind another.
use Rattle.gts_generate.proofs.Cited.{◌≡◌, ℕ, suc, zero, ◌+◌, ◌-◌, ◌*◌, ◌<◌, ◌≤◌, List, [], ◌∷◌, ◌++◌, length, take, drop, min, map, refl, subst, sym, ◌∙◌, ap, append_assoc, post_of, put_mid, take-append-add, take-append-le, length-take-le, arith, codes, flat_map, append-nil, take-append-drop, take_at, length-append, length-take, length-drop, map-range_with_len_more, flat_map-append, Drain, Step, capture, capture_from, dec, ending, pieces_from, pieces_left, range_with_len, step_text, steps_of, turn, common_steps}

-- one more circuit is drained
pub drains-more : (c : ℕ) → flat_map step_text (map Drain (range_with_len 0 (c + 1)))
    ≡ flat_map step_text (map Drain (range_with_len 0 c)) ++ (codes "D " ++ dec 2 c ++ codes "\n")
drains-more c =
    let front = flat_map step_text (map Drain (range_with_len 0 c)) in
    ap (λ (s : List Step). flat_map step_text s) (map-range_with_len_more Drain 0 c c (omega arith))
    ∙ flat_map-append step_text (map Drain (range_with_len 0 c)) (Drain c ∷ [])
    ∙ ap (λ (l : List ℕ). front ++ l) (append-nil (step_text (Drain c)) ∙ append-nil (codes "D " ++ dec 2 c ++ codes "\n"))

-- five bytes for each
drained-size : (a c : ℕ) → length (flat_map step_text (map Drain (range_with_len a c))) ≡ 5 * c
unfolding dec
drained-size a zero = refl
drained-size a (suc c) = omega (arith, drained-size (a + 1) c)

pub drained : (bytes : List ℕ) (c : ℕ) → bytes ≡ flat_map step_text (map Drain (range_with_len 0 c)) → length bytes ≡ 5 * c
drained bytes c here = ap length here ∙ drained-size 0 c

-- the steps of messages are those of each, one after another
turns : (numbers : List ℕ) → flat_map step_text (flat_map steps_of numbers) ≡ flat_map turn numbers
turns [] = refl
turns (i ∷ numbers) = grind (arith, common_steps, flat_map-append, turns numbers)

-- a capture is its pieces from the first message on
pub capture-pieces : (count : ℕ) → capture count ≡ capture_from 0 count
capture-pieces count = grind (arith, common_steps, flat_map-append, turns)

-- before the first piece
pub pieces-all : (count : ℕ) → pieces_left 0 count ≡ capture count
pieces-all count = grind (arith, common_steps, capture-pieces)

-- the piece of a message, and what comes behind it
pub pieces-more : (next count : ℕ) → next < count → pieces_left next count ≡ turn next ++ pieces_left (next + 1) count
pieces-more next count here =
    let more : ℕ = count - (next + 1) in
    let now : count + 1 - next ≡ suc (suc more) = omega (arith, here) in
    let later : count + 1 - (next + 1) ≡ suc more = omega (arith, here) in
    ap (λ (n : ℕ). pieces_from next n) now
    ∙ append_assoc (turn next) (flat_map turn (range_with_len (next + 1) more)) ending
    ∙ ap (λ (n : ℕ). turn next ++ pieces_from (next + 1) n) (sym later)

-- a buffer after as many bytes as it has room for were copied to its front
pub reads_on : (left rest into : List ℕ) (count : ℕ) → count ≡ min (length left) (length into) → (length left ≡ 0 → left ++ rest ≡ [])
    → (left ++ rest ≡ take count (take count left ++ drop count into) ++ (drop count left ++ rest))
    × (count ≡ 0 → 0 < length (take count left ++ drop count into) → left ++ rest ≡ [])
reads_on left rest into count is_least ready =
    let whole : length (take count left) ≡ count = omega (arith, length-take count left) in
    let front : take count (take count left ++ drop count into) ≡ take count left = take_at (take count left) (drop count into) count whole in (
      rw front (ap (λ (l : List ℕ). l ++ rest) (sym (take-append-drop count left)) ∙ append_assoc (take count left) (drop count left) rest),
      λ none room.
          let room_before : 0 < length into = omega (arith, length-append (take count left) (drop count into), length-drop count into) in
          ready (omega arith),
    )

-- a piece behind the first bytes of a buffer
filled : (a k n : ℕ) (xs ys : List ℕ) → a ≤ length xs → n ≤ length ys → take (a + n) (put_mid a k xs ys) ≡ take a xs ++ take n ys
filled a k n xs ys within few =
    let after : List ℕ = post_of a k xs in
    let front : length (take a xs) ≡ a = length-take-le a xs within in
    ap (λ (m : ℕ). take (m + n) (take a xs ++ (ys ++ after))) (sym front) ∙ take-append-add (take a xs) (ys ++ after) n
    ∙ ap (λ (zs : List ℕ). take a xs ++ zs) (take-append-le n ys after few)

pub handed-more : (old mid now : List ℕ) (a k n : ℕ) (xs ys : List ℕ) → a ≤ length xs → n ≤ length ys → old ≡ take a xs ++ mid → mid ≡ take n ys ++ now
    → old ≡ take (a + n) (put_mid a k xs ys) ++ now
handed-more old mid now a k n xs ys within few first second =
    first ∙ ap (λ (l : List ℕ). take a xs ++ l) second ∙ sym (append_assoc (take a xs) (take n ys) now) ∙ ap (λ (l : List ℕ). l ++ now) (sym (filled a k n xs ys within few))

-- and one that is empty
pub handed-none : (old mid now : List ℕ) (a k n : ℕ) (xs ys : List ℕ) → a ≤ length xs → n ≡ 0 → old ≡ take a xs ++ mid → mid ≡ take n ys ++ now
    → old ≡ take a (put_mid a k xs ys) ++ now
handed-none old mid now a k n xs ys within none first second =
    let P : ℕ → Type 0 = λ m. old ≡ take m (put_mid a k xs ys) ++ now in
    let all : a + n ≡ a = omega (arith, none) in
    subst P all (handed-more old mid now a k n xs ys within (omega (arith, none)) first second)
