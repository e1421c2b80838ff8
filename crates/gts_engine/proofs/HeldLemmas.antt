-- What is held, piece by piece.
use Rattle.gts_engine.proofs.Cited.{◌≡◌, ◌≤◌, ◌+◌, ℕ, zero, suc, List, [], ◌∷◌, ◌++◌, length, take, drop, Some, sym, ap, ◌∙◌, arith, length-drop, slice_get, Outside, Saying, on, pieces_of, sizes_of, slice_index_or, take-append-le, drop-append-le, take_all, take_at, length-take-le, take-take, drop-take, drop-drop, nil_from_length, sum_by-cons, sum_by-take-le, common_steps}

-- the size of one, and those of the others
sizes_cons : (s : Saying) (each : List Saying) → sizes_of (s ∷ each) ≡ s.size + sizes_of each
sizes_cons s each = sum_by-cons (λ (x : Saying). x.size) s each

-- one more is held behind the others
pub pieces_hold : (each : List Saying) (bytes : List ℕ) (s : Saying) (new : List ℕ) → sizes_of each ≡ length bytes → s.size ≡ length new → pieces_of (each ++ s ∷ []) (bytes ++ new) ≡ pieces_of each bytes ++ on s.channel new ∷ []
pieces_hold [] bytes s new sizes size = grind (arith, common_steps, nil_from_length, take_all)
pieces_hold (t ∷ each) bytes s new sizes size =
    let within : t.size ≤ length bytes = omega (arith, sizes, sizes_cons t each) in
    let behind : sizes_of each ≡ length (drop t.size bytes) = omega (arith, sizes, sizes_cons t each, length-drop t.size bytes) in
    ap (λ (l : List ℕ). on t.channel l ∷ pieces_of (each ++ s ∷ []) (drop t.size (bytes ++ new))) (take-append-le t.size bytes new within)
    ∙ ap (λ (l : List ℕ). on t.channel (take t.size bytes) ∷ pieces_of (each ++ s ∷ []) l) (drop-append-le t.size bytes new within)
    ∙ ap (λ (ps : List Outside). on t.channel (take t.size bytes) ∷ ps) (pieces_hold each (drop t.size bytes) s new behind size)

-- the piece of a number
pub piece_at : (each : List Saying) (bytes : List ℕ) (i : ℕ) (s : Saying) → slice_get each i ≡ Some s → slice_index_or (pieces_of each bytes) i [] ≡ on s.channel (take s.size (drop (sizes_of (take i each)) bytes))
piece_at [] bytes i s is = absurd (cc is)
piece_at (t ∷ each) bytes zero s is = let same : t ≡ s = cc is in ap (λ (x : Saying). on x.channel (take x.size bytes)) same
piece_at (t ∷ each) bytes (suc i) s is =
    piece_at each (drop t.size bytes) i s is ∙ ap (λ (l : List ℕ). on s.channel (take s.size l)) (drop-drop (sizes_of (take i each)) t.size bytes ∙ ap (λ (n : ℕ). drop n bytes) (omega (arith, sizes_cons t (take i each))))

-- where it ends
pub sizes_next : (each : List Saying) (i : ℕ) (s : Saying) → slice_get each i ≡ Some s → sizes_of (take (suc i) each) ≡ sizes_of (take i each) + s.size
sizes_next [] i s is = absurd (cc is)
sizes_next (t ∷ each) zero s is = let same : t ≡ s = cc is in omega (arith, ap (λ (x : Saying). x.size) same)
sizes_next (t ∷ each) (suc i) s is = omega (arith, sizes_cons t (take (suc i) each), sizes_cons t (take i each), sizes_next each i s is)

pub sizes_within : (each : List Saying) (i : ℕ) → sizes_of (take i each) ≤ sizes_of each
sizes_within each i = sum_by-take-le (λ (x : Saying). x.size) each i

-- bytes that are put behind the first ones, in the place of as many
pub put_behind : (before new : List ℕ) (size count : ℕ) → count ≡ length new → size + length new ≤ length before
    → (length (take size before ++ (new ++ drop count (drop size before))) ≡ length before) × (take (size + length new) (take size before ++ (new ++ drop count (drop size before))) ≡ take size before ++ new)
put_behind before new size count is fits = grind (arith, common_steps, length-take-le, take_at)

-- bytes within the first ones
pub within_front : (bytes : List ℕ) (size from count : ℕ) → from + count ≤ size → take count (drop from (take size bytes)) ≡ take count (drop from bytes)
within_front bytes size from count fits =
    sym (drop-take from count (take size bytes)) ∙ ap (λ (l : List ℕ). drop from l) (take-take (from + count) size bytes fits) ∙ drop-take from count bytes
