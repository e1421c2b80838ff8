-- Frames in one buffer, one by one.
use Rattle.gts_calls.proofs.Cited.{◌≡◌, ◌≤◌, ◌+◌, ℕ, zero, suc, List, [], ◌∷◌, ◌++◌, length, take, drop, Some, sym, ap, ◌∙◌, arith, length-drop, slice_get, Frame, Placed, frames_in, no_frame, sizes_of, slice_index_or, take-append-le, drop-append-le, take_all, take_at, length-take-le, take-take, drop-take, drop-drop, nil_from_length, sum_by-cons, sum_by-take-le, common_steps}

-- the size of one, and those of the others
sizes_cons : (s : Placed) (each : List Placed) → sizes_of (s ∷ each) ≡ s.size + sizes_of each
sizes_cons s each = sum_by-cons (λ (x : Placed). x.size) s each

-- one more is laid behind the others
pub frames_more : (each : List Placed) (bytes : List ℕ) (s : Placed) (new : List ℕ) → sizes_of each ≡ length bytes → s.size ≡ length new
    → frames_in (each ++ s ∷ []) (bytes ++ new) ≡ frames_in each bytes ++ record { index = s.index; text = new } ∷ []
frames_more [] bytes s new sizes size = grind (arith, common_steps, nil_from_length, take_all)
frames_more (t ∷ each) bytes s new sizes size =
    let within : t.size ≤ length bytes = omega (arith, sizes, sizes_cons t each) in
    let behind : sizes_of each ≡ length (drop t.size bytes) = omega (arith, sizes, sizes_cons t each, length-drop t.size bytes) in
    let F : List ℕ → List Frame → List Frame = λ l fs. record { index = t.index; text = l } ∷ fs in
    ap (λ (l : List ℕ). F l (frames_in (each ++ s ∷ []) (drop t.size (bytes ++ new)))) (take-append-le t.size bytes new within)
    ∙ ap (λ (l : List ℕ). F (take t.size bytes) (frames_in (each ++ s ∷ []) l)) (drop-append-le t.size bytes new within)
    ∙ ap (F (take t.size bytes)) (frames_more each (drop t.size bytes) s new behind size)

-- the frame of a number
pub frame_at : (each : List Placed) (bytes : List ℕ) (i : ℕ) (s : Placed) → slice_get each i ≡ Some s
    → slice_index_or (frames_in each bytes) i no_frame ≡ record { index = s.index; text = take s.size (drop (sizes_of (take i each)) bytes) }
frame_at [] bytes i s is = absurd (cc is)
frame_at (t ∷ each) bytes zero s is = grind (arith, common_steps)
frame_at (t ∷ each) bytes (suc i) s is =
    let F : List ℕ → Frame = λ l. record { index = s.index; text = take s.size l } in
    frame_at each (drop t.size bytes) i s is
    ∙ ap F (drop-drop (sizes_of (take i each)) t.size bytes ∙ ap (λ (n : ℕ). drop n bytes) (omega (arith, sizes_cons t (take i each))))

-- where it ends
pub sizes_next : (each : List Placed) (i : ℕ) (s : Placed) → slice_get each i ≡ Some s → sizes_of (take (suc i) each) ≡ sizes_of (take i each) + s.size
sizes_next [] i s is = absurd (cc is)
sizes_next (t ∷ each) zero s is = let same : t ≡ s = cc is in omega (arith, ap (λ (x : Placed). x.size) same)
sizes_next (t ∷ each) (suc i) s is = omega (arith, sizes_cons t (take (suc i) each), sizes_cons t (take i each), sizes_next each i s is)

pub sizes_within : (each : List Placed) (i : ℕ) → sizes_of (take i each) ≤ sizes_of each
sizes_within each i = sum_by-take-le (λ (x : Placed). x.size) each i

-- bytes that are put behind the first ones, in the place of as many
pub put_behind : (before new : List ℕ) (size count : ℕ) → count ≡ length new → size + length new ≤ length before
    → (length (take size before ++ (new ++ drop count (drop size before))) ≡ length before) × (take (size + length new) (take size before ++ (new ++ drop count (drop size before))) ≡ take size before ++ new)
put_behind before new size count is fits = grind (arith, common_steps, length-take-le, take_at)

-- bytes within the first ones
pub within_front : (bytes : List ℕ) (size from count : ℕ) → from + count ≤ size → take count (drop from (take size bytes)) ≡ take count (drop from bytes)
within_front bytes size from count fits =
    sym (drop-take from count (take size bytes)) ∙ ap (λ (l : List ℕ). drop from l) (take-take (from + count) size bytes fits) ∙ drop-take from count bytes
