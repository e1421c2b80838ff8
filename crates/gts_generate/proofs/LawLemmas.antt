-- The answers of the laws.
use Rattle.gts_generate.proofs.Cited.{◌≡◌, ℕ, ◌+◌, ◌*◌, ◌≤◌, List, [], ◌∷◌, ◌++◌, length, refl, sym, ap, ◌∙◌, arith, flat_map, An, AreStepsOf, CaptureKind, Compact, Connections, Directory, Drain, Entry, Feed, FeedHead, IsHeadOf, IsWhole, Journaled, LONGEST_CAPTURE, Reopen, Restart, State, Step, Take, Traffic, after_all, after_step, capture, compactions, compactions_from, count_at, dec, directory, drains, ending, entries_of_step, frame, head_of, head_text, message, no_bytes, range_with_len, step_text, steps, steps_of, turn, append-nil, length-append, length-range_with_len, common_steps}
use Rattle.gts_generate.proofs.DayLemmas.{capture-pieces}
use Rattle.gts_generate.proofs.FedLemmas.{day-body}

-- a frame can stand in a feed
pub frame-size : (i : ℕ) → length (frame An (message i)) ≤ 999999
unfolding dec
frame-size i = omega (arith, (day-body i).short)

-- the steps may stand in a capture of either kind
pub are-steps : (kind : CaptureKind) (numbers : List ℕ) → AreStepsOf kind directory (flat_map steps_of numbers ++ drains)
are-steps kind [] = grind (arith, common_steps)
are-steps kind (i ∷ numbers) = ((omega arith, frame-size i), (omega arith, are-steps kind numbers))

-- ---- a capture is short

-- a feed of a frame and a take
three-sizes : (h f t : List ℕ) → length h ≡ 12 → length f ≤ 999999 → length t ≡ 5 → length ((h ++ f) ++ t) ≤ 1000016
three-sizes h f t eh ef et = omega (arith, eh, ef, et, length-append (h ++ f) t, length-append h f)

feed-size : (c n : ℕ) → length (head_text (FeedHead c n)) ≡ 12
unfolding dec
feed-size c n = refl

take-size : (c : ℕ) → length (step_text (Take c) ++ []) ≡ 5
unfolding dec
take-size c = refl

turn-size : (i : ℕ) → length (turn i) ≤ 1000016
turn-size i = grind (arith, common_steps, three-sizes, feed-size, frame-size, take-size)

turns-size : (numbers : List ℕ) → length (flat_map turn numbers) ≤ 1000016 * length numbers
turns-size [] = omega arith
turns-size (i ∷ numbers) = omega (arith, turn-size i, turns-size numbers, length-append (turn i) (flat_map turn numbers))

ending-size : length ending ≡ 42
unfolding dec
ending-size = refl

capture-size : (count : ℕ) → count ≤ 100000 → length (capture count) ≤ LONGEST_CAPTURE
capture-size count few = grind (arith, common_steps, capture-pieces, length-append, ending-size, turns-size, length-range_with_len)

pub read-as-steps : (count : ℕ) → count ≤ 100000 → IsWhole directory (capture count) (steps count)
read-as-steps count few = record {
  are = are-steps Journaled (range_with_len 0 count);
  within = capture-size count few;
  unread = [];
  text = sym (append-nil (capture count));
}

-- ---- none of them compacts the journal

no-count : (n : ℕ) (step : Step) → IsHeadOf Traffic directory (head_of step) → count_at n step ≡ []
no-count n (Feed c bytes) valid = refl
no-count n (Take c) valid = refl
no-count n (Reopen c) valid = refl
no-count n (Drain c) valid = refl
no-count n Restart valid = refl
no-count n Compact valid = absurd (cc)

traffic-counts : (d : Directory) (s : State) (bs : Connections) (n : ℕ) (steps : List Step) → AreStepsOf Traffic directory steps → compactions_from d s bs n steps ≡ []
traffic-counts d s bs n [] are = refl
traffic-counts d s bs n (step ∷ steps) are =
    let added : List Entry = entries_of_step s bs step in
    ap (λ (ks : List ℕ). ks ++ compactions_from d (after_all d s added) (after_step d bs step) (n + length added) steps) (no-count n step are.0)
    ∙ traffic-counts d (after_all d s added) (after_step d bs step) (n + length added) steps are.1

pub never-compacts : (d : Directory) (s : State) (n count : ℕ) → compactions d s n (steps count) ≡ []
never-compacts d s n count = traffic-counts d s (no_bytes d) n (steps count) (are-steps Traffic (range_with_len 0 count))
