use Rattle.gts_calls.proofs.Cited.{◌≡◌, ◌<◌, ◌≤◌, ◌-◌, ℕ, List, length, take, HasMessage, Reads, held_in}
use Rattle.gts_calls.proofs.reading.next_step.Given as goal

-- the bytes so far came to this step
abbrev pub invariant-loop-taken : goal.invariant-loop-taken
invariant-loop-taken l = record {
  most : l.taken ≤ length l.piece;
  some : 0 < l.taken;
  message : HasMessage l.step l.decoder.message;
  reads : (before : List ℕ) → l.fn.decoder.held ≡ held_in before → Reads before (take l.taken l.piece) l.step l.decoder;
}

abbrev pub decreases-loop-taken : goal.decreases-loop-taken
decreases-loop-taken l = length l.piece - l.taken
