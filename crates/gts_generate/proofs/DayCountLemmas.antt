-- The counts of a day.
use Rattle.gts_generate.proofs.Cited.{◌≡◌, ℕ, ◌+◌, ◌-◌, true, refl, arith, IsHeld, IsOrdered, Traffic, directory, draws_in, frames_in, frames_said, history, is_accepted, is_draw, is_here, is_resend, list_all, need, nothing, outcomes_on, outside_of, range_with_len, start, state_after, steps, ordered-begun, nothing-sound, held-begun, entries_here, common_steps}
use Rattle.gts_generate.proofs.CountLemmas.{accepted-from-nothing, drawn-from-nothing}
use Rattle.gts_generate.proofs.EndLemmas.{frames-counted}
use Rattle.gts_generate.proofs.FedLemmas.{day-ends}
use Rattle.gts_generate.proofs.LawLemmas.{are-steps}

ordered : IsOrdered directory start
ordered = ordered-begun directory (nothing directory) (nothing-sound directory)

held : IsHeld directory start
held = held-begun directory (nothing directory) (nothing-sound directory)

here : (count : ℕ) → list_all (is_here directory) (history count) ≡ true
here count = entries_here Traffic directory start (steps count) (are-steps Traffic (range_with_len 0 count))

pub accepted-on : (count : ℕ) → (need directory (state_after (history count))).accepted ≡ outcomes_on count is_accepted
accepted-on count = accepted-from-nothing directory start (history count) refl

pub draws-on : (count : ℕ) → draws_in (need directory (state_after (history count))) ≡ outcomes_on count is_draw
draws-on count = drawn-from-nothing directory start (history count) refl ordered refl

frames-on : (count : ℕ) → frames_in (frames_said (outside_of count)) ≡ outcomes_on count is_draw + outcomes_on count is_resend
frames-on count = grind (arith, common_steps, frames-counted, here, day-ends, held)

pub resends-on : (count : ℕ) → frames_in (frames_said (outside_of count)) - draws_in (need directory (state_after (history count))) ≡ outcomes_on count is_resend
resends-on count = omega (arith, frames-on count, draws-on count)
