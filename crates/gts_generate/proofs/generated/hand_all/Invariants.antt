use Rattle.gts_generate.proofs.Cited.{◌≡◌, ◌-◌, ◌≤◌, ◌++◌, length, take}
use Rattle.gts_generate.specs.DayView.{IsSound, bytes_left}
use Rattle.gts_generate.proofs.generated.hand_all.Given as goal

-- so many bytes were given
abbrev pub invariant-loop-count : goal.invariant-loop-count
invariant-loop-count l = record {
  sound : IsSound l.parts;
  bytes : bytes_left l.fn.parts ≡ take l.count l.into ++ bytes_left l.parts;
  few : l.count ≤ length l.into;
}

abbrev pub decreases-loop-count : goal.decreases-loop-count
decreases-loop-count l = length l.into - l.count
