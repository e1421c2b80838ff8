use Rattle.std.proofs.Common.{◌≡◌, ◌≤◌, length}
use Rattle.gts_real.proofs.ahead.read_from.Given as goal

abbrev pub invariant-loop : goal.invariant-loop
invariant-loop l = (l.count ≤ length l.into) × (length l.into ≡ length l.initial.into)
