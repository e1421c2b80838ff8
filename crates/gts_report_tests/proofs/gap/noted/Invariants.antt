use Rattle.std.proofs.Common.{◌≡◌, length}
use Rattle.gts_report_tests.proofs.gap.noted.Given as goal

abbrev pub invariant-loop-number : goal.invariant-loop-number
invariant-loop-number l = length l.table ≡ 2
