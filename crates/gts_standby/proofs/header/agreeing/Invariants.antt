use Rattle.gts_standby.proofs.Cited.{◌≡◌, ◌+◌, drop}
use Rattle.gts_opening.specs.Journal.{agreeing}
use Rattle.gts_standby.proofs.header.agreeing.Given as goal

abbrev pub invariant-loop-i : goal.invariant-loop-i
invariant-loop-i l = agreeing l.header l.bytes ≡ l.i + agreeing (drop l.i l.header) (drop l.i l.bytes)
