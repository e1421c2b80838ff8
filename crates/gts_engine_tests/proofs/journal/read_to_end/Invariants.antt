use Rattle.std.proofs.Common.{◌≡◌, ◌^◌, ◌-◌, false}
use Rattle.gts_journal.specs.Hand.{IsCurrent}
use Rattle.gts_journal.specs.Standing.{StandsOn}
use Rattle.gts_engine_tests.proofs.journal.read_to_end.Given as goal

abbrev pub invariant-loop-journal : goal.invariant-loop-journal
invariant-loop-journal g l = record {
  going : l.journal.ended ≡ false;
  current : IsCurrent l.journal;
  stands : g.P.Station.observed → StandsOn (g.P.Station.calls l.station) l.journal;
}

abbrev pub decreases-loop-journal : goal.decreases-loop-journal
decreases-loop-journal g l = 2 ^ 41 - l.journal.gate
