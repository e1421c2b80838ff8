use Rattle.gts_circuits.proofs.Cited.{◌≡◌, length}
use Rattle.gts_circuits.specs.Standing.{AreDrained}
use Rattle.gts_circuits.proofs.service.draining.drain_all.Given as goal

-- the circuits so far are drained
abbrev pub invariant-loop-c : goal.invariant-loop-c
invariant-loop-c g l = record {
  count : length l.lines.items ≡ length l.fn.lines.items;
  drained : AreDrained g.P.Station g.B.Began.beginning
      g.K.Sink l.pass.seen l.lines.items l.c l.housed.engine;
}
