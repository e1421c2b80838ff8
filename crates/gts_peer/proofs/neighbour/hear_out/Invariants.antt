use Rattle.std.proofs.Common.{◌≡◌}
use Rattle.gts_traits.specs.Cited.{IsFront}
use Rattle.gts_peer.proofs.neighbour.hear_out.Given as goal

-- what was kept before stands in front, and no write has failed
abbrev pub invariant-loop : goal.invariant-loop
invariant-loop l = record {
  kept : IsFront l.fn.got.written l.got.written;
  sound : l.got.faults ≡ l.fn.got.faults;
}
