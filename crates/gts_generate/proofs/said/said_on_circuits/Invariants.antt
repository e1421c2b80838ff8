use Rattle.gts_generate.proofs.Cited.{◌≡◌, ◌*◌, ◌^◌, ◌≤◌, length, take, Holds256, sayings}
use Rattle.gts_generate.specs.Summary as summaries
use Rattle.gts_generate.proofs.SaidLemmas.{on_circuits}
use Rattle.gts_generate.proofs.said.said_on_circuits.Given as goal

abbrev pub invariant-loop-k : goal.invariant-loop-k
invariant-loop-k l = record {
  holds : Holds256 l.hasher (on_circuits (take l.k (sayings l.station.past)));
  bytes : l.bytes ≡ length (on_circuits (take l.k (sayings l.station.past)));
  frames : l.frames ≡ summaries.frames_in (on_circuits (take l.k (sayings l.station.past)));
  few : l.frames ≤ l.bytes;
  most : l.bytes ≤ l.k * 2 ^ 64;
}
