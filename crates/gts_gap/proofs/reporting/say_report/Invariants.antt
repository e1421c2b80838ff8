use Rattle.gts_gap.proofs.Cited.{◌≡◌, ◌<◌, ℕ, List, length, Numbered, SaysOnly, StandsAt, said_from}
use Rattle.gts_gap.proofs.reporting.say_report.Given as goal

-- what is missing on the circuits before this one was said
abbrev pub invariant-loop-c : goal.invariant-loop-c
invariant-loop-c g l = record {
  said : g.P.Station.observed → (numbers : ℕ → List Numbered) → ((c : ℕ) → c < length l.directory.circuits → StandsAt l.table c (numbers c))
      → SaysOnly (g.P.Station.calls l.fn.station) (g.P.Station.calls l.station) (said_from l.directory l.moment numbers 0 l.c);
  sound : g.P.Station.say_faults l.station ≡ g.P.Station.say_faults l.fn.station;
  disk : g.P.Station.disk_faults l.station ≡ g.P.Station.disk_faults l.fn.station;
}
