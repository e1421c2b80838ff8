use Rattle.gts_gap.proofs.Cited.{◌≡◌, ◌++◌, List, ℕ, AllByRecursion, HasDigits, SaysOnly, on, run_lines}
use Rattle.gts_gap.proofs.saying.say_runs.Given as goal

-- the lines of the runs before those that are left were said
abbrev pub invariant-loop-first : goal.invariant-loop-first
invariant-loop-first g l = record {
  can : (goal.iterator-loop-first g).can_next l.runs;
  finite : (goal.iterator-loop-first g).is_finite l.runs;
  digits : AllByRecursion HasDigits l.runs;
  said : g.P.Station.observed → (done : List ℕ) × (run_lines l.c l.initial.runs ≡ done ++ run_lines l.c l.runs)
      × SaysOnly (g.P.Station.calls l.fn.station) (g.P.Station.calls l.station) (on 0 done);
  sound : g.P.Station.say_faults l.station ≡ g.P.Station.say_faults l.fn.station;
  disk : g.P.Station.disk_faults l.station ≡ g.P.Station.disk_faults l.fn.station;
}
