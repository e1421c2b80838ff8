use Rattle.gts_circuits.proofs.Cited.{◌≡◌, ◌≤◌, ◌+◌, ◌-◌, List, Entry, HasTaken, count_of, frames_of}
use Rattle.gts_circuits.proofs.hall.taking.take_behind.Given as goal

-- so far takes gave these frames
abbrev pub invariant-loop-gave : goal.invariant-loop-gave
invariant-loop-gave g l = record {
  taken : (h : List Entry) → HasTaken g.P.Station g.B.Began.beginning h l.c (frames_of l.fn.given.frames) l.fn.gave l.fn.housed.engine
      → HasTaken g.P.Station g.B.Began.beginning h l.c (frames_of l.given.frames) l.gave l.housed.engine;
  few : count_of (frames_of l.given.frames) l.gave ≤ l.most;
  directory : l.housed.engine.directory ≡ l.fn.housed.engine.directory;
  mode : l.housed.makes_room ≡ l.fn.housed.makes_room;
}

abbrev pub decreases-loop-gave : goal.decreases-loop-gave
decreases-loop-gave g l = l.most + 1 - count_of (frames_of l.given.frames) l.gave
