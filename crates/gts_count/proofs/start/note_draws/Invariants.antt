use Rattle.gts_count.proofs.Cited.{map, take, NotesDraws, circuit_need_of}
use Rattle.gts_count.proofs.start.note_draws.Given as goal

abbrev pub invariant-loop-c : goal.invariant-loop-c
invariant-loop-c l = NotesDraws l.keys (take l.c (map circuit_need_of l.circuits)) l.initial.numbers l.numbers
