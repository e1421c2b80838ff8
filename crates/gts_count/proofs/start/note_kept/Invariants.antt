use Rattle.gts_count.proofs.Cited.{take}
use Rattle.gts_count.specs.Start.{NotesKept}
use Rattle.gts_count.proofs.start.note_kept.Given as goal

abbrev pub invariant-loop-position : goal.invariant-loop-position
invariant-loop-position l = NotesKept l.keys l.c (take l.position-index l.kept) l.initial.numbers l.numbers
