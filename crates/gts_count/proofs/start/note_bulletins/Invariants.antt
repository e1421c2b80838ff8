use Rattle.gts_count.proofs.Cited.{map, take, NotesAll, bulletin_of}
use Rattle.gts_count.proofs.start.note_bulletins.Given as goal

abbrev pub invariant-loop-bulletin : goal.invariant-loop-bulletin
invariant-loop-bulletin l = NotesAll l.directory l.accepted (take l.bulletin-index (map bulletin_of l.bulletins)) l.initial.numbers l.numbers
