use Rattle.gts_lock.proofs.Cited.{[], ◌∷◌}
use Rattle.gts_lock.proofs.turn.Turn.leave.Given as goal

abbrev pub ghosts-end_turn : goal.ghosts-end_turn
ghosts-end_turn g a = record { added = g.entry ∷ [] }
