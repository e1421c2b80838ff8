use Rattle.gts_checkpoint.proofs.Cited.{◌≡◌, true, take, map, bulletin_of, is_there, list_all}
use Rattle.gts_checkpoint.proofs.bulletins.are_there.Given as goal

abbrev pub invariant-loop-number : goal.invariant-loop-number
invariant-loop-number l = list_all (is_there (map bulletin_of l.bulletins)) (take l.number-index l.numbers) ≡ true
