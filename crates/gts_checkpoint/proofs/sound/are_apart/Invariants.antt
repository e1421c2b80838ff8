use Rattle.gts_checkpoint.proofs.Cited.{◌≡◌, true, not, take, has, list_all}
use Rattle.gts_checkpoint.proofs.sound.are_apart.Given as goal

abbrev pub invariant-loop-number : goal.invariant-loop-number
invariant-loop-number l = list_all (λ n. not (has l.others n)) (take l.number-index l.numbers) ≡ true
