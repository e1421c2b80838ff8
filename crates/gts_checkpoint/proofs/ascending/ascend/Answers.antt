use Rattle.gts_checkpoint.proofs.Cited.{◌-◌, sym, arith}
use Rattle.gts_checkpoint.proofs.AscendingLemmas.{ascends-from, ascends-not}
use Rattle.gts_checkpoint.proofs.ascending.ascend.Goals as goal

pub returns-then-numbers-i : goal.returns-then-numbers-i
returns-then-numbers-i c = sym (ascends-not c.args.numbers.now (c.loop-i.i - 1) c.loop-i.i (omega arith) (omega arith) c.if-numbers-i.true)

pub returns : goal.returns
returns c = sym (ascends-from c.args.numbers.now (λ i l. c.loop-i.invariant i (omega arith)))
