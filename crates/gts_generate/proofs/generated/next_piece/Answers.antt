use Rattle.gts_generate.proofs.DayLemmas.{pieces-more}
use Rattle.gts_generate.proofs.generated.next_piece.Goals as goal

pub returns-then-next-count-clause-some : goal.returns-then-next-count-clause-some
returns-then-next-count-clause-some c = rw c.turn.ensures.text (pieces-more c.args.next c.args.count c.if-next-count.true)
