use Rattle.gts_core.proofs.Cited.{subst, Reads, message_weighed, split_at}
use Rattle.gts_message.specs.Message.{parts_of}
use Rattle.gts_core.proofs.WeighLemmas.{text_short}
use Rattle.gts_core.proofs.judging.judge_in.Goals as goal

pub judge_parts-requires-clause-short : goal.judge_parts-requires-clause-short
judge_parts-requires-clause-short c =
    let m = message_weighed c.args.weighed in
    text_short m (parts_of c.in-Ok.parts) (subst (λ r. Reads parts_of r (split_at m)) c.in-Ok.is c.split.ensures)
