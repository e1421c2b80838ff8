use Rattle.std.proofs.Common.{sym, subst}
use Rattle.gts_message.specs.Cited.{Reads}
use Rattle.gts_message.specs.Message.{parts_of}
use Rattle.gts_message.proofs.SplitLemmas.{split-around}
use Rattle.gts_message.proofs.message.Message.split_around.Goals as goal

pub returns : goal.returns
returns c = subst (λ r. Reads parts_of c.parts_around.result r) (sym (split-around c.args.body.now)) c.parts_around.ensures
