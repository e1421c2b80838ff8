use Rattle.gts_standby.proofs.Cited.{ap, ◌∙◌, is_some, record_at}
use Rattle.gts_standby.proofs.MayBeginLemmas.{draw_may, some_found}
use Rattle.gts_standby.proofs.fed.may_begin_draw.Goals as goal

pub returns : goal.returns
returns c = c.is_some.ensures ∙ some_found _ c.decode.result ∙ ap (λ o. is_some o) (c.decode.ensures.found ∙ ap record_at c.put_over.ensures) ∙ draw_may c.args.bytes.now c.requires
