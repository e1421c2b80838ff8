use Rattle.gts_app.proofs.Cited.{◌≡◌, ◌⊎◌, ◌∙◌, Err, refl, sym, ap, subst, Inspects, Status, world}
use Rattle.gts_app.proofs.InspectLemmas.{inspect_unread, inspect_silent, inspect_said}
use Rattle.gts_app.proofs.SoundLemmas.{not_misused}
use Rattle.gts_app.proofs.commands.inspect.inspect.Goals as goal

pub returns-in-Err-clause-inspects : goal.returns-in-Err-clause-inspects
returns-in-Err-clause-inspects g c = inspect_unread _ _ c.in-Err.status _ _ _ _ c.in-Err.ensures

pub returns-in-Err-text_of-clause-inspects : goal.returns-in-Err-text_of-clause-inspects
returns-in-Err-text_of-clause-inspects g c =
    inspect_silent g.S.Source g.P.Station c.in-Ok.file _ _ c.args.world.now.capture c.args.world.now.station c.in-Ok.ensures
    c.in-Err-text_of.status c.in-Err-text_of.ensures.ends

pub returns-clause-inspects : goal.returns-clause-inspects
returns-clause-inspects g c =
    let od = c.args.world.now.directory in
    let nd = c.directory_file_of.new.source in
    subst (λ (status : Status). Inspects g.S.Source g.P.Station status (world od c.args.world.now.capture c.args.world.now.station) (world nd c.args.world.now.capture c.say.new.self)) (sym c.status_said.ensures)
    (inspect_said g.S.Source g.P.Station c.in-Ok.file od nd c.args.world.now.capture c.args.world.now.station c.in-Ok.ensures
    c.say.new.self _ c.say.ensures.disk c.say.result c.say.ensures.told c.say.ensures.cause)

pub returns-in-Err-clause-settled : goal.returns-in-Err-clause-settled
returns-in-Err-clause-settled g c = λ none is. not_misused c.in-Err.ensures is
