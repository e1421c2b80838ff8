use Rattle.gts_app.proofs.Cited.{sym, subst, NamesGaps, Status, world}
use Rattle.gts_app.proofs.StreamLemmas.{gaps_unread, gaps_ends}
use Rattle.gts_app.proofs.commands.gaps.gaps.Goals as goal

pub returns-in-Err-clause-names : goal.returns-in-Err-clause-names
returns-in-Err-clause-names g c = gaps_unread _ _ _ c.in-Err.status _ _ _ _ c.in-Err.ensures

pub returns-clause-names : goal.returns-clause-names
returns-clause-names g c =
    let od = c.args.world.now.directory in
    let nd = c.directory_of.new.source in
    let e = c.gaps.ensures in
    subst (λ (s : Status). NamesGaps g.S.Source g.P.Station c.args.moment s (world od c.args.world.now.capture c.args.world.now.station) (world nd c.gaps.new.capture c.gaps.new.station)) (sym c.status_of.ensures)
    (gaps_ends g.S.Source g.P.Station c.args.moment c.in-Ok.directory c.gaps.result od nd c.args.world.now.capture c.gaps.new.capture c.args.world.now.station c.gaps.new.station c.in-Ok.ensures e.names e.cause e.disk)
