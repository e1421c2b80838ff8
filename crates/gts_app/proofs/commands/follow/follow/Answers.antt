use Rattle.gts_app.proofs.Cited.{sym, subst, FollowsFeed, Status, world}
use Rattle.gts_app.proofs.FollowLemmas.{unfollowed, followed, named_fault}
use Rattle.gts_app.proofs.commands.follow.follow.Goals as goal

pub returns-in-Err-clause-follows : goal.returns-in-Err-clause-follows
returns-in-Err-clause-follows g c = unfollowed _ _ c.in-Err.status _ _ _ _ c.in-Err.ensures

pub returns-clause-follows : goal.returns-clause-follows
returns-clause-follows g c =
    let od = c.args.world.directory in
    let nd = c.directory_of.new.source in
    let station = c.follow-station.result.0 in
    let answer = c.follow-station.result.1 in
    let e = c.follow-station.ensures in
    subst (λ (s : Status). FollowsFeed g.S.Source g.P.Station s (world od c.args.world.capture c.args.world.station) (world nd c.follow-station.new.source station)) (sym c.status_of-status.ensures)
    (followed g.S.Source g.P.Station c.in-Ok.accepted answer od nd c.args.world.capture c.follow-station.new.source c.args.world.station station c.in-Ok.ensures
    e.answer (λ observed told. (e.added observed told).opened) (λ observed told. (e.added observed told).reads) (λ observed told. (e.added observed told).kept) e.moments e.unopened e.done e.refused (named_fault answer e.named) e.silent e.counts)
