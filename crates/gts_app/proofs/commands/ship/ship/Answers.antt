use Rattle.gts_app.proofs.Cited.{◌≡◌, Option, None, Some, sym, subst, ShipsFeed, Since, Status, status_shipped}
use Rattle.gts_app.proofs.ShippingLemmas.{ship_unread, ship_ends}
use Rattle.gts_app.proofs.commands.ship.ship.Goals as goal

pub returns-in-Err-clause-ships : goal.returns-in-Err-clause-ships
returns-in-Err-clause-ships g c = ship_unread _ _ _ c.in-Err.status _ _ _ c.in-Err.ensures

pub returns-in-None-clause-ships : goal.returns-in-None-clause-ships
returns-in-None-clause-ships g c =
    let od = c.args.world.now.directory in
    let nd = c.directory_of.new.source in
    let e = c.ship.ensures in
    let asked : c.args.since ≡ None = c.in-None.is in
    subst (λ (s : Status). ShipsFeed c.args.since g.S.Source g.P.Station s od c.args.world.now.station nd c.ship.new.station) (sym c.status_of.ensures)
    (subst (λ (o : Option Since). ShipsFeed o g.S.Source g.P.Station (status_shipped c.ship.result) od c.args.world.now.station nd c.ship.new.station) (sym asked)
    (ship_ends None g.S.Source g.P.Station c.in-Ok.accepted c.ship.result od nd c.args.world.now.station c.ship.new.station c.in-Ok.ensures e.said e.fault e.unopened e.named e.cause))

pub returns-clause-ships : goal.returns-clause-ships
returns-clause-ships g c =
    let od = c.args.world.now.directory in
    let nd = c.directory_of.new.source in
    let e = c.ship_since.ensures in
    let asked : c.args.since ≡ Some c.in-Some.since = c.in-Some.is in
    subst (λ (s : Status). ShipsFeed c.args.since g.S.Source g.P.Station s od c.args.world.now.station nd c.ship_since.new.station) (sym c.status_of-in-Some.ensures)
    (subst (λ (o : Option Since). ShipsFeed o g.S.Source g.P.Station (status_shipped c.ship_since.result) od c.args.world.now.station nd c.ship_since.new.station) (sym asked)
    (ship_ends (Some c.in-Some.since) g.S.Source g.P.Station c.in-Ok.accepted c.ship_since.result od nd c.args.world.now.station c.ship_since.new.station c.in-Ok.ensures e.said e.fault e.unopened e.named e.cause))
