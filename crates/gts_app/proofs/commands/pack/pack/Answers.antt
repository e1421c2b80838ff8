use Rattle.gts_app.proofs.Cited.{sym, subst, PacksStream, Status, world}
use Rattle.gts_app.proofs.StreamLemmas.{pack_unread, pack_ends}
use Rattle.gts_app.proofs.commands.pack.pack.Goals as goal

pub returns-in-Err-clause-packs : goal.returns-in-Err-clause-packs
returns-in-Err-clause-packs g c = pack_unread _ _ c.in-Err.status _ _ _ _ c.in-Err.ensures

pub returns-clause-packs : goal.returns-clause-packs
returns-clause-packs g c =
    let od = c.args.world.now.directory in
    let nd = c.directory_of.new.source in
    let e = c.pack-packed.ensures in
    subst (λ (s : Status). PacksStream g.S.Source g.P.Station s (world od c.args.world.now.capture c.args.world.now.station) (world nd c.pack-packed.new.stream c.pack-packed.new.station)) (sym c.status_of.ensures)
    (pack_ends g.S.Source g.P.Station c.in-Ok.accepted c.pack-packed.result od nd c.args.world.now.capture c.pack-packed.new.stream c.args.world.now.station c.pack-packed.new.station c.in-Ok.ensures e.packs e.unmade e.files e.cause)
