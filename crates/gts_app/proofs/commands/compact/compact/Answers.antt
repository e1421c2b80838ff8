use Rattle.gts_app.proofs.Cited.{sym, subst, Compacts, Status, common_steps, arith}
use Rattle.gts_app.proofs.CompactLemmas.{not_compacted, compacts}
use Rattle.gts_app.proofs.SoundLemmas.{unopened, compacted, none_of}
use Rattle.gts_app.proofs.commands.compact.compact.Goals as goal

pub returns-in-Err-clause-compacts : goal.returns-in-Err-clause-compacts
returns-in-Err-clause-compacts g c = not_compacted _ _ c.in-Err.field-0.status _ _ _ c.in-Err.field-0.station c.in-Err.ensures

pub returns-clause-compacts : goal.returns-clause-compacts
returns-clause-compacts g c =
    let m = c.compact-compacted.ensures in
    let none = c.open_engine.ensures.settled c.in-Ok.engine c.in-Ok.is in
    let C : Status → Type 0 = λ s. Compacts g.S.Source g.P.Station s c.args.world.directory c.args.world.station c.open_engine.new.directory c.into_parts-station.result.0 in
    subst C (sym c.status_of-status.ensures)
    (compacts g.S.Source g.P.Station c.args.world.directory c.open_engine.new.directory c.args.world.station c.in-Ok.engine c.in-Ok.ensures
    c.a_start_is_its_own_need.ensures c.compact-compacted.result c.compact-compacted.new.self m.compaction (λ told going. m.moments told going none) (λ told. m.written told none)
    (λ s going. m.full s going none) (m.kind none) (m.unchanged none) m.cause c.used-used.ensures.files
    c.into_parts-station.result.0 c.into_parts-station.ensures.station)

pub returns-in-Err-clause-sound : goal.returns-in-Err-clause-sound
returns-in-Err-clause-sound g c = λ is. absurd (unopened c.in-Err.ensures is)

pub returns-clause-sound : goal.returns-clause-sound
returns-clause-sound g c = grind (arith, common_steps, compacted, none_of)
