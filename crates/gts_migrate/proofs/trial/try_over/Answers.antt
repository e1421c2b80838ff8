use Rattle.gts_migrate.proofs.Cited.{arith}
use Rattle.gts_migrate.proofs.MigratingLemmas.{few_due, sound_need, files_here}
use Rattle.gts_migrate.proofs.trial.try_over.Goals as goal

pub refusal_of-requires-clause-due : goal.refusal_of-requires-clause-due
refusal_of-requires-clause-due g c =
    few_due g.P.Station.observed c.args.old.now c.args.new.now c.requires (g.P.Station.calls c.open_core_any.new.station) c.in_ok-core.core c.in_ok-core.journal c.in_ok-core.ensures.opened
    (omega (arith, c.bounds_hold.ensures.greatest))

pub returns-clause-tried : goal.returns-clause-tried
returns-clause-tried g c =
    let old = c.args.old.now in
    let new = c.args.new.now in
    let mid = g.P.Station.calls c.open_core_any.new.station in
    let core = c.in_ok-core.core in
    let j = c.in_ok-core.journal in
    let o = c.in_ok-core.ensures.opened in
    record {
      state = o.state;
      opened = λ tell. (_, files_here g.P.Station.observed old new c.requires mid core j o tell (g.P.Station.calls c.args.station.now) (c.in_ok-core.ensures.synced tell));
      needed = c.in_ok-need.ensures old o.state o.kept.holds;
      sound = sound_need g.P.Station.observed old new c.requires mid core j o;
      refused = c.in-Ok.ensures o.state o.kept.holds;
    }
