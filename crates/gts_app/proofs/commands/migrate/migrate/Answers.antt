use Rattle.gts_app.proofs.Cited.{refl}
use Rattle.gts_app.proofs.MigrateLemmas.{new_unread, old_unread, taken_over}
use Rattle.gts_app.proofs.commands.migrate.migrate.Goals as goal

pub returns-in-Err-clause-migrates : goal.returns-in-Err-clause-migrates
returns-in-Err-clause-migrates g c = new_unread _ _ _ c.in-Err.status _ _ _ _ c.in-Err.ensures

pub returns-in-Err-old_directory_of-clause-migrates : goal.returns-in-Err-old_directory_of-clause-migrates
returns-in-Err-old_directory_of-clause-migrates g c =
    old_unread c.args.waiting g.S.Source g.P.Station c.in-Err-old_directory_of.status c.in-Ok.directory _ _ _ _ c.args.world.station c.in-Ok.ensures
    c.in-Err-old_directory_of.ensures

pub returns-in-Ok-takes_over-clause-migrates : goal.returns-in-Ok-takes_over-clause-migrates
returns-in-Ok-takes_over-clause-migrates g c =
    let d = c.in-Ok.directory in
    let o = c.in-Ok-old_directory_of.directory in
    let takes = c.in-Ok-takes_over.ensures.takes_over.0 refl in
    let m = c.migrate-station in
    taken_over c.args.waiting g.S.Source g.P.Station d o _ _ _ _ c.in-Ok.ensures c.in-Ok-old_directory_of.ensures takes c.args.world.station m.result.0 m.result.1 c.status_of-status.result c.status_of-status.ensures
    (record {
      moments = m.ensures.moments;
      migrated = m.ensures.migrated;
      full = m.ensures.full;
      waiting = m.ensures.waiting;
      answers = m.ensures.opening;
      told = m.ensures.told;
      disk = m.ensures.counts.failed;
      said = m.ensures.said;
      says = m.ensures.counts.say;
      unsaid = m.ensures.unsaid;
    }) m.ensures.silent m.ensures.counts.later
