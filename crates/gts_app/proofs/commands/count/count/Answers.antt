use Rattle.gts_app.proofs.Cited.{◌≡◌, ◌≤◌, length, Ok, sym, ap, subst, ◌∙◌, arith, ℕ, refl, Counted, CountsTraffic, Engine, IsUnfailed, Opens, ShowsTable, Status, switch_meanings, world}
use Rattle.gts_app.proofs.EndLemmas.{Leaves}
use Rattle.gts_app.proofs.TrafficLemmas.{not_counted, without_numbers, ended, said_so}
use Rattle.gts_app.proofs.SoundLemmas.{unopened, said, on_ok}
use Rattle.gts_app.proofs.commands.count.count.Goals as goal

pub returns-in-Err-clause-counts : goal.returns-in-Err-clause-counts
returns-in-Err-clause-counts g c = not_counted _ _ c.in-Err.field-0.status _ _ _ _ c.in-Err.field-0.station c.in-Err.ensures

pub returns-in-Err-count_beside-clause-counts : goal.returns-in-Err-count_beside-clause-counts
returns-in-Err-count_beside-clause-counts g c =
    without_numbers g.S.Source g.P.Station c.args.world.directory c.open_engine.new.directory c.args.world.capture c.args.world.station c.in-Ok.engine c.in-Ok.ensures c.into_parts-station.result.0
    (c.into_parts-station.ensures.station ∙ ap (λ (e : Engine g.row.P.Denot). e.station) c.in-Err-count_beside.ensures.err)

pub returns-in-Err-table-clause-counts : goal.returns-in-Err-table-clause-counts
returns-in-Err-table-clause-counts g c =
    let od = c.args.world.directory in
    let nd = c.open_engine.new.directory in
    let first = c.in-Ok-count_beside.counted in
    let last = c.replay-end.new.switch in
    let switch = c.in-Ok-count_beside.ensures.switch in
    let few : length first.parts.switch.directory.circuits ≤ 100 =
    let is : c.circuits-few.result ≡ length first.parts.switch.directory.circuits =
    c.circuits-few.ensures.circuits ∙ ap (λ (e : Engine g.row.P.Denot). length e.directory.circuits) (sym switch) in
    omega (arith, is, c.circuits-few.ensures.few) in
    let opens = subst (λ (e : Engine g.row.P.Denot). Opens g.S.Source g.P.Station (Ok e) od nd c.args.world.station) (sym switch) c.in-Ok.ensures in
    let files = subst (λ (e : Engine g.row.P.Denot). Leaves g.P.Station e) c.into_inner-engine.ensures c.used-used.ensures.files in
    ended (λ (x : Counted (Engine g.row.P.Denot)). x.parts) g.S.Source g.P.Station c.replay-end.result od nd c.args.world.capture c.replay-end.new.capture c.args.world.station first last
    opens c.in-Ok-count_beside.ensures.counts (λ n es keeps sound. c.a_history_keeps_its_laws.ensures first.parts.switch.directory n es keeps sound) c.replay-end.ensures.ends few
    c.replay-end.ensures.cause files c.in-Err-table.status c.in-Err-table.ensures.none c.into_parts-station-2.result.0
    (c.into_parts-station-2.ensures.station ∙ ap (λ (e : Engine g.row.P.Denot). e.station) c.into_inner-engine.ensures)

pub returns-clause-counts : goal.returns-clause-counts
returns-clause-counts g c =
    let od = c.args.world.directory in
    let nd = c.open_engine.new.directory in
    let first = c.in-Ok-count_beside.counted in
    let last = c.replay-end.new.switch in
    let switch = c.in-Ok-count_beside.ensures.switch in
    let few : length first.parts.switch.directory.circuits ≤ 100 =
    let is : c.circuits-few.result ≡ length first.parts.switch.directory.circuits =
    c.circuits-few.ensures.circuits ∙ ap (λ (e : Engine g.row.P.Denot). length e.directory.circuits) (sym switch) in
    omega (arith, is, c.circuits-few.ensures.few) in
    let opens = subst (λ (e : Engine g.row.P.Denot). Opens g.S.Source g.P.Station (Ok e) od nd c.args.world.station) (sym switch) c.in-Ok.ensures in
    let files = subst (λ (e : Engine g.row.P.Denot). Leaves g.P.Station e) c.into_inner-engine.ensures c.used-used.ensures.files in
    subst (λ (status : Status). CountsTraffic g.S.Source g.P.Station status c.args.world (world nd c.replay-end.new.capture c.say.new.self)) (sym c.status_said-status.ensures)
    (said_so (λ (x : Counted (Engine g.row.P.Denot)). x.parts) g.S.Source g.P.Station c.replay-end.result od nd c.args.world.capture c.replay-end.new.capture c.args.world.station first last
    opens c.in-Ok-count_beside.ensures.counts (λ n es keeps sound. c.a_history_keeps_its_laws.ensures first.parts.switch.directory n es keeps sound) c.replay-end.ensures.ends few
    c.replay-end.ensures.cause files c.in-Ok-table.ensures.table.0 c.as_slice.result.now
    (subst (ShowsTable (switch_meanings g.P.Station) last.parts) (sym c.as_slice.ensures.value) c.in-Ok-table.ensures.table.1)
    c.say.result c.into_parts-station-2.result.0 c.say.new.self
    (c.into_parts-station-2.ensures.station ∙ ap (λ (e : Engine g.row.P.Denot). e.station) c.into_inner-engine.ensures)
    c.say.ensures.told c.say.ensures.cause c.say.ensures.disk)

pub returns-in-Err-clause-sound : goal.returns-in-Err-clause-sound
returns-in-Err-clause-sound g c = λ is. absurd (unopened c.in-Err.ensures is)

pub returns-clause-sound : goal.returns-clause-sound
returns-clause-sound g c = λ is.
    let opened = c.in-Ok.ensures.kept c.in-Ok.engine refl in
    let disks : Engine g.row.P.Denot → ℕ = λ e. g.P.Station.disk_faults e.station in
    let says : Engine g.row.P.Denot → ℕ = λ e. g.P.Station.say_faults e.station in
    let switch = c.in-Ok-count_beside.ensures.switch in
    let still = c.replay-end.ensures.cause.sound (subst IsUnfailed (sym c.in-Ok-table.ensures.table.0) tt) in
    let so = said c.say.result (sym c.status_said-status.ensures ∙ is) in
    record {
      directory = opened.2;
      capture = still.2;
      disk = c.say.ensures.disk ∙ ap g.P.Station.disk_faults c.into_parts-station-2.ensures.station ∙ ap disks c.into_inner-engine.ensures ∙ still.0 ∙ ap disks switch ∙ opened.0;
      say = on_ok c.say.result so c.say.ensures.cause.sound ∙ ap g.P.Station.say_faults c.into_parts-station-2.ensures.station ∙ ap says c.into_inner-engine.ensures ∙ still.1 ∙ ap says switch
          ∙ opened.1;
    }
