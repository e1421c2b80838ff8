use Rattle.gts_app.proofs.Cited.{◌≡◌, ◌<◌, ◌≤◌, Ok, length, refl, sym, ap, subst, arith, ◌∙◌, IsUnfailedFile, directory_of_bytes}
use Rattle.gts_directory.specs.Directory as directories
use Rattle.gts_app.proofs.UnpackLemmas.{unpacks, unaccepted, unopened, done-is}
use Rattle.gts_app.proofs.SoundLemmas.{unopened as unopened_fails}
use Rattle.gts_app.proofs.commands.unpack.unpack.Goals as goal

pub returns-in-Err-clause-unpacks : goal.returns-in-Err-clause-unpacks
returns-in-Err-clause-unpacks g c = unaccepted _ _ _ c.in-Err.status _ _ _ _ c.in-Err.ensures

pub returns-in-Err-open_journal-clause-unpacks : goal.returns-in-Err-open_journal-clause-unpacks
returns-in-Err-open_journal-clause-unpacks g c =
    let r = c.in-Err-open_journal.field-0 in
    let od = c.args.world.directory in
    let nd = c.directory_of.new.source in
    let d : directories.Directory = c.in-Ok.directory in
    unopened g.S.Source g.P.Station c.args.c r.status d od nd c.args.world.capture c.args.world.station r.station
    (c.in-Err-open_journal.ensures.opens od nd c.in-Ok.ensures)
    (omega (arith, c.circuits.ensures.value, c.if-circuits-c.false)) (λ observed. c.in-Ok.ensures.read observed d refl)

pub returns-clause-unpacks : goal.returns-clause-unpacks
returns-clause-unpacks g c =
    let od = c.args.world.directory in
    let nd = c.directory_of.new.source in
    let d : directories.Directory = c.in-Ok.directory in
    let first = c.in-Ok-open_journal.engine in
    let same : first.directory ≡ d = c.in-Ok-open_journal.ensures.directory in
    let count : length first.directory.circuits ≡ length d.circuits = ap (λ (x : directories.Directory). length x.circuits) same in
    let few : length first.directory.circuits ≤ 100 = omega (arith, count, c.circuits.ensures.value, c.circuits.ensures.few) in
    let here : c.args.c < length first.directory.circuits = omega (arith, count, c.circuits.ensures.value, c.if-circuits-c.false) in
    rw (c.status_of-status.ensures, c.into_parts-station.ensures.station) (
    unpacks g.S.Source g.P.Station c.args.c c.unpack-end.result.0 od nd c.args.world.capture c.unpack-end.result.1 c.args.world.station first c.unpack-end.new.switch
    (c.in-Ok-open_journal.ensures.opens od nd c.in-Ok.ensures)
    (λ n es keeps sound. c.a_history_keeps_its_laws.ensures first.directory n es keeps sound) c.unpack-end.ensures.ends few here
    (λ observed. subst (λ (x : directories.Directory). directory_of_bytes (g.S.Source.left od) ≡ Ok x) (sym same) (c.in-Ok.ensures.read observed d refl))
    c.unpack-end.ensures.cause c.used-used.ensures.files
    )

pub returns-in-Err-open_journal-clause-sound : goal.returns-in-Err-open_journal-clause-sound
returns-in-Err-open_journal-clause-sound g c = λ is.
    absurd (unopened_fails (c.in-Err-open_journal.ensures.opens c.args.world.directory c.directory_of.new.source c.in-Ok.ensures) is)

pub returns-clause-sound : goal.returns-clause-sound
returns-clause-sound g c = λ is.
    let opened = (c.in-Ok-open_journal.ensures.opens c.args.world.directory c.directory_of.new.source c.in-Ok.ensures).kept c.in-Ok-open_journal.engine refl in
    let done = done-is c.unpack-end.result.0 (sym c.status_of-status.ensures ∙ is) in
    let still = c.unpack-end.ensures.cause.sound (subst IsUnfailedFile (sym done) tt) in
    record {
      directory = c.in-Ok.ensures.cause.sound;
      capture = still.2;
      disk = ap g.P.Station.disk_faults c.into_parts-station.ensures.station ∙ still.0 ∙ opened.0;
      say = ap g.P.Station.say_faults c.into_parts-station.ensures.station ∙ still.1 ∙ opened.1;
    }
