use Rattle.gts_accum.specs.Ahead.{Ahead, left_ahead}
use Rattle.gts_accum.specs.Traced.{IsSince, whether_failed}
use Rattle.gts_accum.proofs.Cited.{◌≡◌, ℕ, false, true, ◌≤◌, List, HasUnpackCause, IsUnfailed, Unpacking, length, sym, ap, subst, arith, IsLeft, IsPlaceMet, Journaled, ReplayEnd, StandsFor, UnpackEnd, Unpacks, badplace, capture_left, captured, common_steps}
use Rattle.gts_replay.specs.Cited.{Ends}
use Rattle.gts_event.specs.declared.event.Entry.{Entry}
use Rattle.gts_accum.proofs.UnpackLemmas.{from-end, from-cut, cause-end, cause-cut, cause-of-source, has_failed}
use Rattle.gts_accum.proofs.unpacking.unpack_of.Goals as goal
use Rattle.gts_accum.proofs.unpacking.unpack_of.Goals.{in-Capture, in_default}

pub returns-clause-ends : goal.returns-clause-ends
returns-clause-ends g c =
    let meanings = g.W.Switch.meanings in
    let left = g.S.Source.left in
    let file : List ℕ = left c.args.file in
    let now : List ℕ = left c.into_inner.result in
    let rest : List ℕ = capture_left (left_ahead left) c.replay.new.capture in
    let few : length (meanings.directory c.args.switch.now).circuits ≤ 100 = omega (arith, c.circuits-few.ensures.circuits, c.circuits-few.ensures.few) in
    let Q : UnpackEnd → Type 0 = λ e. Unpacks meanings g.W.Switch.observed g.S.Source.observed e c.args.switch.now c.replay.new.switch file now c.args.c in
    let run = λ (o : g.W.Switch.Origin) (h : List Entry) (stands : StandsFor meanings o (length h) h c.args.switch.now).
    let P : List ℕ → Type 0 = λ bytes. Ends meanings g.W.Switch.observed Journaled o h g.S.Source.observed c.replay.result c.args.switch.now c.replay.new.switch bytes rest in
    subst P c.new-traced.ensures.capture (c.replay.ensures.ends o h stands) in
    elim c.match-replay.branch as (λ _. Q c.match-replay.end) [
      | in-Capture w ↦
          let T : List ℕ → Type 0 = λ f. IsPlaceMet (badplace f) w.end_of_file-end.result in
          subst Q (sym w.end-is)
          (from-cut meanings g.W.Switch.observed g.S.Source.observed w.in-Capture.at w.end_of_file-end.result c.args.switch.now c.replay.new.switch file rest c.args.c few
          c.requires.circuit
          (λ o h stands.
          let R : ReplayEnd → Type 0 = λ r. Ends meanings g.W.Switch.observed Journaled o h g.S.Source.observed r c.args.switch.now c.replay.new.switch (captured file c.args.c) rest in
          subst R w.in-Capture.is (run o h stands))
          w.end_of_file-end.ensures.kind (λ observed. subst T (sym (c.requires.file observed)) (w.end_of_file-end.ensures.told observed)) now)
      | in_default w ↦
          subst Q (sym w.end-is)
          (from-end meanings g.W.Switch.observed g.S.Source.observed c.replay.result c.args.switch.now c.replay.new.switch file rest c.args.c few c.requires.circuit
          w.in_default.not-Capture run now
          (λ e observed.
          let A : List ℕ → Type 0 = λ f. IsLeft f now c.args.c rest in
          let B : ℕ → Type 0 = λ n. IsLeft g.B.OfFile.file now n rest in
          let C : List ℕ → Type 0 = λ l. IsLeft g.B.OfFile.file now g.B.OfFile.circuit l in
          subst A (sym (c.requires.file observed))
          (subst B (sym c.requires.picked) (subst C (ap (capture_left (left_ahead left)) w.traced-is) (c.into_inner.ensures.left observed (subst (λ (t : Unpacking _). t.source.failed ≡ true) (sym w.traced-is) (has_failed c.new-traced.result.source c.replay.new.capture.source (ap whether_failed c.new-traced.ensures.source) (c.replay.ensures.cause.source_failed e))))))))
    ]

pub returns-clause-cause : goal.returns-clause-cause
returns-clause-cause g c =
    let switch = g.W.Switch in
    let faults = g.S.Source.faults in
    let before : ℕ = faults c.args.file in
    let ahead = c.replay.new.capture.source in
    let mid : ℕ = faults ahead.source in
    let disk : ℕ = switch.disk_faults c.args.switch.now in
    let disk_now : ℕ = switch.disk_faults c.replay.new.switch in
    let say : ℕ = switch.say_faults c.args.switch.now in
    let say_now : ℕ = switch.say_faults c.replay.new.switch in
    let fresh : c.new-traced.result.source.failed ≡ false = ap (λ (a : Ahead _). a.failed) c.new-traced.ensures.source in
    let K : UnpackEnd → ℕ → Type 0 = λ e n. HasUnpackCause e disk disk_now say say_now before n in
    let k = λ (since : IsSince faults g.B.OfFile.faults ahead). cause-of-source faults before c.replay.result disk disk_now say say_now c.new-traced.result.source ahead c.replay.ensures.cause fresh
    (subst (λ (n : ℕ). IsSince faults n ahead) (sym c.requires.faults) since) in
    elim c.match-replay.branch as (λ _. K c.match-replay.end (faults c.into_inner.result)) [
      | in-Capture w ↦
          let last = ap (λ (t : Unpacking _). faults t.source.source) w.traced-is in
          rw (w.end-is, c.into_inner.ensures.source, last)
          (cause-cut c.replay.result w.end_of_file-end.result disk disk_now say say_now before mid _ (k w.end_of_file-end.ensures.since) (subst IsUnfailed (sym w.in-Capture.is) tt)
          w.end_of_file-end.ensures.kind w.end_of_file-end.ensures.cause)
      | in_default w ↦
          let last = ap (λ (t : Unpacking _). faults t.source.source) w.traced-is in
          let since = subst (λ (t : Unpacking _). IsSince faults g.B.OfFile.faults t.source) w.traced-is c.into_inner.ensures.since in
          rw (w.end-is, c.into_inner.ensures.source, last) (cause-end c.replay.result disk disk_now say say_now before mid (k since))
    ]
