use Rattle.gts_standby.proofs.Cited.{◌≡◌, ℕ, [], Err, refl, sym, ap, subst, ◌∙◌, arith, FollowEnd, Gathering, IsGathered, Rose}
use Rattle.gts_standby.proofs.AddLemmas.{holds_of}
use Rattle.gts_standby.proofs.GatherLemmas.{gathered_of, can_gather, gathered_one, gate_stays, gate_grows, has_room, began}
use Rattle.gts_standby.proofs.GoneLemmas.{begun_there, room_made, read_further, one_more, not_ready, finished, none_added}
use Rattle.gts_standby.proofs.WholeLemmas.{finished_all, finished_source, whole_read}
use Rattle.gts_standby.proofs.adding.add_all.Goals as goal

pub returns-in-Err-clause-added : goal.returns-in-Err-clause-added
returns-in-Err-clause-added g c = λ observed told s fed n h read enough. none_added g.P.Station.observed observed c.args.directory.now s (g.P.Station.calls c.args.station.now) c.args.standby.core c.args.standby.journal _ _ h

pub loop-end-init : goal.loop-end-init
loop-end-init g c =
    let T = g.P.Station.observed in
    let d = c.args.directory.now in
    let calls = g.P.Station.calls c.args.station.now in
    let j = c.args.standby.journal in
    let x = c.in-Ok.gathering in
    let e = c.in-Ok.ensures in
    record {
      gathering = record {
        settled = c.requires.opened.state;
        records = [];
        holds = began T d c.requires.opened.state calls c.args.standby.core j x (holds_of T d calls c.args.standby.core j c.requires.opened) e.journal e.batch e.seal;
      };
      place = omega (arith, c.requires.place);
      gone = λ observed told s fed n h read enough. begun_there T observed d s calls c.args.standby.core j x _ _ _ fed n h e.journal e.batch (began T d s calls c.args.standby.core j x h e.journal e.batch e.seal) read enough;
      whole = λ told w. w;
      silent = λ observed. refl;
      sound = refl;
      source_sound = refl;
      say = refl;
    }

pub returns-in-Err-make_ready-clause-added : goal.returns-in-Err-make_ready-clause-added
returns-in-Err-make_ready-clause-added g c = λ observed told s fed n h read enough.
    let gone = c.loop-end.invariant.gone observed told s fed n h read enough in
    not_ready g.P.Station.observed observed c.args.directory.now s _ _ _ _ _ _ _ _ _ _ gone c.in-Err-make_ready.end _ _ c.in-Err-make_ready.ensures.kind (c.make_ready.ensures.moments observed)

pub returns-in-Err-make_ready-clause-counts : goal.returns-in-Err-make_ready-clause-counts
returns-in-Err-make_ready-clause-counts g c =
    let inv = c.loop-end.invariant in
    let cause = c.in-Err-make_ready.ensures.cause in
    record {
      disk_fault = λ is. subst (λ (k : ℕ). Rose k (g.P.Station.disk_faults c.make_ready.new.station)) inv.sound (cause.disk_fault (ap (λ (e : FollowEnd). Err e) is));
      source_fault = λ is. subst (λ (k : ℕ). Rose k (g.S.Source.faults c.make_ready.new.source)) inv.source_sound (cause.source_fault (ap (λ (e : FollowEnd). Err e) is));
      later = omega (arith, inv.sound, cause.later);
      sound = λ is. ((cause.sound is).0 ∙ inv.sound, (cause.sound is).1 ∙ inv.source_sound);
      say = cause.say ∙ inv.say;
      source_later = omega (arith, inv.source_sound, cause.source_later);
    }

pub gather-requires-clause-going : goal.gather-requires-clause-going
gather-requires-clause-going g c =
    let T = g.P.Station.observed in
    let d = c.args.directory.now in
    let new = g.P.Station.calls c.make_ready.new.station in
    can_gather T d new c.loop-end.core c.make_ready.new.self
    (has_room T d (g.P.Station.calls c.loop-end.station) new c.loop-end.core c.loop-end.gathering c.make_ready.new.self c.loop-end.invariant.gathering c.in_default.ensures.brought)

pub loop-end-smaller : goal.loop-end-smaller
loop-end-smaller g c =
    let T = g.P.Station.observed in
    let d = c.args.directory.now in
    let old = g.P.Station.calls c.loop-end.station in
    let new = g.P.Station.calls c.make_ready.new.station in
    let x = c.loop-end.gathering in
    let room = has_room T d old new c.loop-end.core x c.make_ready.new.self c.loop-end.invariant.gathering c.in_default.ensures.brought in
    let one = c.in-Ok-gather.ensures.gathered in
    let then = gathered_one T d new c.loop-end.core c.make_ready.new.self _ c.in-Ok-gather.size c.gather.new.core c.gather.new.self _ room one in
    omega (
      arith,
      gate_stays T d old new x c.make_ready.new.self (gathered_of T d old c.loop-end.core x c.loop-end.invariant.gathering) c.in_default.ensures.brought,
      gate_grows T d new c.loop-end.core c.make_ready.new.self _ c.in-Ok-gather.size c.gather.new.core c.gather.new.self _ room one,
      then.holds.stands.room,
    )

pub loop-end-preserved : goal.loop-end-preserved
loop-end-preserved g c =
    let T = g.P.Station.observed in
    let d = c.args.directory.now in
    let old = g.P.Station.calls c.loop-end.station in
    let new = g.P.Station.calls c.make_ready.new.station in
    let x = c.loop-end.gathering in
    let y = c.make_ready.new.self in
    let inv = c.loop-end.invariant in
    let brought = c.in_default.ensures.brought in
    let room = has_room T d old new c.loop-end.core x y inv.gathering brought in
    let one = c.in-Ok-gather.ensures.gathered in
    record {
      gathering = gathered_one T d new c.loop-end.core y _ c.in-Ok-gather.size c.gather.new.core c.gather.new.self _ room one;
      place = omega (
        arith,
        inv.place,
        gate_stays T d old new x y (gathered_of T d old c.loop-end.core x inv.gathering) brought,
        gate_grows T d new c.loop-end.core y _ c.in-Ok-gather.size c.gather.new.core c.gather.new.self _ room one,
      );
      gone = λ observed told s fed n h read enough.
          let made = room_made T observed d s _ _ _ _ _ _ _ _ _ _ (inv.gone observed told s fed n h read enough) new y brought (c.make_ready.ensures.silent observed) (c.make_ready.ensures.moments observed) in
          let further = read_further T observed d s _ _ _ _ _ _ _ _ _ _ made _ _ (c.in_default.ensures.kept told) in
          one_more T observed d s _ _ _ _ _ _ _ _ _ _ further c.in-Ok-gather.size c.gather.new.core c.gather.new.self _ one;
      whole = λ told w. c.in-Ok-gather.ensures.whole _ (c.in_default.ensures.kept told _ (whole_read c.loop-end.ahead _ (inv.whole told w))).all;
      silent = λ observed. c.make_ready.ensures.silent observed ∙ inv.silent observed;
      sound = (c.in_default.ensures.cause.sound tt).0 ∙ inv.sound;
      source_sound = (c.in_default.ensures.cause.sound tt).1 ∙ inv.source_sound;
      say = c.make_ready.ensures.cause.say ∙ inv.say;
    }

pub finish-requires-clause-gathered : goal.finish-requires-clause-gathered
finish-requires-clause-gathered g c =
    let T = g.P.Station.observed in
    let d = c.args.directory.now in
    let new = g.P.Station.calls c.make_ready.new.station in
    let room = has_room T d (g.P.Station.calls c.loop-end.station) new c.loop-end.core c.loop-end.gathering c.make_ready.new.self c.loop-end.invariant.gathering c.in_default.ensures.brought in
    subst (λ (y : Gathering). IsGathered T d new y) (sym c.in-Err-gather.ensures.unchanged) (gathered_of T d new c.loop-end.core c.make_ready.new.self room)

pub returns-in-Err-gather-clause-added : goal.returns-in-Err-gather-clause-added
returns-in-Err-gather-clause-added g c = λ observed told s fed n h read enough.
    let T = g.P.Station.observed in
    let d = c.args.directory.now in
    let new = g.P.Station.calls c.make_ready.new.station in
    let made = room_made T observed d s _ _ _ _ _ _ _ _ _ _ (c.loop-end.invariant.gone observed told s fed n h read enough) new c.make_ready.new.self c.in_default.ensures.brought (c.make_ready.ensures.silent observed)
    (c.make_ready.ensures.moments observed) in
    let further = read_further T observed d s _ _ _ _ _ _ _ _ _ _ made _ _ (c.in_default.ensures.kept told) in
    finished T observed d s _ _ _ _ _ _ _ _ _ _ further c.finish.result c.in-Err-gather.end _ c.gather.new.self c.finish.new.self c.in-Err-gather.ensures.kind c.in-Err-gather.ensures.unchanged c.in-Err-gather.ensures.gathered
    c.finish.ensures.finished (c.finish.ensures.moments observed)

pub returns-in-Err-gather-clause-whole : goal.returns-in-Err-gather-clause-whole
returns-in-Err-gather-clause-whole g c = λ told w. finished_all _ c.finish.result c.in-Err-gather.end _ c.finish.ensures.finished
    (c.in-Err-gather.ensures.whole _ (c.in_default.ensures.kept told _ (whole_read c.loop-end.ahead _ (c.loop-end.invariant.whole told w))).all)

pub returns-in-Err-gather-clause-counts : goal.returns-in-Err-gather-clause-counts
returns-in-Err-gather-clause-counts g c =
    let inv = c.loop-end.invariant in
    let finished = c.finish.ensures.finished in
    let end = c.in-Err-gather.end in
    let disk : g.P.Station.disk_faults c.make_ready.new.station ≡ g.P.Station.disk_faults c.args.station.now = (c.in_default.ensures.cause.sound tt).0 ∙ inv.sound in
    let source : g.S.Source.faults c.make_ready.new.source ≡ g.S.Source.faults c.args.source.now = (c.in_default.ensures.cause.sound tt).1 ∙ inv.source_sound in
    record {
      disk_fault = λ is. subst (λ (k : ℕ). Rose k (g.P.Station.disk_faults c.finish.new.station)) disk (c.finish.ensures.counts.disk_fault is);
      source_fault = λ is. absurd (c.in-Err-gather.ensures.unread (finished_source _ c.finish.result end finished is));
      later = omega (arith, disk, c.finish.ensures.counts.later);
      sound = λ is. (c.finish.ensures.counts.sound is ∙ disk, source);
      say = c.finish.ensures.counts.say ∙ c.make_ready.ensures.cause.say ∙ inv.say;
      source_later = omega (arith, source);
    }
