use Rattle.gts_standby.proofs.Cited.{refl, drop, sym, subst, Ends, FollowEnd, HasRead, InFeed, ReadsAll, stopped, common_steps, arith}
use Rattle.gts_standby.proofs.AddLemmas.{holds_of}
use Rattle.gts_standby.proofs.TakeLemmas.{all_unread, behind_taken, header_taken, answers_there, added_there, reads_after_there, kept_there, moments_there, done_stops, open_alone, open_no_end, taken_alone, fed_alone, opened_there}
use Rattle.gts_standby.proofs.following.take_feed.Goals as goal

pub returns-in-Ok-take_header-clause-answer : goal.returns-in-Ok-take_header-clause-answer
returns-in-Ok-take_header-clause-answer g c = λ observed told.
    let d = c.args.directory.now in
    let o = c.in-Ok.ensures.opened in
    let j = c.in-Ok.opened.1 in
    let fed = g.S.Source.left c.args.source.now in
    let read : HasRead fed c.new-ahead.result fed = subst (λ (a : InFeed). HasRead fed a fed) (sym c.new-ahead.ensures) (all_unread fed) in
    let synced = c.in-Ok.ensures.synced observed in
    let f = o.stands observed in
    let header = c.in-Ok-take_header.ensures.taken told fed read in
    let has = c.take_records.ensures.taken observed told o.state (drop 40 fed) (holds_of _ d _ _ j o) header.1 in
    let whole = behind_taken d _ _ j o.state fed synced f c.take_records.result c.mark.result _ _ c.mark.ensures header.0 has in
    answers_there d _ _ j o.state fed synced f c.take_records.result _ _ whole

pub returns-in-Ok-take_header-clause-added : goal.returns-in-Ok-take_header-clause-added
returns-in-Ok-take_header-clause-added g c = λ observed told.
    let d = c.args.directory.now in
    let o = c.in-Ok.ensures.opened in
    let j = c.in-Ok.opened.1 in
    let fed = g.S.Source.left c.args.source.now in
    let read : HasRead fed c.new-ahead.result fed = subst (λ (a : InFeed). HasRead fed a fed) (sym c.new-ahead.ensures) (all_unread fed) in
    let synced = c.in-Ok.ensures.synced observed in
    let f = o.stands observed in
    let header = c.in-Ok-take_header.ensures.taken told fed read in
    let has = c.take_records.ensures.taken observed told o.state (drop 40 fed) (holds_of _ d _ _ j o) header.1 in
    let whole = behind_taken d _ _ j o.state fed synced f c.take_records.result c.mark.result _ _ c.mark.ensures header.0 has in
    record {
      opened = added_there d _ _ j o.state fed synced f c.take_records.result _ _ whole;
      reads = reads_after_there d _ _ j o.state fed synced f c.take_records.result _ _ whole;
      kept = kept_there d _ _ j o.state fed synced f c.take_records.result _ _ whole;
    }

pub returns-in-Ok-take_header-clause-moments : goal.returns-in-Ok-take_header-clause-moments
returns-in-Ok-take_header-clause-moments g c = λ observed told from taken reads comes.
    let d = c.args.directory.now in
    let o = c.in-Ok.ensures.opened in
    let j = c.in-Ok.opened.1 in
    let fed = g.S.Source.left c.args.source.now in
    let read : HasRead fed c.new-ahead.result fed = subst (λ (a : InFeed). HasRead fed a fed) (sym c.new-ahead.ensures) (all_unread fed) in
    let synced = c.in-Ok.ensures.synced observed in
    let f = o.stands observed in
    let header = c.in-Ok-take_header.ensures.taken told fed read in
    let has = c.take_records.ensures.taken observed told o.state (drop 40 fed) (holds_of _ d _ _ j o) header.1 in
    let whole = behind_taken d _ _ j o.state fed synced f c.take_records.result c.mark.result _ _ c.mark.ensures header.0 has in
    moments_there d _ _ j o.state fed synced f c.take_records.result _ _ whole from taken reads comes

pub returns-in-Err-take_header-clause-answer : goal.returns-in-Err-take_header-clause-answer
returns-in-Err-take_header-clause-answer g c = λ observed told.
    let d = c.args.directory.now in
    let o = c.in-Ok.ensures.opened in
    let j = c.in-Ok.opened.1 in
    let fed = g.S.Source.left c.args.source.now in
    let read : HasRead fed c.new-ahead.result fed = subst (λ (a : InFeed). HasRead fed a fed) (sym c.new-ahead.ensures) (all_unread fed) in
    let synced = c.in-Ok.ensures.synced observed in
    let f = o.stands observed in
    let header = c.in-Err-take_header.ensures.taken told fed read in
    let whole = header_taken d _ _ j o.state fed synced f c.in-Err-take_header.end c.mark.result _ c.mark.ensures header in
    answers_there d _ _ j o.state fed synced f c.in-Err-take_header.end _ _ whole

pub returns-in-Err-take_header-clause-added : goal.returns-in-Err-take_header-clause-added
returns-in-Err-take_header-clause-added g c = λ observed told.
    let d = c.args.directory.now in
    let o = c.in-Ok.ensures.opened in
    let j = c.in-Ok.opened.1 in
    let fed = g.S.Source.left c.args.source.now in
    let read : HasRead fed c.new-ahead.result fed = subst (λ (a : InFeed). HasRead fed a fed) (sym c.new-ahead.ensures) (all_unread fed) in
    let synced = c.in-Ok.ensures.synced observed in
    let f = o.stands observed in
    let header = c.in-Err-take_header.ensures.taken told fed read in
    let whole = header_taken d _ _ j o.state fed synced f c.in-Err-take_header.end c.mark.result _ c.mark.ensures header in
    record {
      opened = added_there d _ _ j o.state fed synced f c.in-Err-take_header.end _ _ whole;
      reads = reads_after_there d _ _ j o.state fed synced f c.in-Err-take_header.end _ _ whole;
      kept = kept_there d _ _ j o.state fed synced f c.in-Err-take_header.end _ _ whole;
    }

pub returns-in-Err-take_header-clause-done : goal.returns-in-Err-take_header-clause-done
returns-in-Err-take_header-clause-done g c = λ told is.
    let fed = g.S.Source.left c.args.source.now in
    let read : HasRead fed c.new-ahead.result fed = subst (λ (a : InFeed). HasRead fed a fed) (sym c.new-ahead.ensures) (all_unread fed) in
    done_stops c.in-Err-take_header.end _ _ (c.in-Err-take_header.ensures.taken told fed read (stopped Ends)) is

pub returns-in-Ok-take_header-clause-done : goal.returns-in-Ok-take_header-clause-done
returns-in-Ok-take_header-clause-done g c = λ told is.
    let fed = g.S.Source.left c.args.source.now in
    let read : HasRead fed c.new-ahead.result fed = subst (λ (a : InFeed). HasRead fed a fed) (sym c.new-ahead.ensures) (all_unread fed) in
    let header = c.in-Ok-take_header.ensures.taken told fed read in
    subst (λ (e : FollowEnd). ReadsAll e (g.S.Source.left c.take_records.new.source)) is (c.take_records.ensures.whole told header.1.all)

pub returns-in-Err-clause-refused : goal.returns-in-Err-clause-refused
returns-in-Err-clause-refused g c = λ observed told. rw c.from.ensures (open_alone c.in-Err.fault _ _ _ (c.open_core.ensures.told observed) refl)

pub returns-in-Ok-take_header-clause-refused : goal.returns-in-Ok-take_header-clause-refused
returns-in-Ok-take_header-clause-refused g c = λ observed told.
    let d = c.args.directory.now in
    let o = c.in-Ok.ensures.opened in
    let j = c.in-Ok.opened.1 in
    let fed = g.S.Source.left c.args.source.now in
    let read : HasRead fed c.new-ahead.result fed = subst (λ (a : InFeed). HasRead fed a fed) (sym c.new-ahead.ensures) (all_unread fed) in
    let header = c.in-Ok-take_header.ensures.taken told fed read in
    let has = c.take_records.ensures.taken observed told o.state (drop 40 fed) (holds_of _ d _ _ j o) header.1 in
    taken_alone c.take_records.result _ _ _ has.kind

pub returns-in-Err-take_header-clause-refused : goal.returns-in-Err-take_header-clause-refused
returns-in-Err-take_header-clause-refused g c = λ observed told. fed_alone c.in-Err-take_header.end _ _ _ c.in-Err-take_header.ensures.kind

-- where it opens, it doesn't open to a fault
pub returns-in-Ok-take_header-clause-unopened : goal.returns-in-Ok-take_header-clause-unopened
returns-in-Ok-take_header-clause-unopened g c = grind (arith, common_steps, opened_there)

pub returns-in-Err-take_header-clause-unopened : goal.returns-in-Err-take_header-clause-unopened
returns-in-Err-take_header-clause-unopened g c = grind (arith, common_steps, opened_there)

pub returns-in-Err-clause-unopened : goal.returns-in-Err-clause-unopened
returns-in-Err-clause-unopened g c = λ observed fault is. (c.open_core.ensures.told observed, refl)

pub returns-in-Err-clause-added : goal.returns-in-Err-clause-added
returns-in-Err-clause-added g c = grind (arith, common_steps, open_no_end)
