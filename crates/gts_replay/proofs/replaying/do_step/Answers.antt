use Rattle.gts_replay.proofs.Cited.{◌≡◌, ◌<◌, length, Result, ap, subst, ◌∙◌, arith, length-map, with_items_is, Goes, IsHeadIn, SwitchFault, all_done, bytes_announced, state_at, takes_of_drain, head_of, common_steps}
use Rattle.gts_replay.specs.declared.head.Head.{Head}
use Rattle.gts_replay.proofs.StepLemmas.{does_take, fails_take, does_drain, fails_drain, does_reopen, unsettled_restart, does_restart, fails_restart, unsettled_compact, fails_compact, does_feed}
use Rattle.gts_replay.proofs.replaying.do_step.Goals as goal

pub returns-in-Feed-clause-does : goal.returns-in-Feed-clause-does
returns-in-Feed-clause-does g c =
    let valid = subst (λ (head : Head). IsHeadIn (length (g.W.Switch.meanings.directory c.args.switch.now).circuits) c.args.steps.now.kind (head_of head)) c.in-Feed.is c.requires.valid in
    let within : c.in-Feed.c < length c.args.room.now.decoders.items = omega (arith, valid.0, c.requires.decoders) in
    rw (c.in-Feed.is) (does_feed _ _ _ c.in-Feed.c c.in-Feed.length _ _ _ _ _ c.args.room.now.decoders.items c.index_mut-decoder.result.now c.feed.new.decoder _ _ within
    (rw (c.index_mut-decoder.ensures.value) at c.feed.ensures.feeds))

pub returns-in-Err-clause-does : goal.returns-in-Err-clause-does
returns-in-Err-clause-does g c = rw (c.in-Take.is) (fails_take _ _ _ _ _ _ _ _ _ c.take.result _ c.take.ensures.called c.in-Err.is)

pub returns-in-Err-drain-clause-does : goal.returns-in-Err-drain-clause-does
returns-in-Err-drain-clause-does g c = rw (c.in-Drain.is)
    (fails_drain _ _ _ _ _ _ _ _ _ _ (λ o first h start. subst (λ (r : Result (Unit {0}) SwitchFault). Goes g.W.Switch.meanings o first h
    (all_done (takes_of_drain (state_at g.W.Switch.meanings c.args.switch.now o h) c.in-Drain.c)) r c.drain.new.switch)
    c.in-Err-drain.is (c.drain.ensures.goes o first h start)))

pub returns-in-Err-settle-clause-does : goal.returns-in-Err-settle-clause-does
returns-in-Err-settle-clause-does g c = grind (arith, common_steps, unsettled_restart)

pub returns-in-Err-restart-clause-does : goal.returns-in-Err-restart-clause-does
returns-in-Err-restart-clause-does g c = rw (c.in-Restart.is) (fails_restart _ _ _ _ _ _ _ c.settle.new.self _ c.settle.result _
    c.settle.ensures.settling c.in_default-settle.is c.restart.result _ c.restart.ensures.reopening c.in-Err-restart.is)

pub returns-in-Err-settle-2-clause-does : goal.returns-in-Err-settle-2-clause-does
returns-in-Err-settle-2-clause-does g c = grind (arith, common_steps, unsettled_compact)

pub returns-in-Err-compact-clause-does : goal.returns-in-Err-compact-clause-does
returns-in-Err-compact-clause-does g c = rw (c.in-Compact.is) (fails_compact _ _ _ _ _ _ _ c.settle-in-Compact.new.self _ c.settle-in-Compact.result _
    c.settle-in-Compact.ensures.settling c.in_default-settle-2.is c.compact.result _ c.compact.ensures.compacting c.in-Err-compact.is)

pub returns-in_default-clause-does : goal.returns-in_default-clause-does
returns-in_default-clause-does g c =
    let none = subst (λ (head : Head). c.args.steps.now.feed ≡ bytes_announced (head_of head)) c.in-Take.is c.requires.feed in
    rw (c.in-Take.is) (does_take _ _ _ _ _ _ _ _ _ c.take.result _ c.take.ensures.called c.in_default.is none)

pub returns-in_default-drain-clause-does : goal.returns-in_default-drain-clause-does
returns-in_default-drain-clause-does g c =
    let none = subst (λ (head : Head). c.args.steps.now.feed ≡ bytes_announced (head_of head)) c.in-Drain.is c.requires.feed in
    rw (c.in-Drain.is) (does_drain _ _ _ _ _ _ _ _ _ (λ o first h start. subst (λ (r : Result (Unit {0}) SwitchFault). Goes g.W.Switch.meanings o first h
    (all_done (takes_of_drain (state_at g.W.Switch.meanings c.args.switch.now o h) c.in-Drain.c)) r c.drain.new.switch)
    c.in_default-drain.is (c.drain.ensures.goes o first h start)) none)

pub returns-in-Reopen-clause-does : goal.returns-in-Reopen-clause-does
returns-in-Reopen-clause-does g c = grind (arith, common_steps, does_reopen)

pub returns-in_default-restart-clause-does : goal.returns-in_default-restart-clause-does
returns-in_default-restart-clause-does g c =
    let none = subst (λ (head : Head). c.args.steps.now.feed ≡ bytes_announced (head_of head)) c.in-Restart.is c.requires.feed in
    rw (c.in-Restart.is) (does_restart _ _ _ _ _ _ _ c.settle.new.self _ c.settle.result _ c.settle.ensures.settling c.in_default-settle.is _
    c.restart.result _ c.restart.ensures.reopening c.in_default-restart.is
    (with_items_is c.args.room.now.decoders c.reopen_all.new.decoders (omega (arith, simp length-map at (ap length c.reopen_all.ensures), c.deref_mut.ensures.len)) ∙ cc)
    c.requires.decoders none)
