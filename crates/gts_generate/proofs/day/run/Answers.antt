use Rattle.gts_generate.proofs.Cited.{◌≡◌, ◌≤◌, ℕ, inl, inr, subst, arith}
use Rattle.gts_generate.specs.History.{IsFullOn}
use Rattle.gts_event.specs.declared.fault.SwitchFault.TheVariants as switch
use Rattle.gts_replay.specs.declared.end.ReplayEnd.TheVariants as end
use Rattle.gts_generate.proofs.RunningLemmas.{run-done, run-full, run-whole}
use Rattle.gts_generate.proofs.day.run.Goals as goal

pub unreachable-requires : goal.unreachable-requires
unreachable-requires c =
    elim c.in-Capture.is [
      | inl cut ↦
          run-whole c.args.count c.args.engine.now c.replay.new.switch c.requires.begins c.requires.few c.replay.result c.new-capture.result
          c.replay.new.capture c.new-capture.ensures c.replay.ensures.ends cut.0 cut.1
      | inr failed ↦ let rose : 1 ≤ 0 = c.replay.ensures.cause.source_failed failed in omega (arith, rose)
    ]

pub returns-in-Done-clause-done : goal.returns-in-Done-clause-done
returns-in-Done-clause-done c =
    run-done c.args.count c.args.engine.now c.replay.new.switch c.requires.begins c.requires.few c.replay.result c.new-capture.result
    c.replay.new.capture c.new-capture.ensures c.replay.ensures.ends c.in-Done.is

pub returns-in-Fault-Full-clause-full : goal.returns-in-Fault-Full-clause-full
returns-in-Fault-Full-clause-full c used wanted limit of =
    let f = c.in-Fault-Full in
    let at_end : c.replay.result ≡ end.Fault (switch.Full f.used f.need f.limit) = cc (f.is, f.field-0-is) in
    let full = run-full c.args.count c.args.engine.now c.replay.new.switch c.requires.begins c.requires.few c.replay.result c.new-capture.result
    c.replay.new.capture c.new-capture.ensures c.replay.ensures.ends f.used f.need f.limit at_end in
    let same_used : f.used ≡ used = cc in
    let same_need : f.need ≡ wanted = cc in
    let same_limit : f.limit ≡ limit = cc in
    subst (λ (k : ℕ). IsFullOn c.args.count used wanted k) same_limit
    (subst (λ (k : ℕ). IsFullOn c.args.count used k f.limit) same_need (subst (λ (k : ℕ). IsFullOn c.args.count k f.need f.limit) same_used full))
