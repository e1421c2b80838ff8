use Rattle.gts_replay.proofs.Cited.{ap, subst, CaptureKind, Ends, Held, common_steps, arith}
use Rattle.gts_replay.proofs.DecoderLemmas.{decode_fresh}
use Rattle.gts_replay.proofs.EndLemmas.{ends_unmade}
use Rattle.gts_replay.proofs.replaying.replay.Goals as goal

pub returns-in_default-clause-ends : goal.returns-in_default-clause-ends
returns-in_default-clause-ends g c = λ o h start. ends_unmade _ _ _ _ _ _ _ _ _ start

pub returns-clause-ends : goal.returns-clause-ends
returns-clause-ends g c = λ o h start.
    let E : CaptureKind → Type 0 = λ kind. Ends g.W.Switch.meanings g.W.Switch.observed kind o h g.S.Source.observed c.settle_behind.result c.args.switch.now c.settle_behind.new.switch
    (g.S.Source.left c.args.capture.now) (g.S.Source.left c.run-end.new.capture) in
    subst E (ap (λ (x : Held). x.kind) c.new-steps.ensures) (c.run-end.ensures.ends o h start c.settle_behind.result c.settle_behind.new.switch c.settle_behind.ensures.settles)

pub run-end-requires-clause-decode : goal.run-end-requires-clause-decode
run-end-requires-clause-decode g c = grind (arith, common_steps, decode_fresh)
