use Rattle.gts_sender.proofs.Cited.{ℕ, ◌<◌, ◌++◌, [], List, length, take, refl, sym, ap, ◌∙◌, arith, append_assoc, append-nil, Frame, frames_of, texts, common_steps}
use Rattle.gts_sender.proofs.WritingLemmas.{there, one_more, all_of, up_to, front_of}
use Rattle.gts_sender.proofs.writing.write_frames.Goals as goal

pub loop-i-init : goal.loop-i-init
loop-i-init g c = record { at = refl; written = ([], refl, λ observed. sym (append-nil (g.K.Sink.written c.args.sink.now))); sound = refl }

pub loop-i-preserved : goal.loop-i-preserved
loop-i-preserved g c = grind (arith, common_steps, there, one_more)

pub returns-in_default-clause-wrote : goal.returns-in_default-clause-wrote
returns-in_default-clause-wrote g c =
    let i = c.loop-i.invariant in
    let w = c.write_all.ensures.written in
    let given : List Frame = frames_of c.args.frames.now in
    let frame : Frame = record { index = c.frame-index.result.0; text = c.frame-index.result.1.now } in
    let within : c.loop-i.i < length given = there c.args.frames.now c.loop-i.i (omega (arith, c.loop-i-test.true, c.count-i-end.ensures)) in (
      texts (take c.loop-i.i given) ++ w.0,
      up_to given c.loop-i.i frame w.0 within c.frame-index.ensures.frame (front_of c.write_all.result frame.text w.0 w.1),
      λ observed. w.2 observed ∙ ap (λ (l : List ℕ). l ++ w.0) (i.written.2 observed) ∙ append_assoc (g.K.Sink.written c.args.sink.now) i.written.0 w.0
          ∙ ap (λ (l : List ℕ). g.K.Sink.written c.args.sink.now ++ (l ++ w.0)) i.written.1,
    )

pub returns-clause-wrote : goal.returns-clause-wrote
returns-clause-wrote g c = grind (arith, common_steps, all_of)
