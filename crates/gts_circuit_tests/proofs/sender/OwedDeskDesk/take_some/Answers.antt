use Rattle.std.proofs.Common.{◌≡◌, List, [], ◌∷◌, ◌++◌, ap, ◌∙◌, arith}
use Rattle.gts_calls.specs.Given.{Frame, frames_of}
use Rattle.gts_circuit_tests.proofs.OwedDeskLemmas.{first_on, later_on}
use Rattle.gts_circuit_tests.proofs.sender.OwedDeskDesk.take_some.Goals as goal

pub returns-then-self-gt0 : goal.returns-then-self-gt0
returns-then-self-gt0 c =
    let here : c.args.c ≡ 0 = omega (arith, c.if-c-ne0.false) in
    later_on c.args.self.now.takes c.args.c (frames_of c.clear.new.self) c.if-self-gt0.true here (ap frames_of c.clear.ensures)

pub returns : goal.returns
returns c =
    let here : c.args.c ≡ 0 = omega (arith, c.if-c-ne0.false) in
    let none : c.args.self.now.takes ≡ 0 = omega (arith, c.if-self-gt0.false) in
    let frame : Frame = record { index = 0; text = c.bytes.result.now } in
    let are : frames_of c.add.new.self ≡ frame ∷ [] = c.add.ensures ∙ ap (λ (l : List Frame). l ++ frame ∷ []) (ap frames_of c.clear.ensures) in
    first_on c.args.self.now.takes c.args.c c.bytes.result.now (frames_of c.add.new.self) none here (c.bytes.ensures ∙ c.write_frame.ensures) are
