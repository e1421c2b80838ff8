use Rattle.std.proofs.Common.{◌≡◌, true, take, sym, ◌∙◌}
use Rattle.gts_circuit_tests.specs.Cited.{events_added, is_event}
use Rattle.gts_circuit_tests.proofs.OwedDeskLemmas.{feeds}
use Rattle.gts_circuit_tests.proofs.sender.OwedDeskDesk.feed.Goals as goal

pub returns-clause-added : goal.returns-clause-added
returns-clause-added c = λ before held.
    let n = c.next_step-taken in
    let step = n.result.1 in
    let is : is_event step ≡ true = sym c.is_event.ensures ∙ c.if-not-is_event.false in
    feeds c.args.self.now.takes c.args._c (events_added c.args._c before (take n.result.0 c.args.piece.now)) step n.new.decoder.message ((n.ensures.reads before held).events c.args._c) is
