use Rattle.gts_prioq.proofs.Cited.{◌≡◌, ◌+◌, ◌-◌, ◌<◌, ◌≤◌, length, get_or, ap, arith, length-set, Waiting, room_of, spare, common_steps}
use Rattle.gts_prioq.proofs.WaitingLemmas.{at-set, levels-set_kept, spare-set, count_of-set}
use Rattle.gts_prioq.proofs.queue.PrioQueue.reserve.Goals as goal

pub returns-in_err-reserve-clause-unchanged : goal.returns-in_err-reserve-clause-unchanged
returns-in_err-reserve-clause-unchanged c = grind (arith, common_steps, levels-set_kept)

pub returns-clause-unchanged : goal.returns-clause-unchanged
returns-clause-unchanged c = grind (arith, common_steps, levels-set_kept)

pub returns-in_err-reserve-clause-spares : goal.returns-in_err-reserve-clause-spares
returns-in_err-reserve-clause-spares c =
    let e : c.args.level ≡ (c.from.result - 1) + 1 = omega (arith, c.from.ensures) in
    let inside : c.from.result - 1 < length c.self.inside.levels = omega (arith, c.from.ensures, c.self.invariant.0) in
    let more : room_of (get_or c.self.inside.levels (c.from.result - 1) c.index-self-from.result) ≤ room_of c.reserve.new.self = omega (arith, c.reserve.ensures.len, c.reserve.ensures.capacity) in
    λ l. omega (arith, spare-set c.self.inside.levels (c.from.result - 1) c.args.level c.index-self-from.result c.reserve.new.self e inside more l, ap (λ (w : Waiting). spare w l) c.self.view_is)

pub returns-clause-spares : goal.returns-clause-spares
returns-clause-spares c =
    let e : c.args.level ≡ (c.from.result - 1) + 1 = omega (arith, c.from.ensures) in
    let inside : c.from.result - 1 < length c.self.inside.levels = omega (arith, c.from.ensures, c.self.invariant.0) in
    let more : room_of (get_or c.self.inside.levels (c.from.result - 1) c.index-self-from.result) ≤ room_of c.reserve.new.self = omega (arith, c.reserve.ensures.len, c.reserve.ensures.capacity) in
    λ l. omega (arith, spare-set c.self.inside.levels (c.from.result - 1) c.args.level c.index-self-from.result c.reserve.new.self e inside more l, ap (λ (w : Waiting). spare w l) c.self.view_is)

pub returns-clause-room : goal.returns-clause-room
returns-clause-room c = grind (arith, common_steps, at-set)

pub invariant_of-self-2 : goal.invariant_of-self-2
invariant_of-self-2 c = grind (arith, common_steps, count_of-set, length-set)
