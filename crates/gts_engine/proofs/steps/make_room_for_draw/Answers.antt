use Rattle.gts_engine.proofs.Cited.{◌<◌, ◌≤◌, inr, sym, ap, subst, arith, Directory, EngineParts, MOST_REPEAT, circuit_of_row, most_drawn, common_steps}
use Rattle.std.proofs.Common.{slice_index_or}
use Rattle.gts_engine.proofs.TakingLemmas.{most_is}
use Rattle.gts_engine.proofs.SettlingLemmas.{whenever, draw_gathers, room_settled, held_settled, drawn_settled}
use Rattle.gts_engine.proofs.AnsweringLemmas.{may_directory, draws_still}
use Rattle.gts_engine.proofs.steps.make_room_for_draw.Goals as goal

pub returns-then-parts-c-clause-settles : goal.returns-then-parts-c-clause-settles
returns-then-parts-c-clause-settles g c = inr c.settle.ensures.settles

pub returns-then-parts-c-clause-bytes : goal.returns-then-parts-c-clause-bytes
returns-then-parts-c-clause-bytes g c = grind (arith, common_steps, whenever, room_settled, draw_gathers)

pub returns-then-parts-c-clause-saying : goal.returns-then-parts-c-clause-saying
returns-then-parts-c-clause-saying g c = grind (arith, common_steps, whenever, held_settled)

pub returns-then-parts-c-clause-draw : goal.returns-then-parts-c-clause-draw
returns-then-parts-c-clause-draw g c = grind (arith, common_steps, most_is, whenever, drawn_settled)

pub returns-then-parts-c-clause-few : goal.returns-then-parts-c-clause-few
returns-then-parts-c-clause-few g c =
    let old = c.args.parts.now in
    let most = most_is old.directory c.args.c (circuit_of_row c.circuit.result.now) c.circuit.ensures.row in
    let D : Directory → Type 0 = λ d. most_drawn d c.args.c ≤ MOST_REPEAT in
    subst D (sym (ap (λ (p : EngineParts g.row.P.Denot). p.directory) c.settle.ensures.settles.rest)) (omega (arith, most, c.circuit.ensures.repeat.1))

pub returns-clause-few : goal.returns-clause-few
returns-clause-few g c =
    let old = c.args.parts.now in
    let most = most_is old.directory c.args.c (circuit_of_row c.circuit.result.now) c.circuit.ensures.row in
    let D : Directory → Type 0 = λ d. most_drawn d c.args.c ≤ MOST_REPEAT in
    subst D (sym (may_directory g.P.Station c.make_room.result old c.make_room.new.parts c.make_room.ensures.settles)) (omega (arith, most, c.circuit.ensures.repeat.1))

-- behind room that was made, as many draws are counted, or none
pub returns-clause-draw : goal.returns-clause-draw
returns-clause-draw g c =
    let old = c.args.parts.now in
    let new = c.make_room.new.parts in
    let most = most_is old.directory c.args.c (circuit_of_row c.circuit.result.now) c.circuit.ensures.row in
    let few : slice_index_or old.drawn c.args.c 0 < most_drawn old.directory c.args.c = omega (arith, c.if-parts-c.false, most) in
    whenever c.make_room.result (draws_still g.P.Station c.make_room.result old new c.args.c c.make_room.ensures.settles few)
