use Rattle.gts_engine.proofs.Cited.{sym, ◌∙◌, arith, add-mul, due, seal_size, written, due-waiting}
use Rattle.gts_engine.proofs.compacting.check_room.Goals as goal

pub waiting-requires : goal.waiting-requires
waiting-requires g c =
    let old = c.args.parts.now in
    let s0 = c.requires.sound.goes c.requires.going in
    omega (arith, c.a_core_has_the_waiting_draws_of_its_state.ensures old.directory old.core s0.state s0.holds, due-waiting s0.state, s0.room, add-mul 24 (seal_size written) (due s0.state), old.within.limit)

pub check_checkpoint-requires : goal.check_checkpoint-requires
check_checkpoint-requires g c =
    let old = c.args.parts.now in
    let s0 = c.requires.sound.goes c.requires.going in
    omega (arith, c.waiting.ensures old.directory s0.state s0.holds, due-waiting s0.state, s0.room, add-mul 24 (seal_size written) (due s0.state), old.within.limit)

pub returns-in-Ok-clause-room : goal.returns-in-Ok-clause-room
returns-in-Ok-clause-room g c = λ s holds size.
    c.in-Ok.ensures s (due-waiting s ∙ sym (c.waiting.ensures c.args.parts.now.directory s holds)) size

pub returns-in-Err-clause-room : goal.returns-in-Err-clause-room
returns-in-Err-clause-room g c = λ s holds size.
    c.in-Err.ensures s (due-waiting s ∙ sym (c.waiting.ensures c.args.parts.now.directory s holds)) size
