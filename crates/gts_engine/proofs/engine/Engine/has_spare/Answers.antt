use Rattle.gts_engine.proofs.Cited.{◌∙◌, ap, arith, Engine, add-mul, due, seal_size, written, due-waiting}
use Rattle.gts_engine.proofs.engine.Engine.has_spare.Goals as goal

pub has_spare-requires : goal.has_spare-requires
has_spare-requires g c =
    let old = c.self.inside.parts in
    let s0 = c.self.invariant.goes (ap (λ (e : Engine g.row.P.Denot). e.stopped) c.self.view_is ∙ c.requires) in
    omega (arith, c.a_core_has_the_waiting_draws_of_its_state.ensures old.directory old.core s0.state s0.holds, due-waiting s0.state, s0.room, add-mul 24 (seal_size written) (due s0.state), old.within.limit)
