use Rattle.gts_engine.proofs.Cited.{rules, ◌≡◌, Ok, subst, IfOk-at_ok, Engine, Holds, IsSizeAt, State, need, NeedsExtent}
use Rattle.gts_engine.proofs.engine.Engine.checkpoint_size.Goals as goal

pub returns-clause-size : goal.returns-clause-size
returns-clause-size g c =
    let p = c.self.inside.parts in
    let held : c.need_extent-extent.result ≡ Ok c.in_ok-extent.extent = search rules in
    let extent : NeedsExtent p.core c.in_ok-extent.extent = IfOk-at_ok (NeedsExtent p.core) held c.need_extent-extent.ensures in
    let T : Engine g.row.P.Denot → Type 0 = λ e. (s : State) → Holds e.directory e.core s → IsSizeAt e.directory s c.size_of.result in
    subst T c.self.view_is (λ s holds. c.size_of.ensures (need p.directory s) (extent p.directory s holds))
