use Rattle.gts_core.proofs.Cited.{Core, HasExtent, Holds, IsExtentOf, IsGathered, Lane, Need, NeedsExtent, core_of, List, length, sym, ap, ◌∙◌, subst, arith, length-map, IfOk-weaker, NeedExtent, common_steps}
use Rattle.gts_core.proofs.GatherLemmas.{need_gathered}
use Rattle.gts_core.proofs.whole.Core.need_extent.Goals as goal

pub extent_in-requires-clause-stored : goal.extent_in-requires-clause-stored
extent_in-requires-clause-stored c = grind (arith, common_steps, length-map)

pub extent_in-requires-clause-few : goal.extent_in-requires-clause-few
extent_in-requires-clause-few c = omega (arith, ap (λ (ls : List Lane). length ls) c.as_slice-lanes.ensures.value, c.self.invariant.few)

pub returns : goal.returns
returns c =
    let i = c.self.inside in
    let v = core_of i in
    IfOk-weaker c.extent_in.result (λ (e : NeedExtent). HasExtent i.window i.count i.store c.as_slice-lanes.result.now e) (λ (e : NeedExtent). NeedsExtent c.args.self.now e)
    (λ e has d s h.
    let own : Holds d v s = subst (λ (k : Core). Holds d k s) (sym c.self.view_is) h in
    let is : IsGathered i.window i.count i.store v.lanes has.need = subst (λ (ls : List Lane). IsGathered i.window i.count i.store ls has.need) c.as_slice-lanes.ensures.value has.gathered in
    subst (λ (n : Need). IsExtentOf e n) (need_gathered d v own.state own.parts has.need is ∙ own.need.same) has.extent_of)
    c.extent_in.ensures
