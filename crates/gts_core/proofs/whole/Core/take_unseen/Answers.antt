use Rattle.gts_core.proofs.Cited.{◌≡◌, ◌<◌, length, false, refl, sym, ap, subst, ◌∙◌, arith, true≢false, length-map, length-set, get_or_default, AreParts, CanTake, Core, Directory, Holds, IsStep, Lane, Stands, State, StoreAfter, Taken, after, circuit_at, core_of, frame_kept, idle_lane, index_told, lane_in, level_in, need_on, outcome, plan_of, row_plan, with_item, outcome-same, after-same, spoken-same, common_steps}
use Rattle.gts_core.proofs.PartsLemmas.{can_take}
use Rattle.gts_core.proofs.StepLemmas.{holds_by, take_parts}
use Rattle.gts_core.proofs.SaidLemmas.{frame_held, says_taken}
use Rattle.gts_core.proofs.whole.Core.take_unseen.Goals.{After-has_what_it_keeps}
use Rattle.gts_core.proofs.whole.Core.take_unseen.Goals as goal

pub take_on-outcome-requires-clause-can : goal.take_on-outcome-requires-clause-can
take_on-outcome-requires-clause-can c =
    let i = c.self.inside in
    let v = c.self.invariant in
    let here : c.args.c < length v.directory.circuits = omega (arith, c.requires, ap (λ (x : Core). length x.kept) c.self.view_is, ap length v.parts.kept, length-map v.directory.circuits row_plan) in
    let at : c.index_mut-lane.result.now ≡ lane_in i.lanes.items c.args.c = c.index_mut-lane.ensures.value ∙ get_or_default i.lanes.items c.args.c c.index_mut-lane.result.now idle_lane (omega (arith, here, v.parts.lanes)) in
    subst (λ (l : Lane). CanTake l i.store c.args.c) (sym at) (can_take v.directory (core_of i) v.state v.parts refl c.args.c here)

-- the core behind the take
abbrev behind : After-has_what_it_keeps → Core
behind c =
    let i = c.self.inside in
    core_of (record { window = i.window; count = i.count; table = i.table; store = c.take_on-outcome.new.store; lanes = with_item i.lanes c.args.c c.take_on-outcome.new.lane; ready = false })

-- by whatever state the core has its parts, it has them by the state after the take, and the outcome is that of the take
led : (c : After-has_what_it_keeps) (d : Directory) (t : State) → AreParts d (core_of c.self.inside) t → c.args.c < length d.circuits
    → (c.take_on-outcome.result ≡ outcome d t (Taken c.args.c)) × AreParts d (behind c) (after d t (Taken c.args.c))
led c d t parts here =
    let i = c.self.inside in
    let k = c.args.c in
    let o = c.take_on-outcome.result in
    let at : c.index_mut-lane.result.now ≡ lane_in i.lanes.items k = c.index_mut-lane.ensures.value ∙ get_or_default i.lanes.items k c.index_mut-lane.result.now idle_lane (omega (arith, here, parts.lanes)) in
    take_parts d (core_of i) (behind c) t k c.take_on-outcome.new.lane o here parts refl refl refl refl refl refl refl c.has_what_it_keeps.ensures
    (c.take_on-outcome.ensures.step (level_in d t) (need_on d t k) (subst (λ (l : Lane). Stands (level_in d t) (need_on d t k) l (circuit_at i.store k)) (sym at) (parts.stands k here)))
    (subst (λ (l : Lane). StoreAfter o l.queue i.store c.take_on-outcome.new.store k) at c.take_on-outcome.ensures.store)

here_by : (c : After-has_what_it_keeps) → c.args.c < length c.self.invariant.directory.circuits
here_by c = grind (arith, common_steps, length-map)

pub invariant_of-self : goal.invariant_of-self
invariant_of-self c =
    let v = c.self.invariant in
    record {
      directory = v.directory;
      state = after v.directory v.state (Taken c.args.c);
      parts = (led c v.directory v.state v.parts (here_by c)).1;
      few = omega (arith, length-set c.self.inside.lanes.items c.args.c c.take_on-outcome.new.lane, v.few);
      room = λ e. absurd (true≢false (sym e));
    }

pub returns-clause-step : goal.returns-clause-step
returns-clause-step c = λ d.
    let i = c.self.inside in
    let k = c.args.c in
    let o = c.take_on-outcome.result in
    let steps : (s : State) (h : Holds d (core_of i) s) → (o ≡ outcome d h.state (Taken k)) × AreParts d (behind c) (after d h.state (Taken k)) = λ s h.
    led c d h.state h.parts (omega (arith, c.requires, ap (λ (x : Core). length x.kept) c.self.view_is, ap length h.kept, length-map d.circuits row_plan)) in
    subst (λ (x : Core). IsStep d x (behind c) (Taken k) o) c.self.view_is (record {
      outcome = λ s h. (steps s h).0 ∙ outcome-same d h.state s (Taken k) h.need;
      after = λ s h. holds_by d (behind c) (after d h.state (Taken k)) (after d s (Taken k)) (steps s h).1 (after-same d h.state s (Taken k) h.need);
    })

pub returns-clause-given : goal.returns-clause-given
returns-clause-given c =
    let v = c.self.invariant in
    let k = c.args.c in
    let o = c.take_on-outcome.result in
    let parts = (led c v.directory v.state v.parts (here_by c)).1 in
    record {
      circuit = omega (arith, here_by c, ap length parts.kept, length-map v.directory.circuits row_plan, length-map c.take_on-outcome.new.store.circuits plan_of);
      bodies = c.take_on-outcome.ensures.bodies;
      given = c.take_on-outcome.ensures.given;
      says = λ n held d s was.
          let h : Holds d (core_of c.self.inside) s = subst (λ (x : Core). Holds d x s) (sym c.self.view_is) was in
          let t = h.state in
          let here : k < length d.circuits = omega (arith, c.requires, ap (λ (x : Core). length x.kept) c.self.view_is, ap length h.kept, length-map d.circuits row_plan) in
          let steps = led c d t h.parts here in
          sym (spoken-same d t s (Taken k) h.keeps h.need)
          ∙ says_taken d t k o (frame_kept (behind c).store k (index_told o)) steps.0 n (frame_held d (behind c) (after d t (Taken k)) k (index_told o) here steps.1 refl held);
    }
