use Rattle.gts_core.proofs.Cited.{rules, ◌≡◌, ℕ, List, refl, map, subst, AreNeeded, IsExtentOf, bulletins_in, circuit_need_of, need_at}
use Rattle.gts_event.specs.declared.values.CircuitNeed.{CircuitNeed}
use Rattle.gts_core.proofs.needs.extent_in.Goals as goal

pub returns : goal.returns
returns c =
    let circuits = c.in_ok-circuits.circuits.items in
    let positions = c.in_ok-positions.positions.items in
    let shelf = c.args.store.now in
    let one : c.deref.result.now ≡ circuits = search rules in
    let two : c.deref-2.result.now ≡ positions = search rules in
    let three : c.deref-3.result.now ≡ circuits = search rules in
    let extent : IsExtentOf c.extent_at.result (need_at shelf positions (map circuit_need_of circuits)) =
    subst (λ (ps : List ℕ). IsExtentOf c.extent_at.result (need_at shelf ps (map circuit_need_of circuits))) two
    (subst (λ (cs : List CircuitNeed). IsExtentOf c.extent_at.result (need_at shelf c.deref-2.result.now (map circuit_need_of cs))) three c.extent_at.ensures) in
    record {
      need = record { accepted = c.args.count; bulletins = bulletins_in shelf positions; circuits = map circuit_need_of circuits };
      gathered = record {
        accepted = refl;
        circuits = c.in_ok-circuits.ensures;
        positions = positions;
        needed = subst (λ (cs : List CircuitNeed). AreNeeded c.args.window c.args.count (map circuit_need_of cs) positions) one c.in_ok-positions.ensures;
        bulletins = refl;
      };
      extent_of = record { bulletins = extent.bulletins; bodies = extent.bodies; circuits = extent.circuits; places = extent.places };
    }
