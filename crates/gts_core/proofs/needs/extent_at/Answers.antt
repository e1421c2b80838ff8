use Rattle.gts_core.proofs.Cited.{◌≡◌, ◌-◌, ◌^◌, ◌++◌, ℕ, List, length, take, flat_map, ap, sym, ◌∙◌, arith, min, length-map, take_all, Bulletin, CircuitNeed, bulletins_in, circuit_need_of, flat_of}
use Rattle.gts_core.proofs.needs.extent_at.Goals as goal

pub returns : goal.returns
returns c =
    let circuits = c.args.circuits.now in
    let places : CircuitNeed → List ℕ = λ n. n.waiting ++ n.kept in
    let whole : take c.loop-position.position-index c.args.positions.now ≡ c.args.positions.now =
    take_all c.loop-position.position-index c.args.positions.now (omega (arith, c.loop-position-test.false)) in
    record {
      bulletins = c.loop-position.invariant.0 ∙ ap (λ (ps : List ℕ). min (length (bulletins_in c.args.store.now ps)) (2 ^ 64 - 1)) whole;
      bodies =
          c.loop-position.invariant.1
          ∙ ap (λ (ps : List ℕ). min (length (flat_map (λ (b : Bulletin). b.body) (bulletins_in c.args.store.now ps))) (2 ^ 64 - 1)) whole;
      circuits = sym (length-map circuits circuit_need_of);
      places = c.count_places.ensures ∙ ap (λ (l : List ℕ). min (length l) (2 ^ 64 - 1)) (flat_of places circuit_need_of circuits);
    }
