use Rattle.gts_event.proofs.Cited.{◌-◌, ◌^◌, ◌++◌, ℕ, List, length, flat_map, ap, sym, ◌∙◌, arith, min, length-map, bulletin_of, circuit_need_of}
use Rattle.gts_event.specs.declared.values.Bulletin.{Bulletin}
use Rattle.gts_event.specs.declared.values.CircuitNeed.{CircuitNeed}
use Rattle.gts_event.specs.State as states
use Rattle.gts_event.specs.Need as needs
use Rattle.gts_event.proofs.ExtentLemmas.{flat_of}
use Rattle.gts_event.proofs.extent.NeedExtent.of.Goals as goal

pub returns : goal.returns
returns c =
    let n = c.args.need.now in
    let body : states.Bulletin → List ℕ = λ b. b.body in
    let places : needs.CircuitNeed → List ℕ = λ q. q.waiting ++ q.kept in
    record {
      bulletins = omega (arith, c.len.ensures, length-map n.bulletins bulletin_of);
      bodies =
          c.count_bodies.ensures
          ∙ ap (λ (bs : List Bulletin). min (length (flat_map (λ b. body (bulletin_of b)) bs)) (2 ^ 64 - 1)) c.as_slice.ensures
          ∙ ap (λ (l : List ℕ). min (length l) (2 ^ 64 - 1)) (flat_of body bulletin_of n.bulletins);
      circuits = c.len-2.ensures ∙ sym (length-map n.circuits circuit_need_of);
      places =
          c.count_places.ensures
          ∙ ap (λ (qs : List CircuitNeed). min (length (flat_map (λ q. places (circuit_need_of q)) qs)) (2 ^ 64 - 1)) c.as_slice-2.ensures
          ∙ ap (λ (l : List ℕ). min (length l) (2 ^ 64 - 1)) (flat_of places circuit_need_of n.circuits);
    }
