use Rattle.gts_circuits.proofs.Cited.{rules, ChangesAt}
use Rattle.gts_circuits.proofs.HalvesLemmas.{both_parts}
use Rattle.gts_circuits.proofs.workers.working.in_halves.Goals as goal

pub returns : goal.returns
returns g c =
    let cut = c.split_at_mut-receivers in
    record {
      each = both_parts (λ x y. (k : _) × ChangesAt g.F.Fn c.args.f.now k x y) c.args.list.now _ _ _ _ cut.ensures.value (search rules)
          (λ k e below. (k, c.at_halves.ensures.receivers.each k e below))
          (λ k e below. (k, c.at_halves.ensures.senders.each k e below));
    }
