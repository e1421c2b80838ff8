use Rattle.gts_circuits.proofs.workers.working.at_each.Goals as goal

pub returns : goal.returns
returns g c = record { each = λ i d inside. (c.for_each_mut.ensures i d inside).1 }
