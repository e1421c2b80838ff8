use Rattle.gts_migrate.proofs.BringingLemmas.{under_at}
use Rattle.gts_migrate.proofs.laws.a_circuit_goes_on.Goals as goal

pub returns : goal.returns
returns c new old n sound k row next at there = under_at new old n k row next sound at there
