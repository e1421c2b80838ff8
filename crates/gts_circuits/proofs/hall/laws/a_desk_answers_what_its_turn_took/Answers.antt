use Rattle.gts_circuits.proofs.TurningLemmas.{taken}
use Rattle.gts_circuits.proofs.hall.laws.a_desk_answers_what_its_turn_took.Goals as goal

pub returns : goal.returns
returns g c = taken g.P.Station
