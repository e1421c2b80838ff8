use Rattle.gts_connection.proofs.Cited.{front-computed, front-is}
use Rattle.gts_connection.proofs.laws.a_front_is_what_is_computed.Goals as goal

pub returns : goal.returns
returns c = λ bytes. (front-is bytes, front-computed bytes)
