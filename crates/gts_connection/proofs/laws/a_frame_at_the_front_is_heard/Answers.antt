use Rattle.gts_connection.proofs.StepsLemmas.{events-frame}
use Rattle.gts_connection.proofs.laws.a_frame_at_the_front_is_heard.Goals as goal

pub returns : goal.returns
returns c = events-frame
