use Rattle.gts_connection.proofs.Cited.{refl, [], take, arith, EndsInFeed, dec, readable, frame_1}
use Rattle.gts_connection.proofs.worked.a_capture_may_end_in_a_feed.Goals as goal

pub returns : goal.returns
unfolding readable dec
returns c = EndsInFeed [] 0 49 (take 20 frame_1) tt (omega arith, omega arith) (omega arith) refl refl refl
