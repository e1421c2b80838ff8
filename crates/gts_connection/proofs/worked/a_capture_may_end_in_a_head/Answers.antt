use Rattle.gts_connection.proofs.Cited.{refl, arith, codes, EndsInHead, FeedHead, dec, readable}
use Rattle.gts_connection.proofs.worked.a_capture_may_end_in_a_head.Goals as goal

pub returns : goal.returns
unfolding readable dec
returns c = EndsInHead (codes "F 00 0000") (omega arith, tt) (FeedHead 0 0, 48, codes "0\n", (omega arith, omega arith), refl) refl refl
