use Rattle.gts_connection.proofs.Cited.{refl, [], ◌∷◌, arith, Whole, dec, readable}
use Rattle.gts_connection.proofs.worked.a_capture_is_read_through_its_end.Goals as goal

pub returns : goal.returns
unfolding readable dec
returns c = (refl, Whole (1 ∷ 2 ∷ []) ((omega arith, omega arith), (omega arith, tt)) refl refl)
