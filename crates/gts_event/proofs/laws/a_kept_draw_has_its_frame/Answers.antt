use Rattle.gts_event.proofs.TurnedAwayLemmas.{kept-frame_of_draw}
use Rattle.gts_event.proofs.laws.a_kept_draw_has_its_frame.Goals as goal

pub returns : goal.returns
returns c = kept-frame_of_draw
