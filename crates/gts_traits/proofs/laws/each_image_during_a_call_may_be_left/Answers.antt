use Rattle.gts_traits.proofs.MomentsLemmas.{each_image_during, left_later}
use Rattle.gts_traits.proofs.laws.each_image_during_a_call_may_be_left.Goals as goal

pub returns-clause-during : goal.returns-clause-during
returns-clause-during c = each_image_during

pub returns-clause-later : goal.returns-clause-later
returns-clause-later c = left_later
