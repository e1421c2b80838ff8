use Rattle.gts_segments.proofs.GroupLemmas.{kind_of_place, kind_of_last, place_of_segment}
use Rattle.gts_segments.proofs.laws.groups_stand_at_their_places.Goals as goal

pub returns-clause-segments : goal.returns-clause-segments
returns-clause-segments c = kind_of_place

pub returns-clause-lasts : goal.returns-clause-lasts
returns-clause-lasts c = kind_of_last

pub returns-clause-all : goal.returns-clause-all
returns-clause-all c = place_of_segment
