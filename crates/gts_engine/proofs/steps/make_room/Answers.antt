use Rattle.gts_engine.proofs.Cited.{inl, inr, refl, common_steps, arith}
use Rattle.gts_engine.proofs.SettlingLemmas.{whenever, room_settled, held_settled}
use Rattle.gts_engine.proofs.steps.make_room.Goals as goal

pub returns-then-room-bytes-clause-settles : goal.returns-then-room-bytes-clause-settles
returns-then-room-bytes-clause-settles g c = inr c.settle.ensures.settles

pub returns-then-room-bytes-clause-bytes : goal.returns-then-room-bytes-clause-bytes
returns-then-room-bytes-clause-bytes g c = grind (arith, common_steps, whenever, room_settled)

pub returns-then-room-bytes-clause-saying : goal.returns-then-room-bytes-clause-saying
returns-then-room-bytes-clause-saying g c = grind (arith, common_steps, whenever, held_settled)

pub returns-clause-settles : goal.returns-clause-settles
returns-clause-settles g c = inl (refl, refl)
