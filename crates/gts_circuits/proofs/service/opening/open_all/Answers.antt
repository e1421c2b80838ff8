use Rattle.gts_circuits.proofs.Cited.{arith, common_steps}
use Rattle.gts_circuits.proofs.PlacesLemmas.{nothing_left}
use Rattle.gts_circuits.proofs.ItemLemmas.{less_than_all, asked_at}
use Rattle.gts_circuits.proofs.LinesLemmas.{none_opened, one_opened, one_failed}
use Rattle.gts_circuits.proofs.service.opening.open_all.Goals as goal

pub loop-room-init : goal.loop-room-init
loop-room-init g c = grind (arith, common_steps, none_opened)

pub open-requires : goal.open-requires
open-requires g c = grind (arith, common_steps, less_than_all)

pub overflow_add-c : goal.overflow_add-c
overflow_add-c g c = grind (arith, common_steps, less_than_all)

pub push_reserved-requires : goal.push_reserved-requires
push_reserved-requires g c = grind (arith, common_steps, less_than_all)

pub returns-in-Err-clause-stopped : goal.returns-in-Err-clause-stopped
returns-in-Err-clause-stopped g c = grind (arith, common_steps, one_failed, asked_at)

pub returns-in-Err-clause-place : goal.returns-in-Err-clause-place
returns-in-Err-clause-place g c = grind (arith, common_steps, less_than_all)

pub returns-in-Err-clause-failed : goal.returns-in-Err-clause-failed
returns-in-Err-clause-failed g c = grind (arith, common_steps)

pub loop-room-preserved : goal.loop-room-preserved
loop-room-preserved g c = grind (arith, common_steps, one_opened, asked_at)

pub returns-clause-opened : goal.returns-clause-opened
returns-clause-opened g c = grind (arith, common_steps)

pub returns-clause-count : goal.returns-clause-count
returns-clause-count g c = grind (arith, common_steps, nothing_left)
