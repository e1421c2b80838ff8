use Rattle.gts_engine.proofs.Cited.{refl, common_steps, arith}
use Rattle.gts_engine.proofs.SettlingLemmas.{none_told, some_told}
use Rattle.gts_engine.proofs.SayingLemmas.{few_held, few_more}
use Rattle.gts_engine.proofs.steps.tell_nothing.Goals as goal

pub returns-then-not-is_empty-clause-held : goal.returns-then-not-is_empty-clause-held
returns-then-not-is_empty-clause-held g c = grind (arith, common_steps, some_told)

pub returns-then-not-is_empty-clause-same : goal.returns-then-not-is_empty-clause-same
returns-then-not-is_empty-clause-same g c = grind (arith, common_steps, some_told)

pub returns-else-not-is_empty-clause-held : goal.returns-else-not-is_empty-clause-held
returns-else-not-is_empty-clause-held g c = grind (arith, common_steps, none_told)

pub returns-then-not-is_empty-clause-few : goal.returns-then-not-is_empty-clause-few
returns-then-not-is_empty-clause-few g c = few_more c.args.parts.now.held _ _ _ c.requires c.hold.ensures

pub returns-else-not-is_empty-clause-few : goal.returns-else-not-is_empty-clause-few
returns-else-not-is_empty-clause-few g c = few_held c.args.parts.now.held _ _ c.requires refl
