use Rattle.gts_standby.proofs.Cited.{Option, Ok, inl, inr, ap, ◌∙◌, option_map, record_of, common_steps, arith}
use Rattle.gts_record.specs.declared.value.Record.{Record}
use Rattle.gts_standby.proofs.ExitLemmas.{returned}
use Rattle.gts_standby.proofs.ShipLemmas.{gone_on}
use Rattle.gts_standby.proofs.passing.pass_next.Goals as goal

pub returns-in-Some-clause-passed : goal.returns-in-Some-clause-passed
returns-in-Some-clause-passed g c = grind (arith, common_steps, gone_on)

pub returns-in-None-clause-passed : goal.returns-in-None-clause-passed
returns-in-None-clause-passed g c = λ observed. inr (c.in_ok-next.ensures.read observed ∙ ap (λ (o : Option Record). Ok (option_map record_of o)) c.in-None.is)

pub returns-in_err-next-clause-passed : goal.returns-in_err-next-clause-passed
returns-in_err-next-clause-passed g c = λ observed. rw (returned c.from_residual.result c.in_err-next.field-0.0 c.from_residual.ensures.1) (inl (c.in_err-next.ensures.read observed))
