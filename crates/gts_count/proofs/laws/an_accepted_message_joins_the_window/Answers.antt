use Rattle.gts_count.proofs.Cited.{arith, common_steps}
use Rattle.gts_count.proofs.WindowLemmas.{joins_window, window_goes_on}
use Rattle.gts_count.proofs.laws.an_accepted_message_joins_the_window.Goals as goal

pub returns-clause-empty : goal.returns-clause-empty
returns-clause-empty c = grind (arith, common_steps)

pub returns-clause-joins : goal.returns-clause-joins
returns-clause-joins c = joins_window

pub returns-clause-goes_on : goal.returns-clause-goes_on
returns-clause-goes_on c = λ d s circuit kind m p n one has is. window_goes_on d s circuit kind m p n one has is
