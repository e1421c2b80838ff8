use Rattle.gts_request.proofs.GrammarLemmas.{items_both, fault_both}
use Rattle.gts_request.proofs.laws.a_text_is_its_lines.Goals as goal

pub returns-clause-items : goal.returns-clause-items
returns-clause-items c = λ text items. items_both text items

pub returns-clause-fault : goal.returns-clause-fault
returns-clause-fault c = λ text field. fault_both text field
