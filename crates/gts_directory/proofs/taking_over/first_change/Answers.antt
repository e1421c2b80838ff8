use Rattle.gts_directory.proofs.Cited.{sym, ap, ◌∙◌}
use Rattle.gts_directory.specs.TakingOver.{change_in}
use Rattle.gts_directory.specs.declared.fault.Part.TheVariants as parts
use Rattle.gts_directory.proofs.TakingOverLemmas.{circuit_change}
use Rattle.gts_directory.proofs.taking_over.first_change.Goals as goal

pub returns-in-Some : goal.returns-in-Some
returns-in-Some c =
    let told = rw (c.circuits.ensures, c.circuits-2.ensures) at c.first_changed_circuit.ensures in
    sym (ap (change_in parts.Circuit) c.in-Some.is)
    ∙ circuit_change c.args.new.now c.args.old.now c.first_changed_circuit.result (sym c.top_stays.ensures ∙ c.if-not-top_stays.false) told

pub returns : goal.returns
returns c =
    let told = rw (c.circuits.ensures, c.circuits-2.ensures) at c.first_changed_circuit.ensures in
    sym (ap (change_in parts.Circuit) c.in_default.is)
    ∙ circuit_change c.args.new.now c.args.old.now c.first_changed_circuit.result (sym c.top_stays.ensures ∙ c.if-not-top_stays.false) told
