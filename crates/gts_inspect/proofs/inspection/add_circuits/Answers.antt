use Rattle.gts_inspect.proofs.Cited.{◌++◌, [], ℕ, List, None, false, told, ap, refl, ◌∙◌, get_or, CircuitRow, circuit_of_row, of_circuit}
use Rattle.gts_inspect.specs.declared.finding.Finding.{Finding}
use Rattle.gts_inspect.proofs.OrderLemmas.{rows_more}
use Rattle.gts_inspect.proofs.inspection.add_circuits.Goals as goal

-- what a place behind the rows is read as
abbrev nothing : CircuitRow
nothing = record {
  name = [];
  peer = [];
  kept = 0;
  digits = 0;
  input = 0;
  output = 0;
  host = record { octets = [] };
  idle = None;
  repeat = 0;
  closed = false;
}

pub loop-circuit-preserved : goal.loop-circuit-preserved
loop-circuit-preserved c =
    let d = c.args.directory.now in
    let rows : List CircuitRow = c.args.circuits.now in
    let k : ℕ = c.loop-circuit.circuit in
    let row : CircuitRow = get_or rows k nothing in
    let found : List Finding = c.args.found.now.items in
    c.in_ok-add_told.ensures ∙ ap (λ (l : List Finding). l ++ told c.of_circuit.result) c.loop-circuit.invariant
    ∙ rows_more circuit_of_row (of_circuit d) rows k row c.of_circuit.result found nothing c.loop-circuit-test.true refl c.of_circuit.ensures
