use Rattle.gts_inspect.proofs.Cited.{◌≡◌, ℕ, List, map, take, ap, refl, sym, ◌∙◌, take-map, Ipv4Addr, calls_itself, circuit_of_row, input_twice, no_rule, output_twice, own_peer, peer_twice}
use Rattle.gts_directory.specs.Directory as directory
use Rattle.gts_inspect.proofs.inspection.of_circuit.Goals as goal

pub returns : goal.returns
returns c =
    let d = c.args.directory.now in
    let k : ℕ = c.args.circuit in
    let rows = c.args.circuits.now in
    let row : directory.Circuit = circuit_of_row c.args.row.now in
    let all : map circuit_of_row rows ≡ d.circuits = c.requires.circuits in
    let before : map circuit_of_row (take k rows) ≡ take k d.circuits = sym (take-map circuit_of_row k rows) ∙ ap (take k) all in
    let own = c.own_peer.ensures ∙ ap (λ (centre : List ℕ). own_peer centre k row) c.centre.ensures in
    let peers = c.peer_twice.ensures ∙ ap (λ (l : List directory.Circuit). peer_twice l k row) before in
    let inputs = c.input_twice.ensures ∙ ap (λ (l : List directory.Circuit). input_twice l k row) before in
    let outputs = c.output_twice.ensures ∙ ap (λ (l : List directory.Circuit). output_twice l k row) before in
    let called =
    c.calls_itself.ensures ∙ ap (λ (l : List directory.Circuit). calls_itself c.address.result l k row) all
    ∙ ap (λ (address : Ipv4Addr). calls_itself address d.circuits k row) c.address.ensures in
    let named = c.no_rule.ensures ∙ ap (λ (l : List directory.Rule). no_rule l k row) c.requires.rules.same in
    rw (own, peers, c.few_kept.ensures, c.no_port.ensures, c.low_port.ensures, c.system_port.ensures, inputs, c.no_port-2.ensures, c.low_port-2.ensures, c.system_port-2.ensures, outputs, c.same_ports.ensures, called, named) refl
