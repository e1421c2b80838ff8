use Rattle.gts_inspect.proofs.Cited.{◌≡◌, ◌++◌, ◌+◌, ◌∷◌, [], ℕ, List, arith, map, take, ap, sym, ◌∙◌, map-append, take_more, get_or_from_slice_get, circuit_of_row}
use Rattle.gts_directory.specs.Directory as directory
use Rattle.gts_inspect.proofs.inspection.circuit_rows.Goals as goal

pub loop-c-preserved : goal.loop-c-preserved
loop-c-preserved c =
    let rows = c.loop-c.rows.items in
    let circuits : List directory.Circuit = c.args.directory.now.circuits in
    let k : ℕ = c.loop-c.c in
    let row : directory.Circuit = circuit_of_row c.circuit.result.now in
    let is = get_or_from_slice_get circuits k row row c.circuit.ensures.row in
    let more : take (k + 1) circuits ≡ take k circuits ++ row ∷ [] =
    take_more circuits k row (omega (arith, c.loop-c-test.true, c.circuits-c-end.ensures.value)) ∙ ap (λ (r : directory.Circuit). take k circuits ++ r ∷ []) is in
    ap (map circuit_of_row) c.in_ok-push.ensures.items ∙ map-append circuit_of_row rows (c.circuit.result.now ∷ [])
    ∙ ap (λ (l : List directory.Circuit). l ++ row ∷ []) c.loop-c.invariant ∙ sym more
