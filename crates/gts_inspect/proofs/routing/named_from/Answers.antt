use Rattle.gts_inspect.proofs.Cited.{◌≡◌, ◌==◌, ◌∙◌, ℕ, Result, Ok, Err, IfOk, length, bit_at, fields_of, filter, named, range_with_len}
use Rattle.gts_inspect.proofs.RouteLemmas.{mask_named}
use Rattle.gts_inspect.proofs.routing.named_from.Goals as goal

if_ok : {A E : Type 0} (P Q : A → Type 0) (r : Result A E) → ((x : A) → P x → Q x) → IfOk r P → IfOk r Q
if_ok P Q (Ok x) more h = more x h
if_ok P Q (Err e) more h = tt

pub returns : goal.returns
returns c =
    let d = c.args.directory.now in
    let h = fields_of c.args.heading.now in
    let from : ℕ = c.args.from in
    let of_set = filter (λ k. bit_at c.names.result k == 1) (range_with_len 0 (length d.circuits)) in
    let is : of_set ≡ named d from h = mask_named d from h c.names.result c.names.ensures (c.a_mask_has_the_bits_of_its_circuits.ensures.bits d from h) in
    if_ok (λ circuits. circuits.items ≡ of_set) (λ circuits. circuits.items ≡ named d from h) c.circuits_of.result (λ circuits made. made ∙ is) c.circuits_of.ensures
