use Rattle.gts_count.proofs.Cited.{ℕ, [], ap, ◌∙◌, arith, replicate, Recent, buffer}
use Rattle.gts_count.proofs.StartLemmas.{begins}
use Rattle.gts_count.proofs.start.nothing.Goals as goal

pub returns : goal.returns
returns c =
    let window = c.window-window.ensures in
    let circuits = c.circuits-circuits.ensures in
    begins c.args.directory.now _ (c.in_ok-with_capacity.ensures ∙ ap (λ (k : ℕ). buffer {X = Recent} [] k) window.value) c.in_ok-no_draws.ensures.rings c.new.ensures.empty
    (c.in_ok-none_came.ensures ∙ ap (λ (k : ℕ). replicate {A = ℕ} k 0) circuits.value) c.in_ok-no_draws.ensures.sound
    (omega (arith, window.value, window.range.0)) (omega (arith, window.value, window.range.1)) (omega (arith, circuits.value, circuits.few))
