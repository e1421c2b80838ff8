use Rattle.gts_checkpoint.proofs.Cited.{◌≡◌, List, length, slice_get, Some, refl, sym, ap, ◌∙◌, arith, slice_get_read, is_circuit_sound, common_steps}
use Rattle.gts_checkpoint.specs.Sound.{circuit_need_of, need_of}
use Rattle.gts_event.specs.declared.values.CircuitNeed as values
use Rattle.gts_checkpoint.proofs.SoundLemmas.{rows-all, get-below, circuits-fail, circuits-more}
use Rattle.gts_checkpoint.proofs.sound.are_circuits_sound.Goals as goal

pub returns-then-not-branch : goal.returns-then-not-branch
returns-then-not-branch c = grind (arith, common_steps, circuits-fail)

pub loop-c-preserved : goal.loop-c-preserved
loop-c-preserved c =
    let k = c.loop-c.c in
    let q = c.index-circuits-c.result in
    let d = c.args.directory.now in
    let qs = c.as_slice-circuits.result.now in
    let size : length qs ≡ length c.args.need.now.circuits = ap (λ (l : List values.CircuitNeed). length l) c.as_slice-circuits.ensures in
    circuits-more (λ row q. is_circuit_sound (need_of c.args.need.now) row.kept (circuit_need_of q)) d.circuits qs k q c.loop-c.invariant
    (slice_get_read qs (length qs) k q refl (omega arith) c.index-circuits-c.is)
    (λ row at. sym (c.in_ok-is_circuit_sound.ensures row at) ∙ c.if-not-branch.false)

pub returns : goal.returns
returns c =
    let d = c.args.directory.now in
    sym (rows-all (λ row. is_circuit_sound (need_of c.args.need.now) row.0.kept row.1) d.circuits c.args.need.now.circuits
    (λ k row q a b.
    let below = get-below d.circuits k row a in
    let there : slice_get c.as_slice-circuits.result.now k ≡ Some q = ap (λ (qs : List values.CircuitNeed). slice_get qs k) c.as_slice-circuits.ensures ∙ b in
    c.loop-c.invariant k row q (omega arith) a there))
