use Rattle.gts_checkpoint.proofs.Cited.{◌≡◌, ℕ, true, false, not, List, map, refl, sym, ap, ◌∙◌, inl, inr, ascends, bulletin_of, has, is_there, list_all}
use Rattle.gts_checkpoint.proofs.SoundLemmas.{positions-fail, positions-pass}
use Rattle.gts_checkpoint.proofs.sound.has_positions.Goals.{then-not-ascend-via-then-not-ascend, then-not-ascend-via-else-not-ascend+then-not-ascend-2, then-not-ascend-via-else-not-ascend+else-not-ascend-2+then-not-are_apart}
use Rattle.gts_checkpoint.proofs.sound.has_positions.Goals as goal

pub returns-then-not-ascend : goal.returns-then-not-ascend
returns-then-not-ascend c =
    let test = is_there (map bulletin_of c.args.bulletins.now) in
    let waiting = c.args.waiting.now in
    let draws = c.in_ok-draws in
    let fail = positions-fail test waiting c.args.kept.now draws.draws.items draws.ensures.same draws.ensures.order in
    elim c.then-not-ascend.branch [
      | then-not-ascend-via-then-not-ascend w ↦ fail (inl (sym c.ascend.ensures ∙ w.if-not-ascend.true))
      | then-not-ascend-via-else-not-ascend+then-not-ascend-2 w ↦
          fail (inr (inl (ap ascends (sym w.deref.ensures.value) ∙ sym w.ascend-else-not-ascend.ensures ∙ w.if-not-ascend-2.true)))
      | then-not-ascend-via-else-not-ascend+else-not-ascend-2+then-not-are_apart w ↦
          fail (inr (inr (ap (λ (ds : List ℕ). list_all (λ n. not (has ds n)) waiting) (sym w.deref-else-not-ascend-2.ensures.value)
          ∙ sym w.are_apart.ensures ∙ w.if-not-are_apart.true)))
    ]

pub returns-then-not-are_there : goal.returns-then-not-are_there
returns-then-not-are_there c =
    let test = is_there (map bulletin_of c.args.bulletins.now) in
    let waiting = c.args.waiting.now in
    let draws = c.in_ok-draws in
    let pass = positions-pass test waiting c.args.kept.now draws.draws.items draws.ensures.same draws.ensures.order
    (sym c.ascend.ensures ∙ c.if-not-ascend.false)
    (ap ascends (sym c.deref.ensures.value) ∙ sym c.ascend-else-not-ascend.ensures ∙ c.if-not-ascend-2.false)
    (ap (λ (ds : List ℕ). list_all (λ n. not (has ds n)) waiting) (sym c.deref-else-not-ascend-2.ensures.value)
    ∙ sym c.are_apart.ensures ∙ c.if-not-are_apart.false) in
    let none-there : list_all test waiting ≡ false = sym c.are_there.ensures ∙ c.if-not-are_there.true in
    sym (pass ∙ rw none-there refl)

pub returns : goal.returns
returns c =
    let test = is_there (map bulletin_of c.args.bulletins.now) in
    let waiting = c.args.waiting.now in
    let draws = c.in_ok-draws in
    let pass = positions-pass test waiting c.args.kept.now draws.draws.items draws.ensures.same draws.ensures.order
    (sym c.ascend.ensures ∙ c.if-not-ascend.false)
    (ap ascends (sym c.deref.ensures.value) ∙ sym c.ascend-else-not-ascend.ensures ∙ c.if-not-ascend-2.false)
    (ap (λ (ds : List ℕ). list_all (λ n. not (has ds n)) waiting) (sym c.deref-else-not-ascend-2.ensures.value)
    ∙ sym c.are_apart.ensures ∙ c.if-not-are_apart.false) in
    let each : list_all test waiting ≡ true = sym c.are_there.ensures ∙ c.if-not-are_there.false in
    c.are_there-2.ensures ∙ sym (pass ∙ rw each refl)
