use Rattle.gts_engine.proofs.Cited.{◌≡◌, ◌*◌, ℕ, refl, sym, ap, ◌∙◌, arith, draw_size, due, seal_size, written, common_steps}
use Rattle.gts_engine.proofs.HearingLemmas.{times_few}
use Rattle.gts_engine.proofs.CompactLemmas.{no_room_compacted, has_room_compacted}
use Rattle.gts_engine.proofs.room.check_checkpoint.Goals as goal

pub overflow_mul-beside : goal.overflow_mul-beside
overflow_mul-beside c = omega (arith, times_few c.draw_size.result c.args.draws c.draw_size.ensures.bound, c.requires)

pub overflow_add-beside : goal.overflow_add-beside
overflow_add-beside c = omega (arith, times_few c.draw_size.result c.args.draws c.draw_size.ensures.bound, c.seal_size.ensures.bound, c.requires)

pub returns-then-saturating_add-limit : goal.returns-then-saturating_add-limit
returns-then-saturating_add-limit c = λ s draws_is size.
    let draws : c.draw_size.result * c.args.draws ≡ draw_size written * due s =
    ap (λ (k : ℕ). k * c.args.draws) (c.draw_size.ensures.value ∙ ap draw_size c.written-version.ensures) ∙ ap (λ (k : ℕ). draw_size written * k) (sym draws_is) in
    let last : c.seal_size.result ≡ seal_size written = c.seal_size.ensures.value ∙ ap seal_size c.written-version.ensures in
    no_room_compacted c.args.directory.now s c.args.size c.saturating_add-need.result 42 c.limit-limit.result size
    (omega (arith, c.saturating_add-need.ensures, draws, last)) refl c.limit-limit.ensures.value
    (omega (arith, c.saturating_add.ensures, c.if-saturating_add-limit.true, c.limit-limit.ensures.value)) (omega (arith, c.limit-limit.ensures.value, c.limit-limit.ensures.range.1))

pub returns : goal.returns
returns c = grind (arith, common_steps, has_room_compacted)
