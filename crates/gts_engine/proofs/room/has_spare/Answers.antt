use Rattle.gts_engine.proofs.Cited.{◌≡◌, ℕ, nat_le, inl, sym, ap, ◌∙◌, arith, due, spare, due-waiting}
use Rattle.gts_record.specs.Format.{seal_size, written}
use Rattle.gts_engine.proofs.RoomingLemmas.{spare_tells}
use Rattle.gts_engine.proofs.room.has_spare.Goals as goal

pub returns-then-accepted-eq-MOST_ACCEPTED : goal.returns-then-accepted-eq-MOST_ACCEPTED
returns-then-accepted-eq-MOST_ACCEPTED c = λ s holds size.
    inl (sym (c.accepted.ensures c.args.directory.now s holds) ∙ c.if-accepted-eq-MOST_ACCEPTED.true)

pub returns : goal.returns
returns c = λ s holds size.
    let last : c.seal_size.result ≡ seal_size written = c.seal_size.ensures.value ∙ ap seal_size c.written.ensures in
    let spared : c.spare-spare.result ≡ spare c.args.directory.now (due s) =
    c.spare-spare.ensures.value ∙ ap (spare c.args.directory.now) (c.waiting.ensures c.args.directory.now s holds ∙ sym (due-waiting s)) in
    spare_tells c.args.directory.now s c.args.size c.args.bytes c.saturating_add-2.result
    (λ most. c.if-accepted-eq-MOST_ACCEPTED.false (c.accepted.ensures c.args.directory.now s holds ∙ most)) size
    (omega (arith, c.saturating_add.ensures, c.saturating_add-2.ensures, last, spared))
    (omega (arith, c.limit.ensures.value, c.limit.ensures.range.1))
    (nat_le c.saturating_add-2.result c.limit.result) (ap (λ (n : ℕ). nat_le c.saturating_add-2.result n) (sym c.limit.ensures.value))
