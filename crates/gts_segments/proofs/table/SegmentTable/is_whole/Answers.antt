use Rattle.std.proofs.Common.{sym, ◌∙◌}
use Rattle.std.proofs.lemmas.Bool.{true≢false, eqb-true, eq-eqb}
use Rattle.gts_segments.specs.Cited.{fields_of, groups_of}
use Rattle.gts_segments.proofs.StatusLemmas.{whole_then, first_of_complete, lasts_of_complete}
use Rattle.gts_segments.proofs.table.SegmentTable.is_whole.Goals as goal
use Rattle.gts_segments.proofs.table.SegmentTable.is_whole.Goals.{then-lasts-eq1, else-lasts-eq1}

pub returns-then-count-places : goal.returns-then-count-places
returns-then-count-places c =
    let p = groups_of c.args.self.now (fields_of c.args.heading.now) in
    elim c.if-lasts-eq1.branch [
      | then-lasts-eq1 w ↦
          let first = sym w.count.ensures.count ∙ eqb-true w.count.result c.args.places (sym w.value-is ∙ c.if-count-places.true) in
          whole_then p c.args.places c.args.lasts c.is_noted.result c.requires.places c.requires.lasts c.requires.within w.if-lasts-eq1.true first c.is_noted.ensures
      | else-lasts-eq1 w ↦ absurd (w.if-lasts-eq1.false (eqb-true c.args.lasts 1 (sym w.value-is ∙ c.if-count-places.true)))
    ]

pub returns-else-count-places : goal.returns-else-count-places
returns-else-count-places c =
    let p = groups_of c.args.self.now (fields_of c.args.heading.now) in (
      λ here. absurd (true≢false (sym here ∙ c.if-count-places.false)),
      λ complete. elim c.if-lasts-eq1.branch [
        | then-lasts-eq1 w ↦ w.value-is ∙ eq-eqb w.count.result c.args.places (w.count.ensures.count ∙ first_of_complete p c.args.places complete)
        | else-lasts-eq1 w ↦ absurd (w.if-lasts-eq1.false (c.requires.lasts ∙ (lasts_of_complete p c.args.places complete).0))
      ],
    )
