use Rattle.std.proofs.Common.{◌≡◌, ℕ, true, cond, List, ap, ◌∙◌, arith, nat_eq}
use Rattle.gts_segments.specs.Cited.{fields_of, heading_text, is_noted, pointwise}
use Rattle.gts_segments.proofs.GroupLemmas.{some_group, whole_text, cond-or}
use Rattle.gts_segments.proofs.table.SegmentTable.note.Goals as goal

pub returns-in_ok-insert-clause-segment : goal.returns-in_ok-insert-clause-segment
returns-in_ok-insert-clause-segment c segment text =
    let h = fields_of c.args.heading.now in
    let written : c.write.new.into ≡ heading_text h =
    whole_text c.write.new.into (heading_text h) c.write.result (omega (arith, c.write.ensures.grouped (some_group h.bbb segment))) c.write.ensures.written in
    let updated : is_noted c.insert.new.self.keys text ≡ cond (pointwise nat_eq c.write.new.into text) true (is_noted c.self.inside.noted.keys text) = c.in_ok-insert.ensures.updates.0 text in
    updated
    ∙ ap (λ (key : List ℕ). cond (pointwise nat_eq key text) true (is_noted c.self.inside.noted.keys text)) written
    ∙ ap (λ (noted : List (List ℕ)). cond (pointwise nat_eq (heading_text h) text) true (is_noted noted text)) c.self.view_is
    ∙ cond-or (pointwise nat_eq (heading_text h) text) (is_noted c.args.self.now text)
