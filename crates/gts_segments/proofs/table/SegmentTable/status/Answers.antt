use Rattle.std.proofs.Common.{◌≡◌, ℕ, ◌+◌, refl, sym, ap, subst, ◌∙◌, arith}
use Rattle.std.proofs.lemmas.Bool.{true≢false}
use Rattle.gts_segments.specs.Cited.{Complete, IsComplete, LETTERS, PLACES, fields_of, groups_of, passing}
use Rattle.gts_segments.proofs.StatusLemmas.{all_groups, missing_from_zero, zero_from_missing, places_of_complete, lasts_of_complete}
use Rattle.gts_segments.proofs.table.SegmentTable.status.Goals as goal

-- the counts are those of the places and of the last segments

pub returns-then-places-lasts-eq0-clause-missing : goal.returns-then-places-lasts-eq0-clause-missing
returns-then-places-lasts-eq0-clause-missing c =
    let p = groups_of c.args.self.now (fields_of c.args.heading.now) in
    let zero : passing p 0 PLACES + passing p PLACES LETTERS ≡ 0 = omega (arith, c.count-places.ensures.count, c.count-lasts.ensures.count, c.if-places-lasts-eq0.true) in
    (λ e. missing_from_zero p zero, λ missing. refl)

pub returns-then-places-lasts-eq0-clause-complete : goal.returns-then-places-lasts-eq0-clause-complete
returns-then-places-lasts-eq0-clause-complete c k =
    let p = groups_of c.args.self.now (fields_of c.args.heading.now) in
    let zero : passing p 0 PLACES + passing p PLACES LETTERS ≡ 0 = omega (arith, c.count-places.ensures.count, c.count-lasts.ensures.count, c.if-places-lasts-eq0.true) in
    (λ e. absurd cc, λ complete. absurd (omega (arith, zero, (lasts_of_complete p k complete).0)))

pub returns-then-is_whole-clause-missing : goal.returns-then-is_whole-clause-missing
returns-then-is_whole-clause-missing c =
    let p = groups_of c.args.self.now (fields_of c.args.heading.now) in
    let complete = c.is_whole.ensures.0 c.if-is_whole.true in
    (λ e. absurd cc, λ missing. absurd (omega (arith, zero_from_missing p missing, (lasts_of_complete p c.count-places.result complete).0)))

pub returns-then-is_whole-clause-complete : goal.returns-then-is_whole-clause-complete
returns-then-is_whole-clause-complete c k =
    let p = groups_of c.args.self.now (fields_of c.args.heading.now) in
    let complete = c.is_whole.ensures.0 c.if-is_whole.true in (
      λ e.
          let more : c.from.result + 1 ≡ k + 1 = cc in
          let same : c.count-places.result ≡ k = omega (arith, more, c.from.ensures) in
          subst (IsComplete p) same complete,
      λ other. ap (λ (n : ℕ). Complete (n + 1)) (c.from.ensures ∙ c.count-places.ensures.count ∙ places_of_complete p k other),
    )

pub returns-else-is_whole-clause-missing : goal.returns-else-is_whole-clause-missing
returns-else-is_whole-clause-missing c =
    let p = groups_of c.args.self.now (fields_of c.args.heading.now) in (
      λ e. absurd cc,
      λ missing. absurd (c.if-places-lasts-eq0.false (omega (arith, c.count-places.ensures.count, c.count-lasts.ensures.count, zero_from_missing p missing))),
    )

pub returns-else-is_whole-clause-complete : goal.returns-else-is_whole-clause-complete
returns-else-is_whole-clause-complete c k =
    let p = groups_of c.args.self.now (fields_of c.args.heading.now) in (
      λ e. absurd cc,
      λ complete.
          let same : k ≡ c.count-places.result = sym (c.count-places.ensures.count ∙ places_of_complete p k complete) in
          absurd (true≢false (sym (c.is_whole.ensures.1 (subst (IsComplete p) same complete)) ∙ c.if-is_whole.false)),
    )

pub returns-else-is_whole-clause-partial : goal.returns-else-is_whole-clause-partial
returns-else-is_whole-clause-partial c n e =
    let p = groups_of c.args.self.now (fields_of c.args.heading.now) in
    let same : c.from-else-is_whole.result ≡ n = cc in
    sym same ∙ c.from-else-is_whole.ensures ∙ omega (arith, c.count-places.ensures.count, c.count-lasts.ensures.count, all_groups p)
