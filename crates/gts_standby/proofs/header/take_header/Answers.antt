use Rattle.gts_standby.proofs.Cited.{◌++◌, ℕ, List, length, sym, ap, ◌∙◌, arith, common_steps}
use Rattle.gts_record.specs.Format.{magic, written}
use Rattle.gts_opening.specs.Journal as opened
use Rattle.gts_standby.proofs.HeaderLemmas.{agreeing-low, whole_header, cut_header, other_header}
use Rattle.gts_standby.proofs.header.take_header.Goals as goal

pub pass-requires : goal.pass-requires
pass-requires g c = grind (arith, common_steps, agreeing-low)

pub returns-then-same-eq-HEADER-clause-taken : goal.returns-then-same-eq-HEADER-clause-taken
returns-then-same-eq-HEADER-clause-taken g c = λ observed fed read.
    let header : List ℕ = magic written ++ c.args.mark in
    whole_header header fed (g.S.Source.left c.fill.new.source) c.bytes-bytes.result.now c.fill.new.self c.pass.new.self c.agreeing-same.result
    (ap (λ (l : List ℕ). length l) (sym c.header_of.ensures.value) ∙ c.header_of.ensures.size) (c.in_ok-fill.ensures.kept observed fed read) c.in_ok-fill.ensures.enough
    (c.agreeing-same.ensures.value ∙ ap (λ (l : List ℕ). opened.agreeing l c.bytes-bytes.result.now) c.header_of.ensures.value) c.bytes-bytes.ensures c.if-same-eq-HEADER.true c.pass.ensures

pub returns-then-bytes-same-clause-taken : goal.returns-then-bytes-same-clause-taken
returns-then-bytes-same-clause-taken g c = λ observed fed read next.
    let header : List ℕ = magic written ++ c.args.mark in
    cut_header header fed (g.S.Source.left c.fill.new.source) c.bytes-bytes.result.now c.fill.new.self c.agreeing-same.result
    (ap (λ (l : List ℕ). length l) (sym c.header_of.ensures.value) ∙ c.header_of.ensures.size) (c.in_ok-fill.ensures.kept observed fed read) c.in_ok-fill.ensures.enough
    (c.agreeing-same.ensures.value ∙ ap (λ (l : List ℕ). opened.agreeing l c.bytes-bytes.result.now) c.header_of.ensures.value) c.bytes-bytes.ensures
    c.agreeing-same.ensures.bound c.if-same-eq-HEADER.false c.if-bytes-same.true next

pub returns-clause-taken : goal.returns-clause-taken
returns-clause-taken g c = λ observed fed read next.
    let header : List ℕ = magic written ++ c.args.mark in
    other_header header fed (g.S.Source.left c.fill.new.source) c.bytes-bytes.result.now c.fill.new.self c.agreeing-same.result
    (ap (λ (l : List ℕ). length l) (sym c.header_of.ensures.value) ∙ c.header_of.ensures.size) (c.in_ok-fill.ensures.kept observed fed read) c.in_ok-fill.ensures.enough
    (c.agreeing-same.ensures.value ∙ ap (λ (l : List ℕ). opened.agreeing l c.bytes-bytes.result.now) c.header_of.ensures.value) c.bytes-bytes.ensures
    c.if-same-eq-HEADER.false c.if-bytes-same.false next
