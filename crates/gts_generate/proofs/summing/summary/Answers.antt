use Rattle.gts_generate.proofs.Cited.{◌≡◌, ℕ, ◌-◌, List, ◌++◌, length, map, sum, true, codes, ap, ◌∙◌, Outside, calls_of, draws_of, encode_lower, frames_in, frames_said, line, lines_from, receipts_of, said_by, sha256}
use Rattle.gts_event.specs.declared.values.CircuitNeed.{CircuitNeed}
use Rattle.gts_generate.proofs.SummaryLemmas.{all-lines}
use Rattle.gts_generate.proofs.summing.summary.Goals as goal

pub returns : goal.returns
returns c =
    let outside : Outside = said_by (calls_of c.args.station.now.past) in
    let draws : ℕ = c.draws_of-draws.result in
    let draws_are : draws ≡ draws_of c.args.need.now =
    c.draws_of-draws.ensures ∙ ap (λ (circuits : List CircuitNeed). sum (map (λ circuit. circuit.draws) circuits)) c.as_slice.ensures in
    let resends_are : c.saturating_sub.result ≡ frames_in (frames_said outside) - draws_of c.args.need.now =
    c.saturating_sub.ensures ∙ ap (λ (n : ℕ). n - draws) c.in_ok-said.ensures.frames
    ∙ ap (λ (n : ℕ). frames_in (frames_said outside) - n) draws_are in
    let t₀ : List ℕ = c.args.text.now in
    let t₁ : List ℕ = c.add_line.new.text in
    let t₂ : List ℕ = c.add_line-2.new.text in
    let t₃ : List ℕ = c.add_receipts.new.text in
    let t₄ : List ℕ = c.add_line-3.new.text in
    let t₅ : List ℕ = c.add_line-4.new.text in
    let t₆ : List ℕ = c.add_line-5.new.text in
    let t₇ : List ℕ = c.add_line-6.new.text in
    let t₈ : List ℕ = c.add_end.new.text in
    all-lines t₀ t₁ t₂ t₃ t₄ t₅ t₆ t₇ t₈
    (line (codes "messages") c.args.count) (line (codes "accepted") c.args.need.now.accepted)
    (line (codes "duplicates") (receipts_of (codes "DUP") outside)) (line (codes "requests") (receipts_of (codes "ASK") outside))
    (line (codes "draws") (draws_of c.args.need.now))
    (line (codes "resends") (frames_in (frames_said outside) - draws_of c.args.need.now))
    (line (codes "bytes") (length (frames_said outside))) (line (codes "journal") c.args.used)
    (codes "digest ") (encode_lower (sha256 (frames_said outside))) (codes "\nend\n")
    (c.in_ok-add_line.ensures ∙ ap (λ (n : ℕ). t₀ ++ line (codes "messages") n) c.from.ensures)
    (c.in_ok-add_line-2.ensures ∙ ap (λ (n : ℕ). t₁ ++ line (codes "accepted") n) c.from-2.ensures)
    (c.in_ok-add_receipts.ensures
    ∙ ap (λ (said : List ℕ). t₂ ++ line (codes "duplicates") (lines_from true (codes "DUP") said)
    ++ line (codes "requests") (lines_from true (codes "ASK") said)) c.said.ensures)
    (c.in_ok-add_line-3.ensures ∙ ap (λ (n : ℕ). t₃ ++ line (codes "draws") n) draws_are)
    (c.in_ok-add_line-4.ensures ∙ ap (λ (n : ℕ). t₄ ++ line (codes "resends") n) resends_are)
    (c.in_ok-add_line-5.ensures ∙ ap (λ (n : ℕ). t₅ ++ line (codes "bytes") n) c.in_ok-said.ensures.bytes)
    (c.in_ok-add_line-6.ensures ∙ ap (λ (n : ℕ). t₆ ++ line (codes "journal") n) c.from-3.ensures)
    (c.in_ok-add_end.ensures
    ∙ ap (λ (digest : List ℕ). t₇ ++ codes "digest " ++ encode_lower digest ++ codes "\nend\n") c.in_ok-said.ensures.digest)
