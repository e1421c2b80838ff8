use Rattle.gts_standby.proofs.Cited.{rules, ◌≡◌, ◌⊎◌, ◌≤◌, ◌+◌, ◌-◌, ℕ, Bool, false, cond, nat_eq, List, Option, ap, ◌∙◌, arith, Version, behind_here, held, pointwise}
use Rattle.gts_standby.proofs.ExitLemmas.{returned}
use Rattle.gts_standby.proofs.SinceLemmas.{reached_one, finds_there, finds_elsewhere}
use Rattle.gts_standby.proofs.since.look_for.Goals as goal

pub returns-in_err-pass_checkpoint-clause-found : goal.returns-in_err-pass_checkpoint-clause-found
returns-in_err-pass_checkpoint-clause-found g c = λ observed.
    let last : List ℕ = held c.args.journal.now.version c.args.since.now.seal in
    rw (returned c.from_residual.result c.in_err-pass_checkpoint.field-0.0 c.from_residual.ensures.1)
    (c.in_err-pass_checkpoint.ensures.passed observed c.args.end (c.args.since.now.used - 1) last (c.requires.first observed))

pub returns-in_err-pass_records-clause-found : goal.returns-in_err-pass_records-clause-found
returns-in_err-pass_records-clause-found g c = λ observed.
    let d = c.args.directory.now in
    let j = c.args.journal.now in
    let place : ℕ = c.args.since.now.used - 1 in
    let last : List ℕ = held j.version c.args.since.now.seal in
    let found : Option (List ℕ) = behind_here d (g.P.Station.calls c.args.station.now) j place last in
    let first = c.in_ok-pass_checkpoint.ensures.passed observed c.args.end place last (c.requires.first observed) in
    rw (returned c.from_residual-in_err-pass_records.result c.in_err-pass_records.field-0.0 c.from_residual-in_err-pass_records.ensures.1)
    (c.in_err-pass_records.ensures.passed observed d c.args.end place last found first (omega (arith, c.min.ensures), omega (arith, c.min.ensures, c.saturating_sub-place.ensures)))

pub returns-then-there-clause-found : goal.returns-then-there-clause-found
returns-then-there-clause-found g c = λ observed.
    let d = c.args.directory.now in
    let j = c.args.journal.now in
    let next = c.pass_records.new.journal in
    let place : ℕ = c.args.since.now.used - 1 in
    let last : List ℕ = held j.version c.args.since.now.seal in
    let found : Option (List ℕ) = behind_here d (g.P.Station.calls c.args.station.now) j place last in
    let first = c.in_ok-pass_checkpoint.ensures.passed observed c.args.end place last (c.requires.first observed) in
    let it = c.in_ok-pass_records.ensures.passed observed d c.args.end place last found first (omega (arith, c.min.ensures), omega (arith, c.min.ensures, c.saturating_sub-place.ensures)) in
    let at_place : c.saturating_sub-place.result ≡ place = c.saturating_sub-place.ensures in
    let reached : (place ≤ next.gate) ⊎ (c.args.end ≤ next.gate) =
    reached_one place c.args.end c.min.result next.gate (λ low. omega (arith, low, c.min.ensures, at_place)) (λ high. omega (arith, high, c.min.ensures, at_place)) c.in_ok-pass_records.ensures.reached in
    let at_gate : c.used.result ≡ next.gate = c.used.ensures ∙ ap (λ (b : Bool). cond b (next.gate + 1) next.gate) c.in_ok-pass_records.ensures.going in
    let on : c.used.result ≡ c.saturating_sub-place.result = search rules in
    let here : next.gate ≡ place = omega (arith, at_gate, on, at_place) in
    let version : c.version.result ≡ j.version = c.version.ensures ∙ c.in_ok-pass_records.ensures.version ∙ c.in_ok-pass_checkpoint.ensures.version in
    let seal : held c.version.result c.seal.result ≡ next.seal = ap (λ (v : Version). held v c.seal.result) c.version.ensures ∙ c.seal.ensures in
    let same : c.is_same-same.result ≡ pointwise nat_eq next.seal last =
    c.is_same-same.ensures ∙ ap (λ (l : List ℕ). pointwise nat_eq l (held c.version.result c.args.since.now.seal)) seal
    ∙ ap (λ (v : Version). pointwise nat_eq next.seal (held v c.args.since.now.seal)) version in
    finds_there c.is_same-same.result d (g.P.Station.calls c.pass_records.new.station) next c.args.end place last found it reached here same

pub returns-else-there-clause-found : goal.returns-else-there-clause-found
returns-else-there-clause-found g c = λ observed.
    let d = c.args.directory.now in
    let j = c.args.journal.now in
    let next = c.pass_records.new.journal in
    let place : ℕ = c.args.since.now.used - 1 in
    let last : List ℕ = held j.version c.args.since.now.seal in
    let found : Option (List ℕ) = behind_here d (g.P.Station.calls c.args.station.now) j place last in
    let first = c.in_ok-pass_checkpoint.ensures.passed observed c.args.end place last (c.requires.first observed) in
    let it = c.in_ok-pass_records.ensures.passed observed d c.args.end place last found first (omega (arith, c.min.ensures), omega (arith, c.min.ensures, c.saturating_sub-place.ensures)) in
    let at_place : c.saturating_sub-place.result ≡ place = c.saturating_sub-place.ensures in
    let reached : (place ≤ next.gate) ⊎ (c.args.end ≤ next.gate) =
    reached_one place c.args.end c.min.result next.gate (λ low. omega (arith, low, c.min.ensures, at_place)) (λ high. omega (arith, high, c.min.ensures, at_place)) c.in_ok-pass_records.ensures.reached in
    let at_gate : c.used.result ≡ next.gate = c.used.ensures ∙ ap (λ (b : Bool). cond b (next.gate + 1) next.gate) c.in_ok-pass_records.ensures.going in
    let off : nat_eq c.used.result c.saturating_sub-place.result ≡ false = search rules in
    finds_elsewhere c.used.result c.saturating_sub-place.result d (g.P.Station.calls c.pass_records.new.station) next c.args.end place last found it reached at_gate at_place off
