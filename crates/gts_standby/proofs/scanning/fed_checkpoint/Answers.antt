use Rattle.gts_standby.proofs.Cited.{rules, ◌≡◌, ◌⊎◌, ◌+◌, ◌≤◌, ℕ, true, false, nat_eq, List, length, take, drop, refl, sym, ap, subst, ◌∙◌, arith, InFeed, held, seal, seal_size, starts_with}
use Rattle.gts_standby.specs.Taking as feeds
use Rattle.gts_standby.proofs.ScanLemmas.{finds_err, scan_stops, seal_cut, sealed_piece}
use Rattle.gts_standby.proofs.scanning.fed_checkpoint.Goals as goal

pub returns-in_err-size-clause-piece : goal.returns-in_err-size-clause-piece
returns-in_err-size-clause-piece g c = λ told fed read.
    let v = c.args.version in
    let end = c.in_err-size.field-0.0 in
    let before : List ℕ = held v c.args.before.now in
    let left = g.S.Source.left c.scan.new.source in
    finds_err c.from_residual.result end v 40 (feeds.checkpoint_piece v c.args.limit before fed) fed c.scan.new.ahead left c.from_residual.ensures.1
    (scan_stops end c.in_err-size.ensures.kind v c.args.limit before fed c.scan.new.ahead left (c.in_err-size.ensures.reached told fed read))

pub returns-then-bytes-size-clause-piece : goal.returns-then-bytes-size-clause-piece
returns-then-bytes-size-clause-piece g c = λ told fed read next.
    let v = c.args.version in
    let ahead : InFeed = c.fill.new.self in
    let size = c.in_ok-size.size in
    let reached = c.in_ok-size.ensures.reached told fed read in
    let now = c.in_ok-fill.ensures.kept told fed reached.1 in
    let count : c.seal_size-count.result ≡ seal_size v = c.seal_size-count.ensures.value in
    let enough = subst (λ (k : ℕ). (ahead.is_all ≡ true) ⊎ (size + k ≤ length ahead.bytes)) count c.in_ok-fill.ensures.enough in
    seal_cut v c.args.limit size (held v c.args.before.now) fed (g.S.Source.left c.fill.new.source) ahead reached.0 now enough
    (omega (arith, c.if-bytes-size.true, count, ap (λ (l : List ℕ). length l) c.bytes-bytes.ensures)) next

pub returns-then-not-starts_with-clause-piece : goal.returns-then-not-starts_with-clause-piece
returns-then-not-starts_with-clause-piece g c = λ told fed read next.
    let v = c.args.version in
    let ahead : InFeed = c.fill.new.self in
    let size = c.in_ok-size.size in
    let before : List ℕ = held v c.args.before.now in
    let reached = c.in_ok-size.ensures.reached told fed read in
    let now = c.in_ok-fill.ensures.kept told fed reached.1 in
    let count : c.seal_size-count.result ≡ seal_size v = c.seal_size-count.ensures.value in
    let long : size + seal_size v ≤ length ahead.bytes = omega (arith, c.if-bytes-size.false, count, ap (λ (l : List ℕ). length l) c.bytes-bytes.ensures) in
    let other : c.starts_with.result ≡ false = search rules in
    let text : c.split_at.result.0.now ≡ take size ahead.bytes = c.split_at.ensures.front ∙ ap (take size) c.bytes-bytes.ensures in
    let behind : c.split_at.result.1.now ≡ drop size ahead.bytes = c.split_at.ensures.back ∙ ap (drop size) c.bytes-bytes.ensures in
    let last : take c.seal_size-count.result c.seal-seal.result ≡ seal v before (take size ahead.bytes) =
    ap (λ (k : ℕ). take k c.seal-seal.result) count ∙ c.seal-seal.ensures.held ∙ ap (seal v before) text in
    let is : starts_with nat_eq (drop size ahead.bytes) (seal v before (take size ahead.bytes)) ≡ false =
    ap (λ (l : List ℕ). starts_with nat_eq l (seal v before (take size ahead.bytes))) (sym behind)
    ∙ ap (starts_with nat_eq c.split_at.result.1.now) (sym last) ∙ sym c.starts_with.ensures.value ∙ other in
    record {
      end = feeds.Breaks 40;
      is = ap (λ (p : feeds.Piece). feeds.by_piece 40 p next) (sealed_piece v c.args.limit size before fed (g.S.Source.left c.fill.new.source) ahead false reached.0 now long is);
      ends = refl;
      all = tt;
    }

pub returns-clause-piece : goal.returns-clause-piece
returns-clause-piece g c = λ told fed read.
    let v = c.args.version in
    let ahead : InFeed = c.fill.new.self in
    let size = c.in_ok-size.size in
    let before : List ℕ = held v c.args.before.now in
    let reached = c.in_ok-size.ensures.reached told fed read in
    let now = c.in_ok-fill.ensures.kept told fed reached.1 in
    let count : c.seal_size-count.result ≡ seal_size v = c.seal_size-count.ensures.value in
    let long : size + seal_size v ≤ length ahead.bytes = omega (arith, c.if-bytes-size.false, count, ap (λ (l : List ℕ). length l) c.bytes-bytes.ensures) in
    let same : c.starts_with.result ≡ true = search rules in
    let text : c.split_at.result.0.now ≡ take size ahead.bytes = c.split_at.ensures.front ∙ ap (take size) c.bytes-bytes.ensures in
    let behind : c.split_at.result.1.now ≡ drop size ahead.bytes = c.split_at.ensures.back ∙ ap (drop size) c.bytes-bytes.ensures in
    let seal_is : held v c.seal-seal.result ≡ seal v before (take size ahead.bytes) = c.seal-seal.ensures.held ∙ ap (seal v before) text in
    let last : take c.seal_size-count.result c.seal-seal.result ≡ seal v before (take size ahead.bytes) = ap (λ (k : ℕ). take k c.seal-seal.result) count ∙ seal_is in
    let is : starts_with nat_eq (drop size ahead.bytes) (seal v before (take size ahead.bytes)) ≡ true =
    ap (λ (l : List ℕ). starts_with nat_eq l (seal v before (take size ahead.bytes))) (sym behind)
    ∙ ap (starts_with nat_eq c.split_at.result.1.now) (sym last) ∙ sym c.starts_with.ensures.value ∙ same in (
      sealed_piece v c.args.limit size before fed (g.S.Source.left c.fill.new.source) ahead true reached.0 now long is
          ∙ ap (λ (k : ℕ). feeds.Sealed (size + k) (seal v before (take size ahead.bytes))) (sym count)
          ∙ ap (feeds.Sealed (size + c.seal_size-count.result)) (sym seal_is),
      now,
    )
