use Rattle.gts_standby.proofs.Cited.{◌≡◌, ◌-◌, ◌^◌, ◌<◌, ◌≤◌, ℕ, List, length, take, drop, refl, sym, ap, subst, ◌∙◌, arith, length-take, BeforeIt, HasRead, InFeed, IsCheckpoint, IsWhole, NoMemory, Version, WithinIt, begun, held, need_of, seal_size, written, kept_begun}
use Rattle.gts_standby.specs.Taking as feeds
use Rattle.gts_standby.proofs.ExitLemmas.{returned}
use Rattle.gts_standby.proofs.HeaderLemmas.{passed}
use Rattle.gts_standby.proofs.PutLemmas.{put_ends, found_there, none_found, piece_of, begun_so, begins_with, none_begins}
use Rattle.gts_standby.proofs.WholeLemmas.{whole_read, stops_all, put_all}
use Rattle.gts_standby.proofs.beginning.begin.Goals as goal

pub returns-in_default-clause-begun : goal.returns-in_default-clause-begun
returns-in_default-clause-begun g c = λ tell told s fed holds read.
    let d = c.args.directory.now in
    let ahead : InFeed = c.fed_checkpoint.new.ahead in
    let left : List ℕ = g.S.Source.left c.fed_checkpoint.new.source in
    let v : Version = c.version-version.result in
    let size : ℕ = c.in_ok-behind.field-0.0 in
    let found = c.in_ok-behind.ensures.piece told fed read in
    let piece = piece_of d v c.limit-limit.result c.mark.result c.first_seal-before.result fed (feeds.Sealed size (held v c.in_ok-behind.field-0.1)) (c.version-version.ensures ∙ holds.current) c.limit-limit.ensures.value c.mark.ensures c.first_seal-before.ensures.held found.0 in
    let limit : d.limit < 256 ^ 4 = omega (arith, c.limit-limit.ensures.value, c.limit-limit.ensures.range.1) in
    let count : size - c.seal_size.result ≡ size - seal_size written = ap (λ (k : ℕ). size - k) (c.seal_size.ensures.value ∙ ap seal_size (c.version-version.ensures ∙ holds.current)) in
    let bytes : take (size - c.seal_size.result) c.bytes.result.now ≡ take (size - seal_size written) ahead.bytes =
    ap (λ (k : ℕ). take k c.bytes.result.now) count ∙ ap (take (size - seal_size written)) c.bytes.ensures in
    BeforeIt refl (record {
      end = feeds.Breaks 40;
      is = none_begins d fed ahead.bytes left size (held v c.in_ok-behind.field-0.1) limit found.1.is c.in_ok-behind.ensures.there piece
          (λ n cp. none_found c.in_ok-need.field-0 c.in_ok-need.ensures.none c.in_default.is n (subst (λ (l : List ℕ). IsCheckpoint written d l n) (sym bytes) cp));
      ends = refl;
      all = tt;
    })

pub put-requires-clause-size : goal.put-requires-clause-size
put-requires-clause-size g c =
    let long : c.in_ok-behind.field-0.0 ≤ length c.bytes.result.now = omega (arith, c.in_ok-behind.ensures.there, ap (λ (l : List ℕ). length l) c.bytes.ensures) in
    let d = c.args.directory.now in
    let cp = found_there d (take (c.in_ok-behind.field-0.0 - c.seal_size.result) c.bytes.result.now) c.in_ok-need.field-0 c.in-Some.need c.in_ok-need.ensures.found c.in-Some.is in
    omega (arith, ap (λ (l : List ℕ). length l) cp.text, length-take (c.in_ok-behind.field-0.0 - c.seal_size.result) c.bytes.result.now, long)

pub returns-in_err-put-clause-begun : goal.returns-in_err-put-clause-begun
returns-in_err-put-clause-begun g c = λ tell told s fed holds read.
    let d = c.args.directory.now in
    let n = need_of c.in-Some.need in
    let ahead : InFeed = c.fed_checkpoint.new.ahead in
    let left : List ℕ = g.S.Source.left c.fed_checkpoint.new.source in
    let v : Version = c.version-version.result in
    let size : ℕ = c.in_ok-behind.field-0.0 in
    let found = c.in_ok-behind.ensures.piece told fed read in
    let piece = piece_of d v c.limit-limit.result c.mark.result c.first_seal-before.result fed (feeds.Sealed size (held v c.in_ok-behind.field-0.1)) (c.version-version.ensures ∙ holds.current) c.limit-limit.ensures.value c.mark.ensures c.first_seal-before.ensures.held found.0 in
    let limit : d.limit < 256 ^ 4 = omega (arith, c.limit-limit.ensures.value, c.limit-limit.ensures.range.1) in
    let count : size - c.seal_size.result ≡ size - seal_size written = ap (λ (k : ℕ). size - k) (c.seal_size.ensures.value ∙ ap seal_size (c.version-version.ensures ∙ holds.current)) in
    let bytes : take (size - c.seal_size.result) c.bytes.result.now ≡ take (size - seal_size written) ahead.bytes =
    ap (λ (k : ℕ). take k c.bytes.result.now) count ∙ ap (take (size - seal_size written)) c.bytes.ensures in
    let cp : IsCheckpoint written d (take (size - seal_size written) ahead.bytes) n =
    subst (λ (l : List ℕ). IsCheckpoint written d l n) bytes
    (found_there d (take (size - c.seal_size.result) c.bytes.result.now) c.in_ok-need.field-0 c.in-Some.need c.in_ok-need.ensures.found c.in-Some.is) in
    rw (returned c.from_residual-in_err-put.result c.in_err-put.field-0.0 c.from_residual-in_err-put.ensures.1)
    (WithinIt n (begins_with d fed ahead.bytes left size (held v c.in_ok-behind.field-0.1) limit found.1.is c.in_ok-behind.ensures.there piece n cp) (c.put.ensures.moments tell s (holds.stands tell)) (put_ends c.in_err-put.field-0.0 c.in_err-put.ensures.kind))

pub returns-clause-begun : goal.returns-clause-begun
returns-clause-begun g c = λ tell told s fed holds read.
    let d = c.args.directory.now in
    let next = c.put.new.journal in
    let n = need_of c.in-Some.need in
    let ahead : InFeed = c.fed_checkpoint.new.ahead in
    let left : List ℕ = g.S.Source.left c.fed_checkpoint.new.source in
    let v : Version = c.version-version.result in
    let size : ℕ = c.in_ok-behind.field-0.0 in
    let found = c.in_ok-behind.ensures.piece told fed read in
    let piece = piece_of d v c.limit-limit.result c.mark.result c.first_seal-before.result fed (feeds.Sealed size (held v c.in_ok-behind.field-0.1)) (c.version-version.ensures ∙ holds.current) c.limit-limit.ensures.value c.mark.ensures c.first_seal-before.ensures.held found.0 in
    let limit : d.limit < 256 ^ 4 = omega (arith, c.limit-limit.ensures.value, c.limit-limit.ensures.range.1) in
    let count : size - c.seal_size.result ≡ size - seal_size written = ap (λ (k : ℕ). size - k) (c.seal_size.ensures.value ∙ ap seal_size (c.version-version.ensures ∙ holds.current)) in
    let bytes : take (size - c.seal_size.result) c.bytes.result.now ≡ take (size - seal_size written) ahead.bytes =
    ap (λ (k : ℕ). take k c.bytes.result.now) count ∙ ap (take (size - seal_size written)) c.bytes.ensures in
    let cp : IsCheckpoint written d (take (size - seal_size written) ahead.bytes) n =
    subst (λ (l : List ℕ). IsCheckpoint written d l n) bytes
    (found_there d (take (size - c.seal_size.result) c.bytes.result.now) c.in_ok-need.field-0 c.in-Some.need c.in_ok-need.ensures.found c.in-Some.is) in
    record {
      n = n;
      size = size;
      fed_seal = held v c.in_ok-behind.field-0.1;
      piece = piece;
      begins = begun_so d fed ahead.bytes left size (held v c.in_ok-behind.field-0.1) limit found.1.is c.in_ok-behind.ensures.there piece n next cp c.in_ok-put.ensures.seal c.in_ok-put.ensures.gate;
      place = refl;
      gate_is = c.in_ok-put.ensures.gate;
      seal_is = c.in_ok-put.ensures.seal;
      holds = record {
        kept = kept_begun written d c.in_ok-core.core n next.gate c.in_ok-core.ensures cp.sound cp.free (omega (arith, cp.room, c.in_ok-put.ensures.gate));
        current = c.in_ok-put.ensures.current;
        ended = c.in_ok-put.ensures.ended;
        stands = λ observed. c.in_ok-put.ensures.begun observed s (holds.stands observed);
      };
      read = subst (λ (a : InFeed). HasRead (drop size fed) a left) (sym c.pass.ensures) (passed fed left ahead size found.1 c.in_ok-behind.ensures.there);
      silent = c.put.ensures.silent tell;
      moments = c.put.ensures.moments tell s (holds.stands tell);
    }

pub returns-clause-opened : goal.returns-clause-opened
returns-clause-opened g c =
    let d = c.args.directory.now in
    let n = need_of c.in-Some.need in
    let next = c.put.new.journal in
    let cp = found_there d (take (c.in_ok-behind.field-0.0 - c.seal_size.result) c.bytes.result.now) c.in_ok-need.field-0 c.in-Some.need c.in_ok-need.ensures.found c.in-Some.is in
    record {
      state = begun n;
      kept = kept_begun written d c.in_ok-core.core n next.gate c.in_ok-core.ensures cp.sound cp.free (omega (arith, cp.room, c.in_ok-put.ensures.gate));
      current = c.in_ok-put.ensures.current;
      ended = c.in_ok-put.ensures.ended;
      stands = λ tell. c.in_ok-put.ensures.begun tell c.requires.state (c.requires.stands tell);
    }

pub returns-in_err-core-clause-begun : goal.returns-in_err-core-clause-begun
returns-in_err-core-clause-begun g c = λ tell told s fed holds read.
    let d = c.args.directory.now in
    let n = need_of c.in-Some.need in
    let ahead : InFeed = c.fed_checkpoint.new.ahead in
    let left : List ℕ = g.S.Source.left c.fed_checkpoint.new.source in
    let v : Version = c.version-version.result in
    let size : ℕ = c.in_ok-behind.field-0.0 in
    let found = c.in_ok-behind.ensures.piece told fed read in
    let piece = piece_of d v c.limit-limit.result c.mark.result c.first_seal-before.result fed (feeds.Sealed size (held v c.in_ok-behind.field-0.1)) (c.version-version.ensures ∙ holds.current) c.limit-limit.ensures.value c.mark.ensures c.first_seal-before.ensures.held found.0 in
    let limit : d.limit < 256 ^ 4 = omega (arith, c.limit-limit.ensures.value, c.limit-limit.ensures.range.1) in
    let count : size - c.seal_size.result ≡ size - seal_size written = ap (λ (k : ℕ). size - k) (c.seal_size.ensures.value ∙ ap seal_size (c.version-version.ensures ∙ holds.current)) in
    let bytes : take (size - c.seal_size.result) c.bytes.result.now ≡ take (size - seal_size written) ahead.bytes =
    ap (λ (k : ℕ). take k c.bytes.result.now) count ∙ ap (take (size - seal_size written)) c.bytes.ensures in
    let cp : IsCheckpoint written d (take (size - seal_size written) ahead.bytes) n =
    subst (λ (l : List ℕ). IsCheckpoint written d l n) bytes
    (found_there d (take (size - c.seal_size.result) c.bytes.result.now) c.in_ok-need.field-0 c.in-Some.need c.in_ok-need.ensures.found c.in-Some.is) in
    rw (returned c.from_residual-in_err-core.result NoMemory c.from_residual-in_err-core.ensures.1)
    (WithinIt n (begins_with d fed ahead.bytes left size (held v c.in_ok-behind.field-0.1) limit found.1.is c.in_ok-behind.ensures.there piece n cp) (c.put.ensures.moments tell s (holds.stands tell)) (λ end. end))

pub returns-in_err-behind-clause-whole : goal.returns-in_err-behind-clause-whole
returns-in_err-behind-clause-whole g c = λ told w. rw (returned c.from_residual.result c.in_err-behind.field-0.0 c.from_residual.ensures.1) (stops_all c.in_err-behind.field-0.0 _ _ (c.in_err-behind.ensures.piece told _ (whole_read c.args.ahead.now _ w) (λ size seal. feeds.stopped feeds.Ends)))

pub returns-in_err-put-clause-whole : goal.returns-in_err-put-clause-whole
returns-in_err-put-clause-whole g c = λ told w. rw (returned c.from_residual-in_err-put.result c.in_err-put.field-0.0 c.from_residual-in_err-put.ensures.1) (put_all c.in_err-put.field-0.0 _ c.in_err-put.ensures.kind)

pub returns-clause-whole : goal.returns-clause-whole
returns-clause-whole g c = λ told w. subst (λ (a : InFeed). IsWhole a (g.S.Source.left c.fed_checkpoint.new.source)) (sym c.pass.ensures) (c.in_ok-behind.ensures.piece told _ (whole_read c.args.ahead.now _ w)).1.all
