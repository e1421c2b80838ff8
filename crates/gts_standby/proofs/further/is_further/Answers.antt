use Rattle.gts_standby.proofs.Cited.{◌≡◌, ◌-◌, ◌<◌, ◌^◌, ℕ, List, take, sym, ap, subst, ◌∙◌, arith, InFeed, IsCheckpoint, Version, held, need_of, seal_size, written}
use Rattle.gts_standby.specs.Taking as feeds
use Rattle.gts_standby.proofs.PutLemmas.{piece_of, found_there, none_found, none_begins, begins_with}
use Rattle.gts_standby.proofs.FurtherLemmas.{none_further, some_further}
use Rattle.gts_standby.proofs.further.is_further.Goals as goal

pub returns-in_default-clause-further : goal.returns-in_default-clause-further
returns-in_default-clause-further g c = λ told s fed holds read.
    let d = c.args.directory.now in
    let ahead : InFeed = c.fed_checkpoint.new.ahead in
    let left : List ℕ = g.S.Source.left c.fed_checkpoint.new.source in
    let v : Version = c.written-version.result in
    let size : ℕ = c.in-Ok.found.0 in
    let found = c.in-Ok.ensures.piece told fed read in
    let piece = piece_of d v c.limit-limit.result c.mark.result c.first_seal-before.result fed (feeds.Sealed size (held v c.in-Ok.found.1)) c.written-version.ensures c.limit-limit.ensures.value c.mark.ensures c.first_seal-before.ensures.held found.0 in
    let limit : d.limit < 256 ^ 4 = omega (arith, c.limit-limit.ensures.value, c.limit-limit.ensures.range.1) in
    let count : size - c.seal_size.result ≡ size - seal_size written = ap (λ (k : ℕ). size - k) (c.seal_size.ensures.value ∙ ap seal_size c.written-version.ensures) in
    let bytes : take (size - c.seal_size.result) c.bytes.result.now ≡ take (size - seal_size written) ahead.bytes =
    ap (λ (k : ℕ). take k c.bytes.result.now) count ∙ ap (take (size - seal_size written)) c.bytes.ensures in
    none_further d s fed ahead left
    (none_begins d fed ahead.bytes left size (held v c.in-Ok.found.1) limit found.1.is c.in-Ok.ensures.there piece
    (λ n cp. none_found c.in_ok-fed.field-0 c.in_ok-fed.ensures.none c.in_default.is n (subst (λ (l : List ℕ). IsCheckpoint written d l n) (sym bytes) cp)))

pub returns-clause-further : goal.returns-clause-further
returns-clause-further g c = λ told s fed holds read.
    let d = c.args.directory.now in
    let n = need_of c.in-Some.fed in
    let ahead : InFeed = c.fed_checkpoint.new.ahead in
    let left : List ℕ = g.S.Source.left c.fed_checkpoint.new.source in
    let v : Version = c.written-version.result in
    let size : ℕ = c.in-Ok.found.0 in
    let found = c.in-Ok.ensures.piece told fed read in
    let piece = piece_of d v c.limit-limit.result c.mark.result c.first_seal-before.result fed (feeds.Sealed size (held v c.in-Ok.found.1)) c.written-version.ensures c.limit-limit.ensures.value c.mark.ensures c.first_seal-before.ensures.held found.0 in
    let limit : d.limit < 256 ^ 4 = omega (arith, c.limit-limit.ensures.value, c.limit-limit.ensures.range.1) in
    let count : size - c.seal_size.result ≡ size - seal_size written = ap (λ (k : ℕ). size - k) (c.seal_size.ensures.value ∙ ap seal_size c.written-version.ensures) in
    let bytes : take (size - c.seal_size.result) c.bytes.result.now ≡ take (size - seal_size written) ahead.bytes =
    ap (λ (k : ℕ). take k c.bytes.result.now) count ∙ ap (take (size - seal_size written)) c.bytes.ensures in
    let cp : IsCheckpoint written d (take (size - seal_size written) ahead.bytes) n =
    subst (λ (l : List ℕ). IsCheckpoint written d l n) bytes
    (found_there d (take (size - c.seal_size.result) c.bytes.result.now) c.in_ok-fed.field-0 c.in-Some.fed c.in_ok-fed.ensures.found c.in-Some.is) in
    some_further d s fed ahead left n (need_of c.in_ok-own.own) c.is_behind.result
    (begins_with d fed ahead.bytes left size (held v c.in-Ok.found.1) limit found.1.is c.in-Ok.ensures.there piece n cp) (c.in_ok-own.ensures d s holds) c.is_behind.ensures found.1
