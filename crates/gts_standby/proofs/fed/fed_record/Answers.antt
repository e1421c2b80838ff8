use Rattle.gts_standby.proofs.Cited.{◌≡◌, Some, None, sym, ap, ◌∙◌, held, record_of, sealed_at}
use Rattle.gts_standby.proofs.FedLemmas.{found_piece, no_piece, found_fits_there}
use Rattle.gts_standby.proofs.fed.fed_record.Goals as goal

pub returns-in-Some-clause-piece : goal.returns-in-Some-clause-piece
returns-in-Some-clause-piece g c = λ observed fed read.
    let v = c.args.version in
    let before = held v c.args.before.now in
    let now = c.in_ok-read_next.ensures.kept observed fed read in
    let found : sealed_at v before c.read_next.new.ahead.bytes ≡ Some (record_of c.in-Some.found.0) = ap (sealed_at v before) (sym c.bytes.ensures) ∙ sym c.in-Some.ensures.found in
    (found_piece v before fed (g.S.Source.left c.read_next.new.source) c.read_next.new.ahead (record_of c.in-Some.found.0) c.in-Some.found.1 (held v c.in-Some.found.2) now found c.in-Some.ensures.size c.in-Some.ensures.seal, now)

pub returns-in-Some-clause-there : goal.returns-in-Some-clause-there
returns-in-Some-clause-there g c =
    let v = c.args.version in
    let before = held v c.args.before.now in
    let found : sealed_at v before c.read_next.new.ahead.bytes ≡ Some (record_of c.in-Some.found.0) = ap (sealed_at v before) (sym c.bytes.ensures) ∙ sym c.in-Some.ensures.found in
    found_fits_there v before c.read_next.new.ahead.bytes (record_of c.in-Some.found.0) c.in-Some.found.1 found c.in-Some.ensures.size

pub returns-in-None-clause-piece : goal.returns-in-None-clause-piece
returns-in-None-clause-piece g c = λ observed fed read next.
    let v = c.args.version in
    let before = held v c.args.before.now in
    let now = c.in_ok-read_next.ensures.kept observed fed read in
    let none : sealed_at v before c.read_next.new.ahead.bytes ≡ None = ap (sealed_at v before) (sym c.bytes.ensures) ∙ sym c.in-None.ensures.found in
    no_piece c.end_at.result v before fed (g.S.Source.left c.read_next.new.source) c.read_next.new.ahead c.args.at now c.in_ok-read_next.ensures.enough none c.end_at.ensures next
