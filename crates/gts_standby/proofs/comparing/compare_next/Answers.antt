use Rattle.gts_standby.proofs.Cited.{rules, ◌≡◌, true, false, nat_eq, drop, sym, subst, Ends, HasRead, InFeed, IsWhole, held, open_end, pointwise, stopped}
use Rattle.gts_standby.proofs.ExitLemmas.{returned}
use Rattle.gts_standby.proofs.HeaderLemmas.{passed}
use Rattle.gts_standby.proofs.CompareLemmas.{behind_one, compare_on, compare_off, device_passed, diverged, device_stops, stops_at, piece_so, same_so, own_so, fed_so}
use Rattle.gts_standby.proofs.WholeLemmas.{whole_read, stops_all, open_all}
use Rattle.gts_standby.proofs.comparing.compare_next.Goals as goal

pub returns-in_err-size-clause-compared : goal.returns-in_err-size-clause-compared
returns-in_err-size-clause-compared g c = λ observed told d end left fed on low read.
    let j = c.args.own.now in
    rw (returned c.from_residual.result c.in_err-size.field-0.0 c.from_residual.ensures.1)
    (stops_at c.in_err-size.field-0.0 d (g.P.Station.calls c.args.station.now) j c.version-version.result c.seal-before.result end left c.args.index c.args.at fed _ c.version-version.ensures c.seal-before.ensures on low
    (c.in_err-size.ensures.piece told fed read))

pub returns-in_err-pass_next-clause-compared : goal.returns-in_err-pass_next-clause-compared
returns-in_err-pass_next-clause-compared g c = λ observed told d end left fed on low read.
    let e = c.in_err-pass_next.field-0.0 in
    rw (returned c.from_residual-in_err-pass_next.result (open_end e) c.from_residual-in_err-pass_next.ensures.1)
    (λ behind. device_stops (open_end e) (device_passed d (g.P.Station.calls c.args.station.now) c.args.own.now c.pass_next.new.journal end left e on low (c.in_err-pass_next.ensures.passed observed)) _ _)

pub returns-then-not-is_same-clause-compared : goal.returns-then-not-is_same-clause-compared
returns-then-not-is_same-clause-compared g c = λ observed told d end left fed on low read behind.
    let j = c.args.own.now in
    let next = c.pass_next.new.journal in
    let v = c.version-version.result in
    let array = c.in_ok-size.fed in
    let record_passed = c.in_ok-pass_next.ensures.passed observed in
    let one = behind_one d (g.P.Station.calls c.args.station.now) _ j next record_passed.0 end left on record_passed.1 record_passed.2 (c.in_ok-pass_next.ensures.looks.told observed) in
    let found = c.in_ok-size.ensures.piece told fed read in
    let other : false ≡ pointwise nat_eq (held v c.seal-seal.result) (held v array) = search rules in
    diverged _ v c.args.index c.seal-seal.result array next.seal (held j.version array) _
    (compare_off j.version behind left one.rest next.seal j.seal (held j.version array) c.args.index c.args.at c.in_ok-size.size fed one.is
    (piece_so j v c.seal-before.result array c.version-version.ensures c.seal-before.ensures c.in_ok-size.size fed found.0)
    (same_so j v c.seal-before.result array c.version-version.ensures c.seal-before.ensures next c.seal-seal.result false c.in_ok-pass_next.ensures.goes.version c.seal-seal.ensures other))
    (own_so j v c.seal-before.result array c.version-version.ensures c.seal-before.ensures next c.seal-seal.result c.in_ok-pass_next.ensures.goes.version c.seal-seal.ensures c.requires.current)
    (fed_so j v c.seal-before.result array c.version-version.ensures c.seal-before.ensures c.requires.current)

pub returns-clause-compared : goal.returns-clause-compared
returns-clause-compared g c = λ observed told d end left fed on low read.
    let j = c.args.own.now in
    let next = c.pass_next.new.journal in
    let v = c.version-version.result in
    let array = c.in_ok-size.fed in
    let record_passed = c.in_ok-pass_next.ensures.passed observed in
    let one = behind_one d (g.P.Station.calls c.args.station.now) _ j next record_passed.0 end left on record_passed.1 record_passed.2 (c.in_ok-pass_next.ensures.looks.told observed) in
    let found = c.in_ok-size.ensures.piece told fed read in
    let same : true ≡ pointwise nat_eq (held v c.seal-seal.result) (held v array) = search rules in
    let left_now = g.S.Source.left c.fed_record.new.source in
    record {
      rest = one.rest;
      same = λ behind.
          compare_on j.version behind left one.rest next.seal j.seal (held j.version array) c.args.index c.args.at c.in_ok-size.size fed one.is
          (piece_so j v c.seal-before.result array c.version-version.ensures c.seal-before.ensures c.in_ok-size.size fed found.0)
          (same_so j v c.seal-before.result array c.version-version.ensures c.seal-before.ensures next c.seal-seal.result true c.in_ok-pass_next.ensures.goes.version c.seal-seal.ensures same);
      on = one.at;
      read = subst (λ (a : InFeed). HasRead (drop c.in_ok-size.size fed) a left_now) (sym c.pass.ensures) (passed fed left_now c.fed_record.new.ahead c.in_ok-size.size found.1 c.in_ok-size.ensures.there);
    }

pub returns-in_err-size-clause-whole : goal.returns-in_err-size-clause-whole
returns-in_err-size-clause-whole g c = λ told w.
    rw (returned c.from_residual.result c.in_err-size.field-0.0 c.from_residual.ensures.1)
    (stops_all c.in_err-size.field-0.0 _ _ (c.in_err-size.ensures.piece told _ (whole_read c.args.ahead.now _ w) (λ size seal. stopped Ends)))

pub returns-in_err-pass_next-clause-whole : goal.returns-in_err-pass_next-clause-whole
returns-in_err-pass_next-clause-whole g c = λ told w. rw (returned c.from_residual-in_err-pass_next.result (open_end c.in_err-pass_next.field-0.0) c.from_residual-in_err-pass_next.ensures.1) (open_all c.in_err-pass_next.field-0.0 _)

pub returns-clause-whole : goal.returns-clause-whole
returns-clause-whole g c = λ told w. subst (λ (a : InFeed). IsWhole a (g.S.Source.left c.fed_record.new.source)) (sym c.pass.ensures) (c.in_ok-size.ensures.piece told _ (whole_read c.args.ahead.now _ w)).1.all
