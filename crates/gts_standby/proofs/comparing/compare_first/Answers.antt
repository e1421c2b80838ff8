use Rattle.gts_standby.proofs.Cited.{rules, ◌≡◌, ℕ, true, false, nat_eq, drop, sym, subst, Ends, HasRead, InFeed, IsWhole, Sealed, first_piece, held, pointwise, seals_here, stopped, common_steps, arith}
use Rattle.gts_standby.proofs.ExitLemmas.{returned}
use Rattle.gts_standby.proofs.HeaderLemmas.{passed}
use Rattle.gts_standby.proofs.CompareLemmas.{first_on, first_off, diverged, device_stops, first_stops_at, first_so, same_so, own_so, fed_so}
use Rattle.gts_standby.proofs.WholeLemmas.{whole_read, stops_all, own_all}
use Rattle.gts_standby.proofs.OtherLemmas.{fed_other, own_other, no_other}
use Rattle.gts_standby.proofs.comparing.compare_first.Goals as goal

pub returns-in_err-size-clause-compared : goal.returns-in_err-size-clause-compared
returns-in_err-size-clause-compared g c = λ observed told end fed first low read.
    let d = c.args.directory.now in
    let j = c.args.own.now in
    let old = g.P.Station.calls c.args.station.now in
    let left = seals_here d old j in
    rw (returned c.from_residual.result c.in_err-size.field-0.0 c.from_residual.ensures.1)
    (first_stops_at c.in_err-size.field-0.0 d old j c.version-version.result c.seal-before.result c.limit-limit.result end fed _ c.version-version.ensures c.seal-before.ensures first low c.limit-limit.ensures.value
    (c.in_err-size.ensures.piece told fed read))

pub returns-in_err-own_first-clause-compared : goal.returns-in_err-own_first-clause-compared
returns-in_err-own_first-clause-compared g c = λ observed told end fed first low read.
    rw (returned c.from_residual-in_err-own_first.result c.in_err-own_first.field-0.0 c.from_residual-in_err-own_first.ensures.1) (λ behind. device_stops c.in_err-own_first.field-0.0 (c.in_err-own_first.ensures.on observed end first low) _ _)

pub returns-then-not-is_same-clause-compared : goal.returns-then-not-is_same-clause-compared
returns-then-not-is_same-clause-compared g c = λ observed told end fed first low read behind.
    let d = c.args.directory.now in
    let j = c.args.own.now in
    let old = g.P.Station.calls c.args.station.now in
    let left = seals_here d old j in
    let next = c.own_first.new.own in
    let v = c.version-version.result in
    let array = c.in_ok-size.fed in
    let one = c.in_ok-own_first.ensures.on observed end first low in
    let found = c.in_ok-size.ensures.piece told fed read in
    let limited = subst (λ (k : ℕ). first_piece v k (held v c.seal-before.result) fed ≡ Sealed c.in_ok-size.size (held v array)) c.limit-limit.ensures.value found.0 in
    let other : false ≡ pointwise nat_eq (held v c.seal-seal.result) (held v array) = search rules in
    diverged _ v 0 c.seal-seal.result array next.seal (held j.version array) _
    (first_off j.version d.limit behind left one.rest next.seal j.seal (held j.version array) c.in_ok-size.size fed one.is
    (first_so j v c.seal-before.result array c.version-version.ensures c.seal-before.ensures d.limit c.in_ok-size.size fed limited)
    (same_so j v c.seal-before.result array c.version-version.ensures c.seal-before.ensures next c.seal-seal.result false c.in_ok-own_first.ensures.goes.version c.seal-seal.ensures other))
    (own_so j v c.seal-before.result array c.version-version.ensures c.seal-before.ensures next c.seal-seal.result c.in_ok-own_first.ensures.goes.version c.seal-seal.ensures c.requires.current)
    (fed_so j v c.seal-before.result array c.version-version.ensures c.seal-before.ensures c.requires.current)

pub returns-clause-compared : goal.returns-clause-compared
returns-clause-compared g c = λ observed told end fed first low read.
    let d = c.args.directory.now in
    let j = c.args.own.now in
    let old = g.P.Station.calls c.args.station.now in
    let left = seals_here d old j in
    let next = c.own_first.new.own in
    let v = c.version-version.result in
    let array = c.in_ok-size.fed in
    let one = c.in_ok-own_first.ensures.on observed end first low in
    let found = c.in_ok-size.ensures.piece told fed read in
    let limited = subst (λ (k : ℕ). first_piece v k (held v c.seal-before.result) fed ≡ Sealed c.in_ok-size.size (held v array)) c.limit-limit.ensures.value found.0 in
    let same : true ≡ pointwise nat_eq (held v c.seal-seal.result) (held v array) = search rules in
    let left_now = g.S.Source.left c.fed_first.new.source in
    record {
      rest = one.rest;
      same = λ behind.
          first_on j.version d.limit behind left one.rest next.seal j.seal (held j.version array) c.in_ok-size.size fed one.is
          (first_so j v c.seal-before.result array c.version-version.ensures c.seal-before.ensures d.limit c.in_ok-size.size fed limited)
          (same_so j v c.seal-before.result array c.version-version.ensures c.seal-before.ensures next c.seal-seal.result true c.in_ok-own_first.ensures.goes.version c.seal-seal.ensures same);
      on = one.at;
      read = subst (λ (a : InFeed). HasRead (drop c.in_ok-size.size fed) a left_now) (sym c.pass.ensures) (passed fed left_now c.fed_first.new.ahead c.in_ok-size.size found.1 c.in_ok-size.ensures.there);
    }

pub returns-in_err-size-clause-whole : goal.returns-in_err-size-clause-whole
returns-in_err-size-clause-whole g c = λ told w.
    rw (returned c.from_residual.result c.in_err-size.field-0.0 c.from_residual.ensures.1)
    (stops_all c.in_err-size.field-0.0 _ _ (c.in_err-size.ensures.piece told _ (whole_read c.args.ahead.now _ w) (λ size seal. stopped Ends)))

pub returns-in_err-own_first-clause-whole : goal.returns-in_err-own_first-clause-whole
returns-in_err-own_first-clause-whole g c = λ told w. rw (returned c.from_residual-in_err-own_first.result c.in_err-own_first.field-0.0 c.from_residual-in_err-own_first.ensures.1) (own_all c.in_err-own_first.field-0.0 _ c.in_err-own_first.ensures.kind)

pub returns-clause-whole : goal.returns-clause-whole
returns-clause-whole g c = λ told w. subst (λ (a : InFeed). IsWhole a (g.S.Source.left c.fed_first.new.source)) (sym c.pass.ensures) (c.in_ok-size.ensures.piece told _ (whole_read c.args.ahead.now _ w)).1.all

pub returns-in_err-size-clause-kept : goal.returns-in_err-size-clause-kept
returns-in_err-size-clause-kept g c = grind (arith, common_steps, returned, no_other, fed_other)

pub returns-in_err-own_first-clause-kept : goal.returns-in_err-own_first-clause-kept
returns-in_err-own_first-clause-kept g c = grind (arith, common_steps, returned, no_other, own_other)

pub returns-then-not-is_same-clause-kept : goal.returns-then-not-is_same-clause-kept
returns-then-not-is_same-clause-kept g c = λ told fed read other. (c.in_ok-size.ensures.piece told fed read).1
