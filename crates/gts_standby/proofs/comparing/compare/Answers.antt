use Rattle.gts_standby.proofs.Cited.{◌≡◌, ◌+◌, ℕ, List, drop, sym, ap, subst, ◌∙◌, IsAtFirst, StopsAs, Taken, Version, compare_all, compare_first, file_of, first_fault, first_seal, open_end, own_seals, seen, written, common_steps, arith}
use Rattle.gts_standby.proofs.ExitLemmas.{returned}
use Rattle.gts_standby.proofs.FirstLemmas.{at_start, no_header_fault}
use Rattle.gts_standby.proofs.CompareLemmas.{device_start, device_stops, compares_same, same_seals}
use Rattle.gts_standby.proofs.WholeLemmas.{open_all}
use Rattle.gts_standby.proofs.OtherLemmas.{open_other, no_other, kept_later}
use Rattle.gts_standby.proofs.comparing.compare.Goals as goal

pub returns-in_err-own-clause-compared : goal.returns-in_err-own-clause-compared
returns-in_err-own-clause-compared g c = λ observed told s j fed stands gate read.
    let d = c.args.directory.now in
    let old = g.P.Station.calls c.args.station.now in
    let device = device_start c.in_err-own.field-0.0 (first_fault c.mark.result (seen old)) (c.in_err-own.ensures.fault observed) (λ f is. no_header_fault d old j s c.mark.result f stands stands.current c.mark.ensures is) in
    rw (returned c.from_residual.result (open_end c.in_err-own.field-0.0) c.from_residual.ensures.1) (λ behind. device_stops (open_end c.in_err-own.field-0.0) device _ _)

pub returns-clause-compared : goal.returns-clause-compared
returns-clause-compared g c = λ observed told s j fed stands gate read.
    let d = c.args.directory.now in
    let old = g.P.Station.calls c.args.station.now in
    let now = g.P.Station.calls c.start.new.station in
    let own = c.in_ok-own.own in
    let synced = c.in_ok-own.ensures.synced observed in
    let first : IsAtFirst d now own c.args.end =
    subst (λ (k : ℕ). IsAtFirst d now own k) gate
    (at_start d old now j own s c.mark.result synced stands stands.current c.mark.ensures c.in_ok-own.ensures.begins.0 c.in_ok-own.ensures.version c.in_ok-own.ensures.seal (c.in_ok-own.ensures.stands observed) (c.in_ok-own.ensures.fault observed) (c.in_ok-own.ensures.checkpoint observed)) in
    let one = c.in_ok-size.ensures.compared observed told c.args.end fed first c.requires.some read in
    let next = c.compare_first.new.own in
    let size = c.in_ok-size.size in
    let from_here : (ℕ → List ℕ → Taken) → Taken = λ behind. compare_all next.version behind one.rest next.seal 1 (40 + size) (drop size fed) in
    let whole : (ℕ → List ℕ → Taken) → Taken = λ behind. compare_first written d.limit behind (own_seals d (file_of old j)) (first_seal written d.mark) fed in
    let same : (behind : ℕ → List ℕ → Taken) → whole behind ≡ from_here behind =
    λ behind.
    same_seals d old now j own c.mark.result synced stands.stands (c.in_ok-own.ensures.stands observed) c.in_ok-own.ensures.version c.in_ok-own.ensures.seal c.mark.ensures d.limit behind fed
    ∙ one.same behind
    ∙ ap (λ (w : Version). compare_all w behind one.rest next.seal 1 (40 + size) (drop size fed)) (sym c.in_ok-size.ensures.goes.version) in
    compares_same c.compare_rest.result from_here whole c.compare_rest.new.ahead (g.S.Source.left c.compare_rest.new.source) same
    (c.compare_rest.ensures.compared observed told d one.rest (drop size fed) one.on one.read)

pub returns-in_err-size-clause-compared : goal.returns-in_err-size-clause-compared
returns-in_err-size-clause-compared g c = λ observed told s j fed stands gate read.
    let d = c.args.directory.now in
    let old = g.P.Station.calls c.args.station.now in
    let now = g.P.Station.calls c.start.new.station in
    let own = c.in_ok-own.own in
    let synced = c.in_ok-own.ensures.synced observed in
    let first : IsAtFirst d now own c.args.end =
    subst (λ (k : ℕ). IsAtFirst d now own k) gate
    (at_start d old now j own s c.mark.result synced stands stands.current c.mark.ensures c.in_ok-own.ensures.begins.0 c.in_ok-own.ensures.version c.in_ok-own.ensures.seal (c.in_ok-own.ensures.stands observed) (c.in_ok-own.ensures.fault observed) (c.in_ok-own.ensures.checkpoint observed)) in
    rw (returned c.from_residual-in_err-size.result c.in_err-size.field-0.0 c.from_residual-in_err-size.ensures.1) (λ behind.
    subst (λ (t : Taken). StopsAs c.in_err-size.field-0.0 t (g.S.Source.left c.compare_first.new.source))
    (sym (same_seals d old now j own c.mark.result synced stands.stands (c.in_ok-own.ensures.stands observed) c.in_ok-own.ensures.version c.in_ok-own.ensures.seal c.mark.ensures d.limit behind fed))
    (c.in_err-size.ensures.compared observed told c.args.end fed first c.requires.some read behind))

pub returns-in_err-own-clause-whole : goal.returns-in_err-own-clause-whole
returns-in_err-own-clause-whole g c = grind (arith, common_steps, returned, open_all)

pub returns-clause-whole : goal.returns-clause-whole
returns-clause-whole g c = λ told w. c.compare_rest.ensures.whole told (c.in_ok-size.ensures.whole told w)

pub returns-in_err-size-clause-whole : goal.returns-in_err-size-clause-whole
returns-in_err-size-clause-whole g c = λ told w. rw (returned c.from_residual-in_err-size.result c.in_err-size.field-0.0 c.from_residual-in_err-size.ensures.1) (c.in_err-size.ensures.whole told w)

pub returns-in_err-own-clause-kept : goal.returns-in_err-own-clause-kept
returns-in_err-own-clause-kept g c = grind (arith, common_steps, returned, no_other, open_other)

pub returns-in_err-size-clause-kept : goal.returns-in_err-size-clause-kept
returns-in_err-size-clause-kept g c = grind (arith, common_steps, returned)

pub returns-clause-kept : goal.returns-clause-kept
returns-clause-kept g c = λ told fed read. kept_later c.compare_rest.result fed _ _ c.compare_rest.ensures.later
