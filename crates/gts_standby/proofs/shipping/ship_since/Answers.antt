use Rattle.gts_standby.proofs.Cited.{rules, ◌≡◌, true, false, first_fault, seen, ship_fault, since_of, common_steps, arith}
use Rattle.gts_standby.proofs.ExitLemmas.{returned}
use Rattle.gts_standby.proofs.FirstLemmas.{at_opened, says_opened, breaks_opened, second_quiet, failed_quietly, not_started, quiet_start, no_fault_where}
use Rattle.gts_standby.proofs.SinceLemmas.{rest_since, rest_whole, looked_quietly, again_quietly, read_later}
use Rattle.gts_standby.proofs.shipping.ship_since.Goals as goal

pub returns-in_err-look_for-clause-fault : goal.returns-in_err-look_for-clause-fault
returns-in_err-look_for-clause-fault g c = grind (arith, common_steps, returned, failed_quietly, looked_quietly)

pub returns-then-branch-clause-said : goal.returns-then-branch-clause-said
returns-then-branch-clause-said g c = λ observed.
    let d = c.args.directory.now in
    let old = g.P.Station.calls c.args.station.now in
    let now = g.P.Station.calls c.open_first.new.station in
    let look = g.P.Station.calls c.look_for.new.station in
    let new = g.P.Station.calls c.say_records.new.station in
    let h = c.in_ok-journal.ensures.opened observed in
    let on : c.in_ok-look_for.field-0 ≡ true = search rules in
    says_opened c.say_records.result d old now now new _ _ _ h (second_quiet d old now _ _ h)
    (rest_since c.say_records.result d old now look new _ _ c.args.since.now _ _ h (c.in_ok-look_for.ensures.looks.told observed) on (c.in_ok-look_for.ensures.found observed) (c.say_records.ensures.said observed d))

pub returns-then-branch-clause-fault : goal.returns-then-branch-clause-fault
returns-then-branch-clause-fault g c = λ observed.
    let d = c.args.directory.now in
    let old = g.P.Station.calls c.args.station.now in
    let now = g.P.Station.calls c.open_first.new.station in
    let look = g.P.Station.calls c.look_for.new.station in
    let new = g.P.Station.calls c.say_records.new.station in
    let h = c.in_ok-journal.ensures.opened observed in
    let on : c.in_ok-look_for.field-0 ≡ true = search rules in
    breaks_opened c.say_records.result d old now new _ (second_quiet d old now _ _ h)
    (rest_since c.say_records.result d old now look new _ _ c.args.since.now _ _ h (c.in_ok-look_for.ensures.looks.told observed) on (c.in_ok-look_for.ensures.found observed) (c.say_records.ensures.said observed d))

pub returns-in_err-whole-clause-fault : goal.returns-in_err-whole-clause-fault
returns-in_err-whole-clause-fault g c = λ observed.
    let d = c.args.directory.now in
    let old = g.P.Station.calls c.args.station.now in
    let now = g.P.Station.calls c.open_first.new.station in
    let look = g.P.Station.calls c.look_for.new.station in
    let h = c.in_ok-journal.ensures.opened observed in
    let e = c.in_err-whole.field-0.0 in
    let told = c.in_ok-look_for.ensures.looks.told observed in
    let read = read_later d old now look _ _ h told in
    let quiet = quiet_start e (first_fault c.mark.result (seen look)) (c.in_err-whole.ensures.fault observed) (λ f is. no_fault_where d look _ c.mark.result f read c.mark.ensures is) in
    rw (returned c.from_residual-in_err-whole.result (ship_fault e) c.from_residual-in_err-whole.ensures.1)
    (not_started d old look (g.P.Station.calls c.start.new.station) (ship_fault e) (since_of d old c.args.since.now) (looked_quietly d old now look _ _ h told) (c.in_err-whole.ensures.told observed) quiet)

pub say_feed-requires-clause-first : goal.say_feed-requires-clause-first
say_feed-requires-clause-first g c = λ observed.
    let d = c.args.directory.now in
    let now = g.P.Station.calls c.open_first.new.station in
    let look = g.P.Station.calls c.look_for.new.station in
    let again = g.P.Station.calls c.start.new.station in
    let h = c.in_ok-journal.ensures.opened observed in
    let w = c.in_ok-whole.ensures in
    let read = read_later d (g.P.Station.calls c.args.station.now) now look _ _ h (c.in_ok-look_for.ensures.looks.told observed) in
    at_opened d look again c.in_ok-whole.whole h.state c.mark.result _ h.last (w.synced observed) read c.mark.ensures w.begins.0 w.version w.seal (w.stands observed) (w.fault observed) (w.checkpoint observed)

pub returns-clause-said : goal.returns-clause-said
returns-clause-said g c = λ observed.
    let d = c.args.directory.now in
    let old = g.P.Station.calls c.args.station.now in
    let now = g.P.Station.calls c.open_first.new.station in
    let look = g.P.Station.calls c.look_for.new.station in
    let again = g.P.Station.calls c.start.new.station in
    let new = g.P.Station.calls c.say_feed.new.station in
    let h = c.in_ok-journal.ensures.opened observed in
    let w = c.in_ok-whole.ensures in
    let told = c.in_ok-look_for.ensures.looks.told observed in
    let off : c.in_ok-look_for.field-0 ≡ false = search rules in
    says_opened c.say_feed.result d old now again new _ _ _ h (again_quietly d old now look again _ _ h told (w.synced observed))
    (rest_whole c.say_feed.result d old now look again new _ _ c.in_ok-whole.whole c.args.since.now _ _ h told off (c.in_ok-look_for.ensures.found observed) (w.synced observed) w.version (w.stands observed) (c.say_feed.ensures.said observed))

pub returns-clause-fault : goal.returns-clause-fault
returns-clause-fault g c = λ observed.
    let d = c.args.directory.now in
    let old = g.P.Station.calls c.args.station.now in
    let now = g.P.Station.calls c.open_first.new.station in
    let look = g.P.Station.calls c.look_for.new.station in
    let again = g.P.Station.calls c.start.new.station in
    let new = g.P.Station.calls c.say_feed.new.station in
    let h = c.in_ok-journal.ensures.opened observed in
    let w = c.in_ok-whole.ensures in
    let told = c.in_ok-look_for.ensures.looks.told observed in
    let off : c.in_ok-look_for.field-0 ≡ false = search rules in
    breaks_opened c.say_feed.result d old again new _ (again_quietly d old now look again _ _ h told (w.synced observed))
    (rest_whole c.say_feed.result d old now look again new _ _ c.in_ok-whole.whole c.args.since.now _ _ h told off (c.in_ok-look_for.ensures.found observed) (w.synced observed) w.version (w.stands observed) (c.say_feed.ensures.said observed))
