use Rattle.gts_standby.proofs.FirstLemmas.{breaks_opened, says_feed, says_opened, second_quiet}
use Rattle.gts_standby.proofs.shipping.ship.Goals as goal
use Rattle.gts_standby.proofs.Cited.{common_steps, arith}

pub returns-clause-said : goal.returns-clause-said
returns-clause-said g c = grind (arith, common_steps, says_opened, second_quiet, says_feed)

pub returns-clause-fault : goal.returns-clause-fault
returns-clause-fault g c = λ observed.
    let d = c.args.directory.now in
    let old = g.P.Station.calls c.args.station.now in
    let now = g.P.Station.calls c.open_first.new.station in
    let new = g.P.Station.calls c.say_feed.new.station in
    let h = c.in_ok-journal.ensures.opened observed in
    breaks_opened c.say_feed.result d old now new _ (second_quiet d old now _ _ h) (says_feed c.say_feed.result d old now new _ _ h (c.say_feed.ensures.said observed))
