use Rattle.gts_traits.specs.Station.{seen}
use Rattle.gts_app.proofs.OpeningLemmas.{journal}
use Rattle.gts_app.proofs.opening.open_journal.Goals as goal

pub returns-in-Ok-clause-opens : goal.returns-in-Ok-clause-opens
returns-in-Ok-clause-opens g c = λ od nd read.
    let e = c.in-Ok.engine in
    let opened = c.in-Ok.ensures.opened in
    journal g.S.Source g.P.Station c.args.directory od nd c.args.station e
    (record { ordered = c.states_are_ordered.ensures.start; once = c.each_bulletin_is_routed_once.ensures.start; few = c.no_circuit_is_owed_more_than_may_be.ensures.start })
    read opened.directory opened.reads opened.synced opened.begins opened.whole opened.sound
    (λ told n is. (
      c.an_opened_engine_begins_with_what_the_files_open_to.ensures.sound c.args.directory (seen (g.P.Station.calls c.args.station)) e n (opened.reads told) is,
      c.an_opened_engine_begins_with_what_the_files_open_to.ensures.holds c.args.directory (seen (g.P.Station.calls c.args.station)) e n (opened.reads told) is,
    ))
    c.in-Ok.ensures.cause.0 c.in-Ok.ensures.cause.1 opened.settled
