use Rattle.gts_circuit_tests.specs.Cited.{Caller, goes_on, seen}
use Rattle.gts_circuit_tests.proofs.serve.open_and_run.Goals as goal

pub run-requires-clause-stands : goal.run-requires-clause-stands
run-requires-clause-stands g c =
    let e = c.in-Ok.engine in
    let d = c.args.directory in
    let before = g.P.Station.calls c.args.station in
    let opened = c.in-Ok.ensures.opened in
    let law = c.an_opened_engine_begins_with_what_the_files_open_to.ensures in
    let read = opened.reads c.requires.observed in
    let there = law.there d (seen before) e read in
    λ lifetimes outlives. c.an_opened_engine_stands_for_no_entry.ensures d before there.0 e (record {
      directory = opened.directory;
      synced = opened.synced c.requires.observed;
      need = there.1;
      keeps = opened.begins Caller there.0 (law.holds d (seen before) e there.0 read there.1);
    }) (goes_on c.args.connections)
