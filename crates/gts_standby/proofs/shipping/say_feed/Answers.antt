use Rattle.gts_standby.proofs.Cited.{ℕ, take, subst, SaysHere, seen, common_steps, arith}
use Rattle.gts_standby.proofs.ExitLemmas.{returned}
use Rattle.gts_standby.proofs.FirstLemmas.{first_later, said_feed, broken_feed}
use Rattle.gts_standby.proofs.shipping.say_feed.Goals as goal

pub say_checkpoint-requires-clause-first : goal.say_checkpoint-requires-clause-first
say_checkpoint-requires-clause-first g c = grind (arith, common_steps, first_later)

pub returns-clause-said : goal.returns-clause-said
returns-clause-said g c = λ observed.
    let d = c.args.directory.now in
    let old = g.P.Station.calls c.args.station.now in
    let mid = g.P.Station.calls c.say_part.new.station in
    let j = c.args.journal in
    let H : ℕ → Type 0 = λ k. SaysHere old mid (take 40 (seen old k)) in
    let header = subst H c.file.ensures.file (c.in_ok-say_part.ensures.told observed) in
    let first = c.in_ok-say_checkpoint.ensures.said observed in
    said_feed c.say_records.result d old mid (g.P.Station.calls c.say_checkpoint.new.station) (g.P.Station.calls c.say_records.new.station) j c.say_checkpoint.new.journal c.args.end header first
    (c.say_records.ensures.said observed d first.rest first.at)

pub returns-in_err-say_checkpoint-clause-said : goal.returns-in_err-say_checkpoint-clause-said
returns-in_err-say_checkpoint-clause-said g c = λ observed.
    let old = g.P.Station.calls c.args.station.now in
    let mid = g.P.Station.calls c.say_part.new.station in
    let H : ℕ → Type 0 = λ k. SaysHere old mid (take 40 (seen old k)) in
    let header = subst H c.file.ensures.file (c.in_ok-say_part.ensures.told observed) in
    let broke = c.in_err-say_checkpoint.ensures.said observed in
    rw (returned c.from_residual-in_err-say_checkpoint.result c.in_err-say_checkpoint.field-0.0 c.from_residual-in_err-say_checkpoint.ensures.1)
    (broke.0, broken_feed c.args.directory.now old mid (g.P.Station.calls c.say_checkpoint.new.station) c.args.journal header broke.1)
