use Rattle.gts_standby.proofs.Cited.{sym, ◌∙◌, refl, arith, eqb-true, eqb-false, common_steps}
use Rattle.gts_standby.proofs.ReadLemmas.{batch_reads}
use Rattle.gts_standby.proofs.GatherLemmas.{block_by, brings_none, brings_all, still_brings}
use Rattle.gts_standby.proofs.gathering.Gathering.bring.Goals as goal

pub returns-then-is_empty-clause-brought : goal.returns-then-is_empty-clause-brought
returns-then-is_empty-clause-brought g c = λ s rs h.
    brings_none g.P.Station.observed c.args.directory.now s rs (g.P.Station.calls c.args.station.now) c.args.self.now h (eqb-true _ 1 (sym c.is_empty.ensures.value ∙ c.if-is_empty.true))

pub returns-then-is_empty-clause-moments : goal.returns-then-is_empty-clause-moments
returns-then-is_empty-clause-moments g c = λ tell. still_brings g.P.Station.observed tell c.args.directory.now (g.P.Station.calls c.args.station.now) c.args.self.now

pub append_batch-requires-clause-some : goal.append_batch-requires-clause-some
append_batch-requires-clause-some g c =
    let other = eqb-false _ 1 (sym c.is_empty.ensures.value ∙ c.if-is_empty.false) in
    block_by c.args.self.now.journal.seal c.requires.records c.args.self.now.batch c.requires.stands.next.gathers (omega (arith, c.is_empty.ensures.closed, other))

pub returns-in-Ok-clause-brought : goal.returns-in-Ok-clause-brought
returns-in-Ok-clause-brought g c = λ s rs h.
    brings_all g.P.Station.observed c.args.directory.now s rs (g.P.Station.calls c.args.station.now) (g.P.Station.calls c.append_batch.new.station) c.args.self.now
    (record { journal = c.append_batch.new.self; batch = c.append_batch.new.batch; seal = c.args.self.now.seal }) h c.in-Ok.ensures.place c.in-Ok.ensures.emptied refl
    (λ tell. record { text = c.in-Ok.ensures.added tell; stands = c.in-Ok.ensures.stands tell; place = c.in-Ok.ensures.place })

pub returns-in-Ok-clause-moments : goal.returns-in-Ok-clause-moments
returns-in-Ok-clause-moments g c = grind (arith, common_steps, batch_reads)

pub returns-in-Err-clause-moments : goal.returns-in-Err-clause-moments
returns-in-Err-clause-moments g c = grind (arith, common_steps, batch_reads)
