use Rattle.gts_checkpoint.proofs.Cited.{refl, subst, OnlyOn, Writes}
use Rattle.gts_checkpoint.specs.SealingWriter as writers
use Rattle.gts_checkpoint.proofs.AloneLemmas.{one_on}
use Rattle.gts_checkpoint.proofs.writer.SealingWriter.flush.Goals as goal

pub returns-in_err-write_at-clause-alone : goal.returns-in_err-write_at-clause-alone
returns-in_err-write_at-clause-alone g c = λ observed.
    let old = g.P.Station.calls c.args.station.now in
    let new = g.P.Station.calls c.write_at.new.self in
    let R : writers.SealingWriter → Type 0 = λ p. OnlyOn p.file old new in
    subst R c.self.view_is (one_on c.self.inside.file (Writes c.self.inside.file c.self.inside.place _) c.write_at.result old new refl (c.write_at.ensures.told observed))

pub returns-clause-alone : goal.returns-clause-alone
returns-clause-alone g c = λ observed.
    let old = g.P.Station.calls c.args.station.now in
    let new = g.P.Station.calls c.write_at.new.self in
    let R : writers.SealingWriter → Type 0 = λ p. OnlyOn p.file old new in
    subst R c.self.view_is (one_on c.self.inside.file (Writes c.self.inside.file c.self.inside.place _) c.write_at.result old new refl (c.write_at.ensures.told observed))
