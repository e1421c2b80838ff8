use Rattle.gts_standby.proofs.GatherLemmas.{still_brings}
use Rattle.gts_standby.proofs.gathering.Gathering.make_ready.Goals as goal

pub returns-then-tells_next-clause-moments : goal.returns-then-tells_next-clause-moments
returns-then-tells_next-clause-moments g c = λ tell. still_brings g.P.Station.observed tell c.args.directory.now (g.P.Station.calls c.args.station.now) c.args.self.now
