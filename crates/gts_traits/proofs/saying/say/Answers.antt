use Rattle.gts_traits.proofs.SayLemmas.{tells_try}
use Rattle.gts_traits.proofs.saying.say.Goals as goal

pub returns-clause-told : goal.returns-clause-told
returns-clause-told g c = λ t. tells_try c.say.result c.args.channel c.args.piece.now (g.P.Station.calls c.args.station.now) (g.P.Station.calls c.say.new.self) (c.say.ensures.told t)
