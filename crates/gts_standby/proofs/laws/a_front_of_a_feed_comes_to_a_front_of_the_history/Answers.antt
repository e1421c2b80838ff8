use Rattle.gts_standby.proofs.HistoryLemmas.{front_leads}
use Rattle.gts_standby.proofs.laws.a_front_of_a_feed_comes_to_a_front_of_the_history.Goals as goal

pub returns : goal.returns
returns c = λ d own files s fed more part mark limit none h comes. front_leads d own files s h.used h.last fed more part mark limit none h.read h.plain h.is comes
