use Rattle.gts_event.proofs.RoutedLemmas.{keeps_all}
use Rattle.gts_event.proofs.laws.what_was_routed_stays.Goals as goal

pub returns : goal.returns
returns c = λ d s entries e p lt. (keeps_all d s entries).circuits e p lt
