use Rattle.gts_event.proofs.WindowLemmas.{recent_more, recent_next, recent_all}
use Rattle.gts_event.proofs.laws.the_window_goes_on.Goals as goal

pub returns-clause-recent : goal.returns-clause-recent
returns-clause-recent c = λ d s b new more. recent_more d s b new more.1 more.2

pub returns-clause-whole : goal.returns-clause-whole
returns-clause-whole c = λ d s b new one has more. recent_next d s b new one has more.0 more.1 more.2

pub returns-clause-positions : goal.returns-clause-positions
returns-clause-positions c = λ d s b new one has more. recent_all d s b new one has more.0 more.1 more.2
