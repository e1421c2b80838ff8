use Rattle.std.proofs.Common.{refl, inr}
use Rattle.gts_message.proofs.SplitLemmas.{five_within_limit, split_past_limit}
use Rattle.gts_message.proofs.laws.body_limit.Goals as goal

pub returns-clause-accepted : goal.returns-clause-accepted
returns-clause-accepted c = five_within_limit

pub returns-clause-refused : goal.returns-clause-refused
returns-clause-refused c n gap body text h small is_gap is past = split_past_limit 5 n gap body h text (inr refl) small is_gap is past
