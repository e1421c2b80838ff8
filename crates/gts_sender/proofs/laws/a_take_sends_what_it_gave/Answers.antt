use Rattle.gts_sender.proofs.DrawLemmas.{whole, broken, none, given, failed}
use Rattle.gts_sender.proofs.laws.a_take_sends_what_it_gave.Goals as goal

pub returns-clause-whole : goal.returns-clause-whole
returns-clause-whole c = whole

pub returns-clause-broken : goal.returns-clause-broken
returns-clause-broken c = broken

pub returns-clause-none : goal.returns-clause-none
returns-clause-none c = none

pub returns-clause-given : goal.returns-clause-given
returns-clause-given c = given

pub returns-clause-failed : goal.returns-clause-failed
returns-clause-failed c = failed
