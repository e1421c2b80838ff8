use Rattle.gts_lock.proofs.Cited.{sym, subst}
use Rattle.gts_lock.specs.Passes.{NamesAreJoined}
use Rattle.gts_lock.proofs.counting.close_all.Goals as goal

pub returns-clause-names : goal.returns-clause-names
returns-clause-names c = subst (λ (p : _). NamesAreJoined p p.seen) (sym c.close.ensures.pass) c.close.ensures.names
