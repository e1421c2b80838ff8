use Rattle.gts_lock.proofs.Cited.{rules, ◌≡◌, [], ◌∷◌, sym, ap, ◌∙◌, subst, get_elem?, IsRun, entries_under}
use Rattle.gts_lock.proofs.JoiningLemmas.{joined_one}
use Rattle.gts_lock.proofs.tests.add_in_threads.Goals as goal

pub close-requires-clause-joined : goal.close-requires-clause-joined
close-requires-clause-joined g c = joined_one c.join-first-2.result c.join-first.result.1 (search rules) (search rules) (search rules)

pub returns-clause-other : goal.returns-clause-other
returns-clause-other g c =
    let is : c.join-first-2.result.joined ≡ (1, c.join-first.result.1.own) ∷ [] = search rules in
    let seen : c.close.result.1.seen ≡ c.join-first-2.result.seen = search rules in
    let own : c.join-first.result.1.own ≡ entries_under 1 c.close.result.1.seen = c.close.ensures.accounts.1 0 (1, c.join-first.result.1.own) (ap (λ (l : _). get_elem? l 0) is) ∙ ap (entries_under 1) (sym seen) in
    subst (λ (l : _). IsRun l 1000 100) own c.join-first.ensures.second.1
