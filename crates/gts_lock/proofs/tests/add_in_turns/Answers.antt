use Rattle.gts_lock.proofs.Cited.{rules, ◌≡◌, [], ◌∷◌, sym, ap, ◌∙◌, get_elem?}
use Rattle.gts_lock.specs.History.{entries_under}
use Rattle.gts_lock.proofs.JoiningLemmas.{joined_one}
use Rattle.gts_lock.proofs.tests.add_in_turns.Goals as goal

pub close-requires-clause-joined : goal.close-requires-clause-joined
close-requires-clause-joined g c = joined_one c.join-first.result c.add-other.result (search rules) (search rules) (search rules)

pub returns-clause-other : goal.returns-clause-other
returns-clause-other g c =
    let is : c.join-first.result.joined ≡ (1, c.add-other.result.own) ∷ [] = search rules in
    let own : c.add-other.result.own ≡ 6 ∷ [] = search rules in
    let seen : c.close.result.1.seen ≡ c.join-first.result.seen = search rules in
    ap (entries_under 1) seen ∙ (sym (c.close.ensures.accounts.1 0 (1, c.add-other.result.own) (ap (λ (l : _). get_elem? l 0) is)) ∙ own)
