use Rattle.gts_lock.proofs.Cited.{◌≡◌, sym, ◌∙◌, ap, map, subst, length, ◌++◌}
use Rattle.gts_lock.proofs.JoiningLemmas.{in_middle, nothing_left, joined_in_order}
use Rattle.gts_lock.proofs.counting.join_all.Goals as goal

pub join-first-requires-clause-hall : goal.join-first-requires-clause-hall
join-first-requires-clause-hall c =
    let i = c.loop-other.invariant in
    let split = subst (λ (l : _). c.loop-other.yielded ++ l ≡ c.args.others.items) c.in-Some.ensures.steps.0 i.3 in
    (i.0.0, (c.requires.others (length c.loop-other.yielded) c.in-Some.other (in_middle c.loop-other.yielded c.in-Some.other _ c.args.others.items split)).0)

pub returns-clause-all : goal.returns-clause-all
returns-clause-all c =
    let i = c.loop-other.invariant in
    let rest = c.loop-other.other-iterator.rest in
    let whole : c.loop-other.yielded ≡ c.args.others.items = nothing_left c.loop-other.yielded rest.items c.args.others.items i.3 (sym rest.ok.0 ∙ c.in-None.ensures.steps.0) in
    joined_in_order c.loop-other.first c.args.others.items (i.2 ∙ ap (map (λ q. (q.name, q.own))) whole) (i.1 ∙ c.requires.count) (λ k q e. (c.requires.others k q e).1)
