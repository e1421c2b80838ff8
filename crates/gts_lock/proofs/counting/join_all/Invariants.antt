use Rattle.gts_lock.proofs.Cited.{◌≡◌, ℕ, ◌++◌, map, IsOf}
use Rattle.gts_lock.specs.Cited.{Known}
use Rattle.gts_lock.proofs.counting.join_all.Given as goal

abbrev pub invariant-loop-other : goal.invariant-loop-other
invariant-loop-other l =
    IsOf l.hall 0 l.first × (l.first.parted ≡ l.initial.first.parted)
    × (l.first.joined ≡ map (λ (p : Known ℕ). (p.name, p.own)) l.yielded)
    × (l.yielded ++ l.other-iterator.rest.items ≡ l.fn.others.items)
