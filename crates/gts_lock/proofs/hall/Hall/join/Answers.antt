use Rattle.gts_lock.proofs.Cited.{rules, ◌∙◌, ap, subst, arith}
use Rattle.gts_lock.specs.History.{StartsWith}
use Rattle.gts_lock.proofs.PartingLemmas.{joins, seen_by_both}
use Rattle.gts_lock.proofs.StepsLemmas.{compares}
use Rattle.gts_lock.proofs.ViewsLemmas.{resting_idle}
use Rattle.gts_lock.proofs.hall.Hall.join.Goals as goal

pub join_seat-requires : goal.join_seat-requires
join_seat-requires g c = let two = c.self.invariant in (
  search rules,
  search rules,
  c.other.invariant.0,
  omega arith,
  joins g.T.HasHistory.stands _ _ _ _ (ap (λ (p : _). p.name) c.first.view_is ∙ c.requires.first)
      (resting_idle c.first.inside.seat.me.0.stage c.first.inside.seat.table_id _ c.first.invariant.1 (ap (λ (p : _). p.hall) c.first.view_is ∙ c.requires.hall.0))
      (resting_idle c.other.inside.seat.me.0.stage c.other.inside.seat.table_id _ c.other.invariant.1 (ap (λ (p : _). p.hall) c.other.view_is ∙ c.requires.hall.1)),
)

pub load-requires : goal.load-requires
load-requires g c = let two = c.self.invariant in (
  search rules,
  omega arith,
  compares g.T.HasHistory.stands _ _ _ (ap (λ (m : _). m.0.stage) c.join_seat.ensures.2 ∙ resting_idle c.first.inside.seat.me.0.stage c.first.inside.seat.table_id _ c.first.invariant.1 (ap (λ (p : _). p.hall) c.first.view_is ∙ c.requires.hall.0)),
)

pub returns-clause-first_seen : goal.returns-clause-first_seen
returns-clause-first_seen g c = subst (λ (p : _). StartsWith c.load.new.seat.me.0.seen p.seen) c.first.view_is (seen_by_both c.first.inside.seat.me.0 c.other.inside.seat.me.0 _ _ (ap (λ (m : _). m.0) c.join_seat.ensures.2) c.load.ensures.2.0 c.load.ensures.2.1).0

pub returns-clause-other_seen : goal.returns-clause-other_seen
returns-clause-other_seen g c = subst (λ (p : _). StartsWith c.load.new.seat.me.0.seen p.seen) c.other.view_is (seen_by_both c.first.inside.seat.me.0 c.other.inside.seat.me.0 _ _ (ap (λ (m : _). m.0) c.join_seat.ensures.2) c.load.ensures.2.0 c.load.ensures.2.1).1
