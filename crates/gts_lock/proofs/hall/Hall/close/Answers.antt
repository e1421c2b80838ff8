use Rattle.gts_lock.proofs.Cited.{◌≡◌, ◌≤◌, ◌∙◌, ap, sym, subst, arith, length, true, Accounts, MOST_TURNS, NamesAreJoined, entries, common_steps}
use Rattle.gts_lock.specs.Cited.{AllJoined}
use Rattle.gts_lock.proofs.PartingLemmas.{copies}
use Rattle.gts_lock.proofs.ClosingLemmas.{closes_as, closing_told, closing_full}
use Rattle.gts_lock.proofs.ViewsLemmas.{resting_idle}
use Rattle.gts_lock.proofs.hall.Hall.close.Goals as goal

pub split_seat-copy-requires : goal.split_seat-copy-requires
split_seat-copy-requires g c = grind (arith, common_steps, copies)

pub unreachable-requires : goal.unreachable-requires
unreachable-requires g c =
    let stands = g.T.HasHistory.stands in
    let closing = closes_as stands _ _ c.pass.inside.seat.me.0 _ _ (ap (λ (m : _). m.0) c.split_seat-copy.ensures.2) c.close_with-closed.ensures.values.2
    (ap (λ (p : _). p.name) c.pass.view_is ∙ c.requires.first)
    (resting_idle c.pass.inside.seat.me.0.stage c.pass.inside.seat.table_id _ c.pass.invariant.1 (ap (λ (p : _). p.hall) c.pass.view_is ∙ c.requires.hall))
    (subst AllJoined (sym c.pass.view_is) c.requires.joined) in
    closing_full stands _ _ _ closing c.take-slot.ensures.value c.in_default.is

pub returns-clause-value : goal.returns-clause-value
returns-clause-value g c =
    let stands = g.T.HasHistory.stands in
    let closing = closes_as stands _ _ c.pass.inside.seat.me.0 _ _ (ap (λ (m : _). m.0) c.split_seat-copy.ensures.2) c.close_with-closed.ensures.values.2
    (ap (λ (p : _). p.name) c.pass.view_is ∙ c.requires.first)
    (resting_idle c.pass.inside.seat.me.0.stage c.pass.inside.seat.table_id _ c.pass.invariant.1 (ap (λ (p : _). p.hall) c.pass.view_is ∙ c.requires.hall))
    (subst AllJoined (sym c.pass.view_is) c.requires.joined) in
    subst (λ (p : _). stands c.in-Some.value (entries p.seen)) c.pass.view_is (closing_told stands _ _ _ _ closing c.take-slot.ensures.value c.in-Some.is)

pub returns-clause-accounts : goal.returns-clause-accounts
returns-clause-accounts g c =
    let stands = g.T.HasHistory.stands in
    let closing = closes_as stands _ _ c.pass.inside.seat.me.0 _ _ (ap (λ (m : _). m.0) c.split_seat-copy.ensures.2) c.close_with-closed.ensures.values.2
    (ap (λ (p : _). p.name) c.pass.view_is ∙ c.requires.first)
    (resting_idle c.pass.inside.seat.me.0.stage c.pass.inside.seat.table_id _ c.pass.invariant.1 (ap (λ (p : _). p.hall) c.pass.view_is ∙ c.requires.hall))
    (subst AllJoined (sym c.pass.view_is) c.requires.joined) in
    subst (λ (p : _). Accounts p p.seen) c.pass.view_is (closing.own, closing.joined)

pub returns-clause-names : goal.returns-clause-names
returns-clause-names g c =
    let stands = g.T.HasHistory.stands in
    let closing = closes_as stands _ _ c.pass.inside.seat.me.0 _ _ (ap (λ (m : _). m.0) c.split_seat-copy.ensures.2) c.close_with-closed.ensures.values.2
    (ap (λ (p : _). p.name) c.pass.view_is ∙ c.requires.first)
    (resting_idle c.pass.inside.seat.me.0.stage c.pass.inside.seat.table_id _ c.pass.invariant.1 (ap (λ (p : _). p.hall) c.pass.view_is ∙ c.requires.hall))
    (subst AllJoined (sym c.pass.view_is) c.requires.joined) in
    subst (λ (p : _). NamesAreJoined p p.seen) c.pass.view_is closing.names

pub returns-clause-full : goal.returns-clause-full
returns-clause-full g c =
    let stands = g.T.HasHistory.stands in
    let closing = closes_as stands _ _ c.pass.inside.seat.me.0 _ _ (ap (λ (m : _). m.0) c.split_seat-copy.ensures.2) c.close_with-closed.ensures.values.2
    (ap (λ (p : _). p.name) c.pass.view_is ∙ c.requires.first)
    (resting_idle c.pass.inside.seat.me.0.stage c.pass.inside.seat.table_id _ c.pass.invariant.1 (ap (λ (p : _). p.hall) c.pass.view_is ∙ c.requires.hall))
    (subst AllJoined (sym c.pass.view_is) c.requires.joined) in
    subst (λ (p : _). p.full ≡ true → length p.seen ≡ MOST_TURNS) c.pass.view_is closing.full

pub returns-clause-few : goal.returns-clause-few
returns-clause-few g c =
    let stands = g.T.HasHistory.stands in
    let closing = closes_as stands _ _ c.pass.inside.seat.me.0 _ _ (ap (λ (m : _). m.0) c.split_seat-copy.ensures.2) c.close_with-closed.ensures.values.2
    (ap (λ (p : _). p.name) c.pass.view_is ∙ c.requires.first)
    (resting_idle c.pass.inside.seat.me.0.stage c.pass.inside.seat.table_id _ c.pass.invariant.1 (ap (λ (p : _). p.hall) c.pass.view_is ∙ c.requires.hall))
    (subst AllJoined (sym c.pass.view_is) c.requires.joined) in
    subst (λ (p : _). length p.seen ≤ MOST_TURNS) c.pass.view_is closing.few
