-- The rule, for two views at once.
use Rattle.gts_lock.proofs.Cited.{◌≡◌, ℕ, List, sym, ap, ◌∙◌, subst, inr, ⊎_elim, Option, some, get_elem?, Common, FitsStage, HasTicket, Holding, InTurn, JoinedNamesDiffer, Live, NamesDiffer, OneHolds, Place, Stage, State, TicketsDiffer, View, Waiting, joined_as, sits}
use Rattle.gts_lock.proofs.ViewsLemmas.{one_seat, not_both}

abbrev rank_of : Place → ℕ
rank_of (sits i) = i
rank_of (joined_as k) = k

has_live : (st : Stage) (t : ℕ) → HasTicket st t → Live st
has_live st t h = ⊎_elim (λ e. subst Live (sym e) tt) (λ e. subst Live (sym e) tt) h

module _ {T E : Type 0} (stands : T → List E → Type 0) where
  drawn_by : (c : Common E) (i t : ℕ) (seen : List (ℕ × E)) (st : Stage) → HasTicket st t → FitsStage c i seen st → c.drawer t ≡ i
  drawn_by c i t seen st h f = ⊎_elim
      (λ e. let g : FitsStage c i seen (Waiting t) = subst (FitsStage c i seen) e f in g.2)
      (λ e. let g : FitsStage c i seen (Holding t) = subst (FitsStage c i seen) e f in g.2)
      h

  pub tickets_differ : (s : State (Option T) (View E)) → InTurn stands s → TicketsDiffer s.views
  tickets_differ s r i j v w t at there h k =
      sym (drawn_by r.common i t v.seen v.stage h (r.each i v at (has_live v.stage t h)).turn) ∙ drawn_by r.common j t w.seen w.stage k (r.each j w there (has_live w.stage t k)).turn

  holds_serving : (s : State (Option T) (View E)) (r : InTurn stands s) (i : ℕ) (v : View E) (t : ℕ) → get_elem? s.views i ≡ some v → v.stage ≡ Holding t → t ≡ r.common.serving
  holds_serving s r i v t at e = let g : FitsStage r.common i v.seen (Holding t) = subst (FitsStage r.common i v.seen) e (r.each i v at (subst Live (sym e) tt)).turn in g.0

  pub one_holds : (s : State (Option T) (View E)) → InTurn stands s → OneHolds s.views
  one_holds s r i j v w t u at there h k = tickets_differ s r i j v w t at there (inr h) (inr (k ∙ ap Holding (holds_serving s r j w u there k ∙ sym (holds_serving s r i v t at h))))

  pub names_differ : (s : State (Option T) (View E)) → InTurn stands s → NamesDiffer s.views
  names_differ s r i j v w at there live live' e = one_seat (r.common.place v.name) i j (r.each i v at live).named (ap r.common.place e ∙ (r.each j w there live').named)

  pub joined_names_differ : (s : State (Option T) (View E)) (r : InTurn stands s) → JoinedNamesDiffer s.views r.common.joined
  joined_names_differ s r = (
    (λ j k x y at there e. ap rank_of (sym (r.each_joined j x at).named ∙ (ap r.common.place e ∙ (r.each_joined k y there).named))),
    (λ i k v x at live there e. not_both (r.common.place v.name) i k (r.each i v at live).named (ap r.common.place e ∙ (r.each_joined k x there).named)),
  )
