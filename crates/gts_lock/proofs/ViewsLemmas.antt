-- Lemmas on the views of all passes.
use Rattle.gts_lock.proofs.Cited.{◌≡◌, ◌≢◌, ℕ, zero, suc, ◌+◌, List, [], ◌∷◌, ◌++◌, set, refl, sym, ap, ◌∙◌, subst, ⊎_elim, arith, Some, some, some-injective, some-ne-none, dite, ℕ_discrete, get_elem?, at_set, set_else, at_longer, Holding, Idle, IsNamed, IsRestingAt, Live, NoneHolds, Place, SomeHolds, Spent, Stage, TableId, View, Waiting, hall_of, joined_as, sits, tickets, tickets_of}
use Rattle.gts_lock.proofs.HistoryLemmas.{set_there, at_push}

abbrev pub ticket_or : ℕ → Stage → ℕ
ticket_or d (Waiting t) = t
ticket_or d (Holding t) = t
ticket_or d _ = d

pub holds_not_idle : (st : Stage) (t : ℕ) → st ≡ Idle → st ≢ Holding t
holds_not_idle st t e h = let p : Idle ≡ Holding t = sym e ∙ h in cc

pub holds_not_waiting : (st : Stage) (t u : ℕ) → st ≡ Waiting u → st ≢ Holding t
holds_not_waiting st t u e h = let p : Waiting u ≡ Holding t = sym e ∙ h in cc

abbrev pub seat_of : Place → ℕ
seat_of (sits i) = i
seat_of (joined_as k) = k

-- one name can't be used in two places
pub one_seat : (p : Place) (i j : ℕ) → p ≡ sits i → p ≡ sits j → i ≡ j
one_seat p i j e f = ap seat_of (sym e ∙ f)

pub not_both : (p : Place) (i k : ℕ) → p ≡ sits i → p ≡ joined_as k → ⊥
not_both p i k e f = let q : sits i ≡ joined_as k = sym e ∙ f in cc

module _ {E : Type 0} where
  pub tickets_set : (vs : List (View E)) (i : ℕ) (v w : View E) → get_elem? vs i ≡ some v → tickets_of (set vs i w) + tickets v.stage ≡ tickets_of vs + tickets w.stage
  tickets_set [] i v w e = absurd (some-ne-none v (sym e))
  tickets_set (x ∷ xs) zero v w e = let s : tickets x.stage ≡ tickets v.stage = ap (λ (y : View E). tickets y.stage) (some-injective x v e) in omega arith
  tickets_set (x ∷ xs) (suc i) v w e = let s = tickets_set xs i v w e in omega arith

  pub tickets_push : (vs : List (View E)) (w : View E) → tickets_of (vs ++ w ∷ []) ≡ tickets_of vs + tickets w.stage
  tickets_push [] w = omega arith
  tickets_push (x ∷ xs) w = let s = tickets_push xs w in omega arith

  pub tickets_none : (vs : List (View E)) → ((i : ℕ) (v : View E) → get_elem? vs i ≡ some v → tickets v.stage ≡ 0) → tickets_of vs ≡ 0
  tickets_none [] h = refl
  tickets_none (x ∷ xs) h = let a = h 0 x refl in let b = tickets_none xs (λ i v e. h (suc i) v e) in omega arith

  pub each_set : (P : ℕ → View E → Type 0) (vs : List (View E)) (id : ℕ) (w : View E) → (Live w.stage → P id w) → ((j : ℕ) (u : View E) → j ≢ id → get_elem? vs j ≡ some u → Live u.stage → P j u)
      → (j : ℕ) (u : View E) → get_elem? (set vs id w) j ≡ some u → Live u.stage → P j u
  each_set P vs id w mine others j u e =
      ⊎_elim (λ (t : (j ≡ id) × (w ≡ u)). subst (λ (x : ℕ × View E). Live x.1.stage → P x.0 x.1) (λ i. (sym t.0 i, t.1 i)) mine)
      (λ (t : (j ≢ id) × (get_elem? vs j ≡ some u)). others j u t.0 t.1)
      (at_set vs id j w u e)

  pub named_set : (vs : List (View E)) (id : ℕ) (v w : View E) (n : ℕ) → get_elem? vs id ≡ some v → Live w.stage → w.name ≡ v.name → IsNamed vs n → IsNamed (set vs id w) n
  named_set vs id v w n at live same x = dite (ℕ_discrete x.0 id)
      (λ e. let is : v ≡ x.1 = some-injective v x.1 (sym at ∙ (ap (get_elem? vs) (sym e) ∙ x.2)) in (id, w, set_there vs id w v at, live, same ∙ (ap (λ (y : View E). y.name) is ∙ x.4)))
      (λ other. (x.0, x.1, set_else vs id x.0 w other ∙ x.2, x.3, x.4))

  pub none_set : (vs : List (View E)) (id : ℕ) (v w : View E) → get_elem? vs id ≡ some v → ((t : ℕ) → v.stage ≢ Holding t) → NoneHolds (set vs id w) → NoneHolds vs
  none_set vs id v w at not nobody j u t e = dite (ℕ_discrete j id)
      (λ is. let same : v ≡ u = some-injective v u (sym at ∙ (ap (get_elem? vs) (sym is) ∙ e)) in subst (λ (y : View E). y.stage ≢ Holding t) same (not t))
      (λ other. nobody j u t (set_else vs id j w other ∙ e))

  pub some_set : (vs : List (View E)) (id : ℕ) (w : View E) → ((t : ℕ) → w.stage ≢ Holding t) → SomeHolds (set vs id w) → SomeHolds vs
  some_set vs id w not x = ⊎_elim
      (λ (t : (x.0 ≡ id) × (w ≡ x.1)). absurd (not x.2 (ap (λ (y : View E). y.stage) t.1 ∙ x.4)))
      (λ (t : (x.0 ≢ id) × (get_elem? vs x.0 ≡ some x.1)). (x.0, x.1, x.2, t.1, x.4))
      (at_set vs id x.0 w x.1 x.3)

  pub none_push : (vs : List (View E)) (w : View E) → NoneHolds (vs ++ w ∷ []) → NoneHolds vs
  none_push vs w nobody j u t e = nobody j u t (at_longer vs (w ∷ []) j u e)

  pub some_push : (vs : List (View E)) (w : View E) → ((t : ℕ) → w.stage ≢ Holding t) → SomeHolds (vs ++ w ∷ []) → SomeHolds vs
  some_push vs w not x = ⊎_elim (λ e. (x.0, x.1, x.2, e, x.4)) (λ t. absurd (not x.2 (ap (λ (y : View E). y.stage) t.1 ∙ x.4))) (at_push vs w x.1 x.0 x.3)

  pub named_push : (vs : List (View E)) (w : View E) (n : ℕ) → IsNamed vs n → IsNamed (vs ++ w ∷ []) n
  named_push vs w n x = (x.0, x.1, at_longer vs (w ∷ []) x.0 x.1 x.2, x.3, x.4)

-- a pass of an open hall is idle
pub resting_idle : (st : Stage) (hall other : TableId) → IsRestingAt st → hall_of st hall ≡ Some other → st ≡ Idle
resting_idle Idle hall other f e = refl
resting_idle (Waiting t) hall other f e = absurd f
resting_idle (Holding t) hall other f e = absurd f
resting_idle Spent hall other f e = absurd cc
