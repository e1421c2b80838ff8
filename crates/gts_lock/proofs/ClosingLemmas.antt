-- What is found once a hall is closed.
use Rattle.gts_lock.proofs.Cited.{◌≡◌, ◌≢◌, ◌⊎◌, ℕ, ◌<◌, ◌≤◌, List, length, true, refl, sym, ap, ◌∙◌, subst, inl, inr, ⊎_elim, arith, Some, None, Option, same_Some, some, some-injective, dite, ℕ_discrete, get_elem?, EndsWith, Final, Holding, Idle, InTurn, IsAmong, Live, MOST_TURNS, NoneHolds, Seen, Spent, Stage, State, View, Waiting, entries, entries_under, tickets, tickets_of}
use Rattle.gts_lock.proofs.HistoryLemmas.{last_there, starts_empty}
use Rattle.gts_lock.proofs.ViewsLemmas.{holds_not_idle, not_both, tickets_none}
use Rattle.gts_lock.proofs.PartingLemmas.{seats_differ}

-- what is found once a hall is closed
pub record Closing {T E : Type 0} (stands : T → List E → Type 0) (v : View E) (xs : List (Option T)) : Type 0 where
  pub value : T
  pub there : get_elem? xs 0 ≡ some (Some value)
  pub told : stands value (entries v.seen)
  pub own : v.own ≡ entries_under v.name v.seen
  pub joined : (k : ℕ) (y : ℕ × List E) → get_elem? v.joined k ≡ some y → y.1 ≡ entries_under y.0 v.seen
  pub names : (k : ℕ) (x : ℕ × E) → get_elem? v.seen k ≡ some x → (x.0 ≡ 0) ⊎ IsAmong v.joined x.0
  pub full : v.full ≡ true → length v.seen ≡ MOST_TURNS
  pub few : length v.seen ≤ MOST_TURNS

no_tickets : (st : Stage) → (Live st → tickets st ≡ 0) → tickets st ≡ 0
no_tickets (Waiting t) f = f tt
no_tickets (Holding t) f = f tt
no_tickets _ f = refl

module _ {T E : Type 0} (stands : T → List E → Type 0) where
  -- where all are joined, no other view is left
  only_one : (s : State (Option T) (View E)) (r : InTurn stands s) (id : ℕ) (v : View E) → get_elem? s.views id ≡ some v → v.name ≡ 0 → v.stage ≡ Idle
      → ((name : ℕ) → 0 < name → name ≤ v.parted → IsAmong v.joined name) → (j : ℕ) (u : View E) → get_elem? s.views j ≡ some u → Live u.stage → v ≡ u
  only_one s r id v at zero_name idle all j u e alive = dite (ℕ_discrete j id)
      (λ is. some-injective v u (sym at ∙ (ap (get_elem? s.views) (sym is) ∙ e)))
      (λ apart.
      let c = r.common in let f = r.each id v at (subst Live (sym idle) tt) in let g = r.each j u e alive in let same = f.first zero_name in
      let not : u.name ≢ 0 = λ z. seats_differ stands c id j v u f g apart (z ∙ sym zero_name) in let l = g.within in let p = same.0 in
      let a = all u.name (omega arith) (omega arith) in
      absurd (not_both (c.place u.name) j a.0 g.named (r.each_joined a.0 (u.name, a.1) (ap (λ (l : List (ℕ × List E)). get_elem? l a.0) (sym same.1) ∙ a.2)).named))

  pub closes : (id : ℕ) (v : View E) (ws : List ℕ) (xs : List (Option T)) → Final (Seen (InTurn stands) id v) ws xs → v.name ≡ 0 → v.stage ≡ Idle
      → ((name : ℕ) → 0 < name → name ≤ v.parted → IsAmong v.joined name) → Closing stands v xs
  closes id v ws xs final zero_name idle all =
      let s = final.0 in let r = final.1.0 in let at = final.1.1 in let c = r.common in let f = r.each id v at (subst Live (sym idle) tt) in
      let only = only_one s r id v at zero_name idle all in
      let nobody : NoneHolds s.views = λ j u t e h. holds_not_idle v.stage t idle (ap (λ (y : View E). y.stage) (only j u e (subst Live (sym h) tt)) ∙ h) in
      let none_left : tickets_of s.views ≡ 0 = tickets_none s.views (λ j u e. no_tickets u.stage (λ alive. ap (λ (y : View E). tickets y.stage) (sym (only j u e alive)) ∙ ap tickets idle)) in
      let home = r.at_home nobody in let b = r.counted in let d = r.served in
      let whole : v.seen ≡ c.history = ⊎_elim
      (λ empty. starts_empty v.seen c.history empty f.seen)
      (λ (last : (x : ℕ × E) × EndsWith c.history x). f.latest last.0 last.1 (⊎_elim
      (λ n. inl (ap (λ (y : View E). y.name) (only n.0 n.1 n.2 n.3) ∙ n.4))
      (λ a. inr (a.0, a.1, ap (λ (l : List (ℕ × List E)). get_elem? l a.0) (f.first zero_name).1 ∙ a.2))
      (r.named last.1.0 last.0 last.1.2)))
      (last_there c.history) in record {
        value = home.0;
        there = final.4 0 (Some home.0) (ap (λ (hs : List _). get_elem? hs 0) home.1);
        told = subst (λ (h : List (ℕ × E)). stands home.0 (entries h)) (sym whole) home.2;
        own = f.own ∙ ap (entries_under v.name) (sym whole);
        joined = λ k y e. (r.each_joined k y (ap (λ (l : List (ℕ × List E)). get_elem? l k) (sym (f.first zero_name).1) ∙ e)).own ∙ ap (entries_under y.0) (sym whole);
        names = λ k x e. ⊎_elim
            (λ n. inl (sym n.4 ∙ (sym (ap (λ (y : View E). y.name) (only n.0 n.1 n.2 n.3)) ∙ zero_name)))
            (λ a. inr (a.0, a.1, ap (λ (l : List (ℕ × List E)). get_elem? l a.0) (f.first zero_name).1 ∙ a.2))
            (r.named k x (ap (λ (l : List (ℕ × E)). get_elem? l k) (sym whole) ∙ e));
        full = λ z. let n = f.full z in let l = ap length whole in omega arith;
        few = omega (arith, r.low, r.high, d, ap length whole);
      }

  -- the same, at a seat whose view is an equal one
  pub closes_as : (id : ℕ) (u v : View E) (ws : List ℕ) (xs : List (Option T)) → u ≡ v → Final (Seen (InTurn stands) id u) ws xs → v.name ≡ 0 → v.stage ≡ Idle
      → ((name : ℕ) → 0 < name → name ≤ v.parted → IsAmong v.joined name) → Closing stands v xs
  closes_as id u v ws xs same final = closes id v ws xs (subst (λ (w : View E). Final (Seen (InTurn stands) id w) ws xs) same final)

  -- what was in the slot is the value
  pub closing_told : (v : View E) (xs : List (Option T)) (o : Option T) (x : T) → Closing stands v xs → get_elem? xs 0 ≡ some o → o ≡ Some x → stands x (entries v.seen)
  closing_told v xs o x closing e is = subst (λ (y : T). stands y (entries v.seen)) (same_Some closing.value x (some-injective (Some closing.value) (Some x) (sym closing.there ∙ (e ∙ ap some is)))) closing.told

  pub closing_full : (v : View E) (xs : List (Option T)) (o : Option T) → Closing stands v xs → get_elem? xs 0 ≡ some o → o ≡ None → ⊥
  closing_full v xs o closing e is = let p : Some closing.value ≡ None = some-injective (Some closing.value) None (sym closing.there ∙ (e ∙ ap some is)) in cc
