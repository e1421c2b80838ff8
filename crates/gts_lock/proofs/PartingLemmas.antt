-- A new hall meets the rule, and it is kept where a pass is split off or joined.
use Rattle.gts_lock.proofs.Cited.{◌≡◌, ◌≢◌, ◌⊎◌, ℕ, zero, suc, ◌+◌, ◌≤◌, List, [], ◌∷◌, ◌++◌, length, set, Bool, true, false, cond, ◌==◌, true≢false, refl, sym, ap, ◌∙◌, subst, inl, inr, ⊎_elim, arith, length-set, eq-eqb, ne_eqb, ◌||◌, Some, Option, some, some-injective, some-ne-none, dite, ℕ_discrete, get_elem?, Common, Fits, FitsJoined, FitsStage, Holding, Idle, InTurn, IsAmong, Joins, Live, Me, Place, Spent, Splits, Stage, StartsWith, State, View, Waiting, copy, joined_as, joining, longer, newcomer, opening, part, parting, sits, spent, tickets, set_else, set_again, at_last}
use Rattle.gts_lock.proofs.HistoryLemmas.{set_there, at_push, under_none, starts_same, starts_longer, starts_shorter, both_start, shorter_length, longer_first, longer_second, among_push, among_pushed}
use Rattle.gts_lock.proofs.ViewsLemmas.{holds_not_idle, one_seat, not_both, tickets_set, tickets_push, each_set, named_set, none_set, some_set, none_push, some_push, named_push}

module _ {T E : Type 0} (stands : T → List E → Type 0) where
  abbrev Rule : State (Option T) (View E) → Type 0
  Rule = InTurn stands

  abbrev St : Type 0
  St = State (Option T) (View E)

  abbrev parted_from : Common E → ℕ → Common E
  parted_from c seats = record c { parted = c.parted + 1; place = λ n. cond (n == c.parted + 1) (sits seats) (c.place n) }

  old_place : (c : Common E) (seats n : ℕ) (p : Place) → n ≤ c.parted → c.place n ≡ p → (parted_from c seats).place n ≡ p
  old_place c seats n p l e = (λ i. cond (ne_eqb n (c.parted + 1) (λ (z : n ≡ c.parted + 1). omega arith) i) (sits seats) (c.place n)) ∙ e

  -- each name in the history is one that was given
  name_within : (s : St) (r : Rule s) (k : ℕ) (x : ℕ × E) → get_elem? r.common.history k ≡ some x → x.0 ≤ r.common.parted
  name_within s r k x e = ⊎_elim
      (λ n. let l = (r.each n.0 n.1 n.2 n.3).within in let is = n.4 in omega arith)
      (λ a. (r.each_joined a.0 (x.0, a.1) a.2).within)
      (r.named k x e)

  fits_parted : (c : Common E) (seats id j : ℕ) (v u : View E) → Fits c id v → v.name ≡ 0 → j ≢ id → Fits c j u → Fits (parted_from c seats) j u
  fits_parted c seats id j v u f zero_name other g =
      let not : u.name ≢ 0 = λ z. other (sym (one_seat (c.place 0) id j (ap c.place (sym zero_name) ∙ f.named) (ap c.place (sym z) ∙ g.named))) in let l = g.within in record {
        named = old_place c seats u.name (sits j) g.within g.named;
        within = omega arith;
        seen = g.seen;
        other_seen = g.other_seen;
        own = g.own;
        latest = g.latest;
        first = λ z. absurd (not z);
        other = g.other;
        turn = same_stage u.stage g.turn;
        full = g.full;
      }
    where
      same_stage : (st : Stage) → FitsStage c j u.seen st → FitsStage (parted_from c seats) j u.seen st
      same_stage Idle t = tt
      same_stage (Waiting k) t = t
      same_stage (Holding k) t = t
      same_stage Spent t = tt

  pub splits : (id : ℕ) (v : View E) → v.name ≡ 0 → v.stage ≡ Idle → Splits Rule id v (parting v) (part v)
  splits id v zero_name idle s r at =
      let c = r.common in let vs = s.views in let c' : Common E = parted_from c (length vs) in let w : View E = parting v in let u : View E = part v in
      let live : Live v.stage = subst Live (sym idle) tt in let f = r.each id v at live in let now = (f.first zero_name).0 in let l = f.within in
      let new_name : v.parted + 1 ≡ c.parted + 1 = ap (λ (n : ℕ). n + 1) now in
      let not_there : (k : ℕ) (x : ℕ × E) → get_elem? c.history k ≡ some x → x.0 ≢ v.parted + 1 = λ k x e z. let b = name_within s r k x e in omega arith in
      let no_turn : (t : ℕ) → v.stage ≢ Holding t = λ t. holds_not_idle v.stage t idle in record {
        common = c';
        words = r.words;
        low = r.low;
        high = r.high;
        served = r.served;
        counted = let a = tickets_set vs id v w at in let b = r.counted in let d = tickets_push (set vs id w) u in omega arith;
        each = λ j x e alive. ⊎_elim
            (λ old. each_set (Fits c') vs id w (λ _. record {
              named = old_place c (length vs) v.name (sits id) f.within f.named;
              within = omega arith;
              seen = f.seen;
              other_seen = f.other_seen;
              own = f.own;
              latest = f.latest;
              first = λ z. (new_name, (f.first z).1);
              other = f.other;
              turn = subst (FitsStage c' id v.seen) (sym idle) tt;
              full = f.full;
            })
            (λ i y other e' l. fits_parted c (length vs) id i v y f zero_name other (r.each i y e' l)) j x old alive)
            (λ new. subst (λ (z : ℕ × View E). Fits c' z.0 z.1) (λ i. (sym (new.0 ∙ length-set vs id w) i, new.1 i)) record {
              named = λ i. cond (eq-eqb (v.parted + 1) (c.parted + 1) new_name i) (sits (length vs)) (c.place (v.parted + 1));
              within = omega arith;
              seen = f.seen;
              other_seen = (c.history, refl);
              own = sym (under_none (v.parted + 1) c.history not_there);
              latest = λ x last has. absurd (⊎_elim (λ z. not_there last.0 x last.2 (sym z)) (λ a. some_ne a) has);
              first = λ z. absurd (omega arith);
              other = λ _. refl;
              turn = tt;
              full = λ z. absurd (true≢false (sym z));
            })
            (at_push (set vs id w) u x j e);
        each_joined = λ k x e. let g = r.each_joined k x e in let b = g.within in record { named = old_place c (length vs) x.0 (joined_as k) g.within g.named; above = g.above; within = omega arith; own = g.own };
        named = λ k x e. ⊎_elim (λ n. inl (named_push (set vs id w) u x.0 (named_set vs id v w x.0 at live refl n))) inr (r.named k x e);
        first = named_push (set vs id w) u 0 (named_set vs id v w 0 at live refl r.first);
        at_home = λ nobody. r.at_home (none_set vs id v w at no_turn (none_push (set vs id w) u nobody));
        away = λ someone. r.away (some_set vs id w no_turn (some_push (set vs id w) u (λ t. holds_not_idle Idle t refl) someone));
      }
    where
      some_ne : {n : ℕ} → ¬ (IsAmong {E = E} [] n)
      some_ne a = some-ne-none _ (sym a.2)

  -- a copy of a view is spent from the start
  pub copies : (id : ℕ) (v : View E) → Splits Rule id v v (copy v)
  copies id v s r at = let vs = s.views in let u : View E = copy v in subst (λ (l : List (View E)). Rule record { words = s.words; homes = s.homes; views = l ++ u ∷ [] }) (sym (set_again vs id v at)) record {
    common = r.common;
    words = r.words;
    low = r.low;
    high = r.high;
    served = r.served;
    counted = let b = r.counted in let d = tickets_push vs u in omega arith;
    each = λ j x e alive. ⊎_elim (λ old. r.each j x old alive) (λ new. absurd (subst (λ (y : View E). Live y.stage → ⊥) new.1 (λ z. z) alive)) (at_push vs u x j e);
    each_joined = r.each_joined;
    named = λ k x e. ⊎_elim (λ n. inl (named_push vs u x.0 n)) inr (r.named k x e);
    first = named_push vs u 0 r.first;
    at_home = λ nobody. r.at_home (none_push vs u nobody);
    away = λ someone. r.away (some_push vs u (λ t z. spent_holds t z) someone);
  }
    where
      spent_holds : (t : ℕ) → Spent ≢ Holding t
      spent_holds t p = cc

  pub opens : (x : T) → stands x [] → Rule (opening (0 ∷ 0 ∷ []) (Some x ∷ []) newcomer)
  opens x told = record {
    common = record { history = []; serving = 0; next = 0; parted = 0; joined = []; place = λ _. sits 0; drawer = λ _. 0 };
    words = refl;
    low = omega arith;
    high = omega arith;
    served = refl;
    counted = refl;
    each = λ i v e _. one i v e;
    each_joined = λ k y e. absurd (some-ne-none y (sym e));
    named = λ k y e. absurd (some-ne-none y (sym e));
    first = (0, newcomer, refl, tt, refl);
    at_home = λ _. (x, refl, told);
    away = λ someone. absurd (no_holder someone.0 someone.1 someone.2 someone.3 someone.4);
  }
    where
      one : (i : ℕ) (v : View E) → get_elem? (newcomer {E = E} ∷ []) i ≡ some v → Fits record { history = []; serving = 0; next = 0; parted = 0; joined = []; place = λ _. sits 0; drawer = λ _. 0 } i v
      one zero v e = subst (λ (y : View E). Fits record { history = []; serving = 0; next = 0; parted = 0; joined = []; place = λ _. sits 0; drawer = λ _. 0 } 0 y) (some-injective newcomer v e) record {
        named = refl;
        within = omega arith;
        seen = starts_same [];
        other_seen = starts_same [];
        own = refl;
        latest = λ _ _ _. refl;
        first = λ _. (refl, refl);
        other = λ _. refl;
        turn = tt;
        full = λ z. absurd (true≢false (sym z));
      }
      one (suc i) v e = absurd (some-ne-none v (sym e))

      no_holder : (i : ℕ) (v : View E) (t : ℕ) → get_elem? (newcomer {E = E} ∷ []) i ≡ some v → v.stage ≢ Holding t
      no_holder zero v t e = subst (λ (y : View E). y.stage ≢ Holding t) (some-injective newcomer v e) (holds_not_idle Idle t refl)
      no_holder (suc i) v t e = absurd (some-ne-none v (sym e))

-- what a look tells once two views are joined
pub seen_by_both : {T E : Type 0} (v w : View E) (m n : Me (Option T) (View E)) → m.0 ≡ joining v w → n ≡ m → (length m.0.other_seen ≤ length m.0.seen → StartsWith m.0.seen m.0.other_seen)
    → StartsWith n.0.seen v.seen × StartsWith n.0.seen w.seen
seen_by_both {E = E} v w m n is same told =
    subst (λ (u : View E). StartsWith u.seen v.seen × StartsWith u.seen w.seen) (sym (ap (λ (x : Me (Option _) (View E)). x.0) same ∙ is))
    (both_start v.seen w.seen (subst (λ (u : View E). length u.other_seen ≤ length u.seen → StartsWith u.seen u.other_seen) is told (shorter_length v.seen w.seen)))

module _ {T E : Type 0} (stands : T → List E → Type 0) where
  abbrev united : Common E → ℕ → List E → Common E
  united c name own = record c { joined = c.joined ++ (name, own) ∷ []; place = λ n. cond (n == name) (joined_as (length c.joined)) (c.place n) }

  united_place : (c : Common E) (name n : ℕ) (own : List E) (p : Place) → n ≢ name → c.place n ≡ p → (united c name own).place n ≡ p
  united_place c name n own p other e = (λ i. cond (ne_eqb n name other i) (joined_as (length c.joined)) (c.place n)) ∙ e

  same_stage : (c : Common E) (name j : ℕ) (own : List E) (seen : List (ℕ × E)) (st : Stage) → FitsStage c j seen st → FitsStage (united c name own) j seen st
  same_stage c name j own seen (Waiting k) t = t
  same_stage c name j own seen (Holding k) t = t
  same_stage c name j own seen _ t = tt

  pub seats_differ : (c : Common E) (i j : ℕ) (v u : View E) → Fits c i v → Fits c j u → j ≢ i → u.name ≢ v.name
  seats_differ c i j v u f g other e = other (sym (one_seat (c.place v.name) i j f.named (ap c.place (sym e) ∙ g.named)))

  fits_united : (c : Common E) (id other j : ℕ) (v w u : View E) → Fits c id v → Fits c other w → v.name ≡ 0 → j ≢ id → j ≢ other → Fits c j u → Fits (united c w.name w.own) j u
  fits_united c id other j v w u f g zero_name apart apart' h = record {
    named = united_place c w.name u.name w.own (sits j) (seats_differ c other j w u g h apart') h.named;
    within = h.within;
    seen = h.seen;
    other_seen = h.other_seen;
    own = h.own;
    latest = h.latest;
    first = λ z. absurd (seats_differ c id j v u f h apart (z ∙ sym zero_name));
    other = h.other;
    turn = same_stage c w.name j w.own u.seen u.stage h.turn;
    full = h.full;
  }

  either_full : (a b : Bool) → (a || b) ≡ true → (a ≡ true) ⊎ (b ≡ true)
  either_full true b e = inl refl
  either_full false b e = inr e

  fits_joining : (c : Common E) (id other : ℕ) (v w : View E) → Fits c id v → Fits c other w → v.name ≡ 0 → v.stage ≡ Idle → other ≢ id → Fits (united c w.name w.own) id (joining v w)
  fits_joining c id other v w f g zero_name idle apart = record {
    named = united_place c w.name v.name w.own (sits id) (λ z. seats_differ c id other v w f g apart (sym z)) f.named;
    within = f.within;
    seen = starts_longer c.history v.seen w.seen f.seen g.seen;
    other_seen = starts_shorter c.history v.seen w.seen f.seen g.seen;
    own = f.own;
    latest = λ x last has. ⊎_elim
        (λ n. longer_first c.history v.seen w.seen (f.latest x last (inl n)) g.seen)
        (λ a. ⊎_elim
        (λ old. longer_first c.history v.seen w.seen (f.latest x last (inr old)) g.seen)
        (λ new. longer_second c.history v.seen w.seen f.seen (g.latest x last (inl new)))
        (among_pushed v.joined (w.name, w.own) x.0 a))
        has;
    first = λ z. ((f.first z).0, ap (λ (l : List (ℕ × List E)). l ++ (w.name, w.own) ∷ []) (f.first z).1);
    other = λ z. absurd (z zero_name);
    turn = subst (FitsStage (united c w.name w.own) id (longer v.seen w.seen)) (sym idle) tt;
    full = λ z. ⊎_elim f.full g.full (either_full v.full w.full z);
  }

  pub joins : (id : ℕ) (v : View E) (other : ℕ) (w : View E) → v.name ≡ 0 → v.stage ≡ Idle → w.stage ≡ Idle → Joins (InTurn stands) id v other w (joining v w) spent
  joins id v other w zero_name idle idle' s r at apart there_set =
      let c = r.common in let vs = s.views in let both : View E = joining v w in let c' : Common E = united c w.name w.own in
      let there_now : get_elem? vs other ≡ some w = sym (set_else vs id other both apart) ∙ there_set in
      let live : Live v.stage = subst Live (sym idle) tt in let live' : Live w.stage = subst Live (sym idle') tt in
      let f = r.each id v at live in let g = r.each other w there_now live' in let mid = set vs id both in
      let not_first : w.name ≢ 0 = λ z. seats_differ c id other v w f g apart (z ∙ sym zero_name) in
      let at_both : get_elem? (set mid other spent) id ≡ some both = set_else mid other id spent (λ z. apart (sym z)) ∙ set_there vs id both v at in
      let no_turn : (t : ℕ) → v.stage ≢ Holding t = λ t. holds_not_idle v.stage t idle in let no_turn' : (t : ℕ) → w.stage ≢ Holding t = λ t. holds_not_idle w.stage t idle' in record {
        common = c';
        words = r.words;
        low = r.low;
        high = r.high;
        served = r.served;
        counted = let a = tickets_set vs id v both at in let b = tickets_set mid other w spent there_set in let d = r.counted in let z : tickets w.stage ≡ 0 = ap tickets idle' in omega arith;
        each = each_set (Fits c') mid other spent (λ dead. absurd dead)
            (λ j u apart' e l. each_set (λ i y. i ≢ other → Fits c' i y) vs id both (λ _ _. fits_joining c id other v w f g zero_name idle apart)
            (λ i y apart'' e' l not. fits_united c id other i v w y f g zero_name apart'' not (r.each i y e' l)) j u e l apart');
        each_joined = λ k x e. ⊎_elim
            (λ old. let h = r.each_joined k x old in record {
              named = united_place c w.name x.0 w.own (joined_as k) (λ z. not_both (c.place x.0) other k (ap c.place z ∙ g.named) h.named) h.named;
              above = h.above;
              within = h.within;
              own = h.own;
            })
            (λ new. subst (λ (z : ℕ × (ℕ × List E)). FitsJoined c' z.0 z.1) (λ i. (sym new.0 i, new.1 i)) record {
              named = λ i. cond (eq-eqb w.name w.name refl i) (joined_as (length c.joined)) (c.place w.name);
              above = omega arith;
              within = g.within;
              own = g.own;
            })
            (at_push c.joined (w.name, w.own) x k e);
        named = λ k x e. ⊎_elim
            (λ n. dite (ℕ_discrete n.0 other)
            (λ z. let is : w ≡ n.1 = some_same w n.1 other n.0 (sym z) there_now n.2 in inr (length c.joined, w.own, at_last c.joined (w.name, w.own) (length c.joined) refl ∙ ap (λ (m : ℕ). some (m, w.own)) (ap (λ (y : View E). y.name) is ∙ n.4)))
            (λ elsewhere. dite (ℕ_discrete n.0 id)
            (λ z. let is : v ≡ n.1 = some_same v n.1 id n.0 (sym z) at n.2 in inl (id, both, at_both, live, ap (λ (y : View E). y.name) is ∙ n.4))
            (λ elsewhere'. inl (n.0, n.1, set_else mid other n.0 spent elsewhere ∙ (set_else vs id n.0 both elsewhere' ∙ n.2), n.3, n.4))))
            (λ a. inr (among_push c.joined (w.name, w.own) x.0 a))
            (r.named k x e);
        first = (id, both, at_both, live, zero_name);
        at_home = λ nobody. r.at_home (none_set vs id v both at no_turn (none_set mid other w spent there_set no_turn' nobody));
        away = λ someone. r.away (some_set vs id both no_turn (some_set mid other spent (λ t. spent_holds t) someone));
      }
    where
      spent_holds : (t : ℕ) → Spent ≢ Holding t
      spent_holds t p = cc

      some_same : (a b : View E) (i j : ℕ) → i ≡ j → get_elem? s.views i ≡ some a → get_elem? s.views j ≡ some b → a ≡ b
      some_same a b i j z e e' = some-injective a b (sym e ∙ (ap (get_elem? s.views) z ∙ e'))
