-- The steps of a turn keep the rule: a ticket is drawn, its turn is looked for and taken, and the next ticket is served.
use Rattle.gts_lock.proofs.Cited.{◌≡◌, ◌≢◌, ℕ, ◌+◌, ◌%◌, ◌<◌, ◌≤◌, List, [], ◌∷◌, ◌++◌, length, set, get_or, eqb, Bool, true, cond, ◌==◌, refl, sym, ap, ◌∙◌, subst, inl, inr, ⊎_elim, arith, length-append, eq-eqb, ne_eqb, Some, Option, none, some, some-injective, some-ne-none, dite, ℕ_discrete, get_elem?, set-get_or, either, Allows, Common, Compares, Draws, Fits, FitsStage, Holding, Idle, InTurn, IsAmong, Live, Looks, MOST_TURNS, Me, NoneHolds, Raises, RaisesSome, SomeHolds, Spent, Stage, State, View, Waiting, ended, entries, entries_under, gives, holding, keeps, marked, staged, step, stepped, takes, tickets, at_set, set_again}
use Rattle.gts_lock.proofs.HistoryLemmas.{set_there, at_push, entries_push, under_same, under_other, starts_push, starts_same, starts_is, starts_between, ends_push}
use Rattle.gts_lock.proofs.ViewsLemmas.{ticket_or, holds_not_idle, holds_not_waiting, one_seat, not_both, tickets_set, each_set, named_set, none_set, some_set}

module _ {T E : Type 0} (stands : T → List E → Type 0) where
  abbrev Rule : State (Option T) (View E) → Type 0
  Rule = InTurn stands

  abbrev Sat : Type 0
  Sat = Me (Option T) (View E)

  abbrev St : Type 0
  St = State (Option T) (View E)

  -- a step after which the seat has the view w, and all else is the same but the value at home
  unmoved : (s : St) (r : Rule s) (id : ℕ) (v w : View E) → get_elem? s.views id ≡ some v → Live w.stage → w.name ≡ v.name → tickets w.stage ≡ tickets v.stage → Fits r.common id w
      → (hs : List (_)) → (NoneHolds (set s.views id w) → (x : T) × (hs ≡ some (Some x) ∷ []) × stands x (entries r.common.history)) → (SomeHolds (set s.views id w) → hs ≡ none ∷ [])
      → Rule record { words = s.words; homes = hs; views = set s.views id w }
  unmoved s r id v w at live name count fits hs home away = record {
    common = r.common;
    words = r.words;
    low = r.low;
    high = r.high;
    served = r.served;
    counted = let a = tickets_set s.views id v w at in let b = r.counted in omega arith;
    each = each_set (Fits r.common) s.views id w (λ _. fits) (λ j u _. r.each j u);
    each_joined = r.each_joined;
    named = λ k x e. ⊎_elim (λ n. inl (named_set s.views id v w x.0 at live name n)) inr (r.named k x e);
    first = named_set s.views id v w 0 at live name r.first;
    at_home = home;
    away = away;
  }

  same_state : (s : St) (id i : ℕ) (cs : List (ℕ × Option T)) (v : View E) → get_elem? s.views id ≡ some v → stepped s i (get_or s.words i 0) id cs v keeps ≡ s
  same_state s id i cs v at = λ k. record { words = set-get_or s.words i 0 k; homes = s.homes; views = set_again s.views id v at k }

  -- the two words
  serving_is : (s : St) (r : Rule s) → get_or s.words 0 0 ≡ r.common.serving
  serving_is s r = ap (λ (ws : List ℕ). get_or ws 0 0) r.words

  next_is : (s : St) (r : Rule s) → get_or s.words 1 0 ≡ r.common.next
  next_is s r = ap (λ (ws : List ℕ). get_or ws 1 0) r.words

  refit : (c : Common E) (i : ℕ) (v : View E) (stage : Stage) (full : Bool) → Fits c i v → FitsStage c i v.seen stage → (full ≡ true → c.next ≡ MOST_TURNS) → Fits c i (record v { stage = stage; full = full })
  refit c i v stage full f turn mark = record {
    named = f.named;
    within = f.within;
    seen = f.seen;
    other_seen = f.other_seen;
    own = f.own;
    latest = f.latest;
    first = f.first;
    other = f.other;
    turn = turn;
    full = mark;
  }

  -- a drawn ticket
  abbrev drawn : Common E → ℕ → Common E
  drawn c id = record c { next = c.next + 1; drawer = λ k. cond (k == c.next) id (c.drawer k) }

  keeps_drawer : (c : Common E) (id t j : ℕ) → t < c.next → c.drawer t ≡ j → (drawn c id).drawer t ≡ j
  keeps_drawer c id t j l e = (λ i. cond (ne_eqb t c.next (λ (z : t ≡ c.next). omega arith) i) id (c.drawer t)) ∙ e

  stage_drawn : (c : Common E) (id j : ℕ) (seen : List (ℕ × E)) (st : Stage) → FitsStage c j seen st → FitsStage (drawn c id) j seen st
  stage_drawn c id j seen (Waiting t) f = let l = f.1 in (f.0, omega arith, keeps_drawer c id t j f.1 f.2)
  stage_drawn c id j seen (Holding t) f = let l = f.1 in (f.0, omega arith, keeps_drawer c id t j f.1 f.2, f.3)
  stage_drawn c id j seen _ f = tt

  fits_drawn : (c : Common E) (id j : ℕ) (u : View E) → c.next ≢ MOST_TURNS → Fits c j u → Fits (drawn c id) j u
  fits_drawn c id j u not f = record {
    named = f.named;
    within = f.within;
    seen = f.seen;
    other_seen = f.other_seen;
    own = f.own;
    latest = f.latest;
    first = f.first;
    other = f.other;
    turn = stage_drawn c id j u.seen u.stage f.turn;
    full = λ full. absurd (not (f.full full));
  }

  draws_hit : (s : St) (r : Rule s) (id : ℕ) (v : View E) → get_elem? s.views id ≡ some v → v.stage ≡ Idle → r.common.next < MOST_TURNS
      → Rule record { words = r.common.serving ∷ (r.common.next + 1) ∷ []; homes = s.homes; views = set s.views id (staged (Waiting r.common.next) v) }
  draws_hit s r id v at idle room = let c = r.common in let w : View E = staged (Waiting c.next) v in let c' : Common E = drawn c id in
      let live : Live v.stage = subst Live (sym idle) tt in let f = fits_drawn c id id v (λ z. omega arith) (r.each id v at live) in let low = r.low in
      let none_before : NoneHolds (set s.views id w) → NoneHolds s.views = none_set s.views id v w at (λ t. holds_not_idle v.stage t idle) in record {
        common = c';
        words = refl;
        low = omega arith;
        high = omega arith;
        served = r.served;
        counted = let a = tickets_set s.views id v w at in let b = r.counted in let z : tickets v.stage ≡ 0 = ap tickets idle in omega arith;
        each = each_set (Fits c') s.views id w (λ _. refit c' id v (Waiting c.next) v.full f (low, omega arith, λ i. cond (eq-eqb c.next c.next refl i) id (c.drawer c.next)) f.full)
            (λ j u _ e l. fits_drawn c id j u (λ z. omega arith) (r.each j u e l));
        each_joined = λ k x e. let g = r.each_joined k x e in record { named = g.named; above = g.above; within = g.within; own = g.own };
        named = λ k x e. ⊎_elim (λ n. inl (named_set s.views id v w x.0 at tt refl n)) inr (r.named k x e);
        first = named_set s.views id v w 0 at tt refl r.first;
        at_home = λ nobody. r.at_home (none_before nobody);
        away = λ holds. r.away (some_set s.views id w (λ t. holds_not_waiting (Waiting c.next) t c.next refl) holds);
      }

  marks : (s : St) (r : Rule s) (id : ℕ) (v : View E) → get_elem? s.views id ≡ some v → v.stage ≡ Idle → r.common.next ≡ MOST_TURNS
      → Rule record { words = s.words; homes = s.homes; views = set s.views id (marked v) }
  marks s r id v at idle last = let live : Live v.stage = subst Live (sym idle) tt in
      unmoved s r id v (marked v) at live refl refl (refit r.common id v v.stage true (r.each id v at live) (r.each id v at live).turn (λ _. last)) s.homes
      (λ nobody. r.at_home (none_set s.views id v (marked v) at (λ t. holds_not_idle v.stage t idle) nobody))
      (λ holds. r.away (some_set s.views id (marked v) (λ t. holds_not_idle v.stage t idle) holds))

  raised_word : (found next serving t : ℕ) (ws : List ℕ) → ws ≡ serving ∷ next ∷ [] → found ≡ next → found ≡ t → set ws 1 (either (eqb found t) (t + 1) found) ≡ serving ∷ (next + 1) ∷ []
  raised_word found next serving t ws words is hit =
      ap (λ (l : List ℕ). set l 1 (either (eqb found t) (t + 1) found)) words
      ∙ ap (λ (n : ℕ). serving ∷ n ∷ []) ((λ i. either (eq-eqb found t hit i) (t + 1) found) ∙ ap (λ (n : ℕ). n + 1) (sym hit ∙ is))

  missed : (s : St) (id t new : ℕ) (cs : List (ℕ × Option T)) (w : View E) → get_or s.words 1 0 ≢ t
      → stepped s 1 (either (eqb (get_or s.words 1 0) t) new (get_or s.words 1 0)) id cs w keeps ≡ record { words = s.words; homes = s.homes; views = set s.views id w }
  missed s id t new cs w miss = λ i. record { words = ((λ j. set s.words 1 (either (ne_eqb (get_or s.words 1 0) t miss j) new (get_or s.words 1 0))) ∙ set-get_or s.words 1 0) i; homes = s.homes; views = set s.views id w }

  pub draws : (slots id : ℕ) (m : Sat) (t : ℕ) → m.0.stage ≡ Idle → t < MOST_TURNS
      → Allows Rule slots id m 1 (λ n. either (eqb n t) (t + 1) n) (Draws (step slots 1 t (t + 1) none) m)
  draws slots id m t idle room s r _ at _ = let c = r.common in let found : ℕ = get_or s.words 1 0 in let v : View E = m.0 in let is : found ≡ c.next = next_is s r in let high = r.high in dite (ℕ_discrete found t)
      (λ hit. let w : View E = staged (Waiting found) v in let p = raised_word found c.next c.serving t s.words r.words is hit in (
        w,
        keeps,
        tt,
        subst (λ (x : List ℕ × ℕ). Rule record { words = x.0; homes = s.homes; views = set s.views id (staged (Waiting x.1) v) }) (λ i. (sym p i, sym is i)) (draws_hit s r id v at idle (omega arith)),
        (omega arith, refl, (λ _. refl), (λ not. absurd (not hit)), (λ not. absurd (not hit))),
      ))
      (λ miss. dite (ℕ_discrete found MOST_TURNS)
      (λ last. let w : View E = marked v in (
        w,
        keeps,
        tt,
        subst Rule (sym (missed s id t (t + 1) m.1 w miss)) (marks s r id v at idle (sym is ∙ last)),
        (omega arith, refl, (λ hit. absurd (miss hit)), (λ _ _. refl), (λ _ not. absurd (not last))),
      ))
      (λ some_left. (
        v,
        keeps,
        tt,
        subst Rule (sym (missed s id t (t + 1) m.1 v miss ∙ (λ i. record { words = s.words; homes = s.homes; views = set_again s.views id v at i }))) r,
        (omega arith, refl, (λ hit. absurd (miss hit)), (λ _ last. absurd (some_left last)), (λ _ _. refl)),
      )))

  -- the entries that are noted for a view and for its joined names are those of the history
  joined_own : (s : St) (r : Rule s) (id : ℕ) (v : View E) → Fits r.common id v → (k : ℕ) (y : ℕ × List E) → get_elem? v.joined k ≡ some y → y.1 ≡ entries_under y.0 r.common.history
  joined_own s r id v f k y e = dite (ℕ_discrete v.name 0)
      (λ z. (r.each_joined k y (ap (λ (l : List (ℕ × List E)). get_elem? l k) (sym (f.first z).1) ∙ e)).own)
      (λ z. absurd (some-ne-none y (sym e ∙ ap (λ (l : List (ℕ × List E)). get_elem? l k) (f.other z))))

  pub looks : (slots id : ℕ) (m : Sat) (t : ℕ) → m.0.stage ≡ Waiting t → Allows Rule slots id m 0 (λ n. n) (Looks stands (step slots 0 0 0 none) m)
  looks slots id m t waits s r _ at _ =
      let c = r.common in let found : ℕ = get_or s.words 0 0 in let v : View E = m.0 in let is : found ≡ c.serving = serving_is s r in
      let live : Live v.stage = subst Live (sym waits) tt in let f = r.each id v at live in let mine : (c.serving ≤ t) × (t < c.next) × (c.drawer t ≡ id) = subst (FitsStage c id v.seen) waits f.turn in
      dite (ℕ_discrete found t)
      (λ hit.
      let w : View E = holding t c.history v in
      let nobody : NoneHolds s.views = λ j u k e h.
      let theirs : (k ≡ c.serving) × (k < c.next) × (c.drawer k ≡ j) × (u.seen ≡ c.history) = subst (FitsStage c j u.seen) h (r.each j u e (subst Live (sym h) tt)).turn in
      let same : j ≡ id = sym theirs.2 ∙ (ap c.drawer (theirs.0 ∙ (sym is ∙ hit)) ∙ mine.2) in
      let at' : v ≡ u = some-injective v u (sym at ∙ (ap (get_elem? s.views) (sym same) ∙ e)) in
      holds_not_waiting v.stage k t waits (ap (λ (y : View E). y.stage) at' ∙ h) in
      let home = r.at_home nobody in
      let l : t < c.next = mine.1 in let high = r.high in let low : length c.history ≡ c.serving = r.served in let e' : c.serving ≡ t = sym is ∙ hit in
      let there_now : SomeHolds (set s.views id w) = (id, w, t, set_there s.views id w v at, refl) in (
        w,
        takes 0 (Some home.0),
        ap (λ (hs : List _). get_elem? hs 0) home.1,
        subst Rule (λ i. record { words = sym (set-get_or s.words 0 0) i; homes = set s.homes 0 none; views = set s.views id w })
            (unmoved s r id v w at tt refl (ap tickets (sym waits)) record {
              named = f.named;
              within = f.within;
              seen = starts_same c.history;
              other_seen = f.other_seen;
              own = f.own;
              latest = λ x _ _. refl;
              first = f.first;
              other = f.other;
              turn = (sym e', l, mine.2, refl);
              full = f.full;
            } (set s.homes 0 none) (λ none_now. absurd (none_now id w t (set_there s.views id w v at) refl)) (λ _. ap (λ (hs : List _). set hs 0 none) home.1)),
        (λ t' waits'.
            let same : t ≡ t' = ap (ticket_or 0) (sym waits ∙ waits') in (
              (λ _. record {
                history = c.history;
                value = home.0;
                now = λ i. (holding (same i) c.history v, (0, Some home.0) ∷ m.1);
                comes = record { later = f.seen; own = f.own; room = omega arith; joined = joined_own s r id v f };
                told = home.2;
              }),
              (λ not. absurd (not (hit ∙ same))),
            )),
      ))
      (λ miss. (
        v,
        keeps,
        tt,
        subst Rule (sym (same_state s id 0 m.1 v at)) r,
        (λ t' waits'. let same : t ≡ t' = ap (ticket_or 0) (sym waits ∙ waits') in ((λ hit. absurd (miss (hit ∙ sym same))), (λ _. refl))),
      ))

  -- the history with an entry more, and the next ticket served
  abbrev grown : Common E → ℕ → E → Common E
  grown c name e = record c { history = c.history ++ (name, e) ∷ []; serving = c.serving + 1 }

  stage_grown : (c : Common E) (id j : ℕ) (name : ℕ) (e : E) (seen : List (ℕ × E)) (st : Stage) → c.drawer c.serving ≡ id → j ≢ id → FitsStage c j seen st → FitsStage (grown c name e) j seen st
  stage_grown c id j name e seen (Waiting t) own other f =
      let l = f.0 in let not : c.serving ≢ t = λ z. other (sym f.2 ∙ (ap c.drawer (sym z) ∙ own)) in (omega arith, f.1, f.2)
  stage_grown c id j name e seen (Holding t) own other f = absurd (other (sym f.2 ∙ (ap c.drawer f.0 ∙ own)))
  stage_grown c id j name e seen _ own other f = tt

  -- another view's name isn't this one, nor is it joined into the other view
  other_name : (c : Common E) (id j : ℕ) (v u : View E) → Fits c id v → Fits c j u → j ≢ id → v.name ≢ u.name
  other_name c id j v u f g other e = other (sym (one_seat (c.place v.name) id j f.named (ap c.place e ∙ g.named)))

  not_joined : (s : St) (r : Rule s) (id j : ℕ) (v u : View E) → Fits r.common id v → Fits r.common j u → ¬ (IsAmong u.joined v.name)
  not_joined s r id j v u f g a = dite (ℕ_discrete u.name 0)
      (λ z. not_both (r.common.place v.name) id a.0 f.named (r.each_joined a.0 (v.name, a.1) (ap (λ (l : List (ℕ × List E)). get_elem? l a.0) (sym (g.first z).1) ∙ a.2)).named)
      (λ z. some-ne-none (v.name, a.1) (sym a.2 ∙ ap (λ (l : List (ℕ × List E)). get_elem? l a.0) (g.other z)))

  fits_grown : (s : St) (r : Rule s) (id j : ℕ) (v u : View E) (e : E) → Fits r.common id v → r.common.drawer r.common.serving ≡ id → j ≢ id → Fits r.common j u → Fits (grown r.common v.name e) j u
  fits_grown s r id j v u e f own other g = let c = r.common in record {
    named = g.named;
    within = g.within;
    seen = starts_push c.history u.seen (v.name, e) g.seen;
    other_seen = starts_push c.history u.other_seen (v.name, e) g.other_seen;
    own = g.own ∙ sym (under_other u.name c.history (v.name, e) (other_name c id j v u f g other));
    latest = λ x last has. let same : v.name ≡ x.0 = ap (λ (y : ℕ × E). y.0) (ends_push c.history (v.name, e) x last) in ⊎_elim
        (λ n. absurd (other_name c id j v u f g other (same ∙ sym n)))
        (λ a. absurd (not_joined s r id j v u f g (a.0, a.1, a.2 ∙ ap (λ (n : ℕ). some (n, a.1)) (sym same))))
        has;
    first = g.first;
    other = g.other;
    turn = stage_grown c id j v.name e u.seen u.stage own other g.turn;
    full = g.full;
  }

  raises_one : (s : St) (r : Rule s) (id : ℕ) (v : View E) (t : ℕ) (e : E) (x : T) → get_elem? s.views id ≡ some v → v.stage ≡ Holding t → stands x (entries v.seen ++ e ∷ [])
      → Rule record { words = (r.common.serving + 1) ∷ r.common.next ∷ []; homes = set s.homes 0 (some (Some x)); views = set s.views id (ended (e ∷ []) v) }
  raises_one s r id v t e x at holds told =
      let c = r.common in let w : View E = ended (e ∷ []) v in let c' : Common E = grown c v.name e in let live : Live v.stage = subst Live (sym holds) tt in let f = r.each id v at live in
      let mine : (t ≡ c.serving) × (t < c.next) × (c.drawer t ≡ id) × (v.seen ≡ c.history) = subst (FitsStage c id v.seen) holds f.turn in let own : c.drawer c.serving ≡ id = ap c.drawer (sym mine.0) ∙ mine.2 in
      let is : t ≡ c.serving = mine.0 in let less : t < c.next = mine.1 in
      let empty : s.homes ≡ none ∷ [] = r.away (id, v, t, at, holds) in record {
        common = c';
        words = refl;
        low = omega arith;
        high = r.high;
        served = let l : length c.history ≡ c.serving = r.served in let m = length-append c.history ((v.name, e) ∷ []) in omega arith;
        counted = let a = tickets_set s.views id v w at in let b = r.counted in let z : tickets v.stage ≡ 1 = ap tickets holds in omega arith;
        each = each_set (Fits c') s.views id w (λ _. record {
          named = f.named;
          within = f.within;
          seen = starts_is c'.history w.seen (ap (λ (l : List (ℕ × E)). l ++ (v.name, e) ∷ []) (sym mine.3));
          other_seen = starts_push c.history v.other_seen (v.name, e) f.other_seen;
          own = ap (λ (l : List E). l ++ e ∷ []) f.own ∙ sym (under_same v.name c.history (v.name, e) refl);
          latest = λ y _ _. ap (λ (l : List (ℕ × E)). l ++ (v.name, e) ∷ []) mine.3;
          first = f.first;
          other = f.other;
          turn = tt;
          full = f.full;
        })
            (λ j u other e' l. fits_grown s r id j v u e f own other (r.each j u e' l));
        each_joined = λ k y e'. let g = r.each_joined k y e' in record {
          named = g.named;
          above = g.above;
          within = g.within;
          own = g.own ∙ sym (under_other y.0 c.history (v.name, e) (λ (z : v.name ≡ y.0). not_both (c.place v.name) id k f.named (ap c.place z ∙ g.named)));
        };
        named = λ k y e'. ⊎_elim
            (λ old. ⊎_elim (λ n. inl (named_set s.views id v w y.0 at tt refl n)) inr (r.named k y old))
            (λ new. inl (id, w, set_there s.views id w v at, tt, ap (λ (z : ℕ × E). z.0) new.1))
            (at_push c.history (v.name, e) y k e');
        first = named_set s.views id v w 0 at tt refl r.first;
        at_home = λ _. (x, ap (λ (hs : List _). set hs 0 (some (Some x))) empty, subst (stands x) (ap (λ (l : List (ℕ × E)). entries l ++ e ∷ []) mine.3 ∙ sym (entries_push c.history (v.name, e))) told);
        away = λ some_now. absurd (⊎_elim
            (λ (z : (some_now.0 ≡ id) × (w ≡ some_now.1)). holds_not_idle Idle some_now.2 refl (ap (λ (y : View E). y.stage) z.1 ∙ some_now.4))
            (λ (z : (some_now.0 ≢ id) × (get_elem? s.views some_now.0 ≡ some some_now.1)).
            let theirs : (some_now.2 ≡ c.serving) × (some_now.2 < c.next) × (c.drawer some_now.2 ≡ some_now.0) × (some_now.1.seen ≡ c.history) = subst (FitsStage c some_now.0 some_now.1.seen) some_now.4 (r.each some_now.0 some_now.1 z.1 (subst Live (sym some_now.4) tt)).turn in
            z.0 (sym theirs.2 ∙ (ap c.drawer theirs.0 ∙ own)))
            (at_set s.views id some_now.0 w some_now.1 some_now.3));
      }

  one_entry : (es : List E) → length es ≡ 1 → (e : E) × (es ≡ e ∷ [])
  one_entry (e ∷ []) l = (e, refl)
  one_entry _ l = absurd (omega arith)

  pub raises : (slots id : ℕ) (m : Sat) (t : ℕ) (es : List E) (x : T) → m.0.stage ≡ Holding t → m.1 ≡ (0, Some x) ∷ [] → length es ≡ 1 → stands x (entries m.0.seen ++ es)
      → Allows Rule slots id m 0 (λ n. (n + 1) % 18446744073709551616) (Raises es (step slots 0 1 0 none) m)
  raises slots id m t es x holds slot one told s r _ at small =
      let c = r.common in let v : View E = m.0 in let w : View E = ended es v in let o = one_entry es one in let e = o.0 in let is : get_or s.words 0 0 ≡ c.serving = serving_is s r in
      let l = r.low in let h = r.high in
      let p : set s.words 0 ((get_or s.words 0 0 + 1) % 18446744073709551616) ≡ (c.serving + 1) ∷ c.next ∷ [] =
      ap (λ (n : ℕ). set s.words 0 n) (let q : (get_or s.words 0 0 + 1) % 18446744073709551616 ≡ c.serving + 1 = omega arith in q) ∙ ap (λ (ws : List ℕ). set ws 0 (c.serving + 1)) r.words in (
        w,
        gives,
        tt,
        subst Rule (λ i. record { words = sym p i; homes = Rattle.atomic_table.specs.Table.put_back s.homes (sym slot i); views = set s.views id (ended (sym o.1 i) v) })
            (raises_one s r id v t e x at holds (subst (λ (l : List E). stands x (entries v.seen ++ l)) o.1 told)),
        refl,
      )

  -- of the entry something is told
  pub raises_some : (fact : E → Type 0) (slots id : ℕ) (m : Sat) (t : ℕ) (e : E) (x : T) → m.0.stage ≡ Holding t → m.1 ≡ (0, Some x) ∷ [] → fact e → stands x (entries m.0.seen ++ e ∷ [])
      → Allows Rule slots id m 0 (λ n. (n + 1) % 18446744073709551616) (RaisesSome fact (step slots 0 1 0 none) m)
  raises_some fact slots id m t e x holds slot known told s r at_word at small =
      let a = raises slots id m t (e ∷ []) x holds slot refl told s r at_word at small in
      (a.0, a.1, a.2, a.3, (e, known, a.4))

  pub compares : (slots id : ℕ) (m : Me (Option T) (View E)) → m.0.stage ≡ Idle → Allows (InTurn stands) slots id m 0 (λ n. n) (Compares (step slots 0 0 0 none) m)
  compares slots id m idle s r _ at _ = let v : View E = m.0 in let f = r.each id v at (subst Live (sym idle) tt) in
      (v, keeps, tt, subst (InTurn stands) (sym (same_state s id 0 m.1 v at)) r, (refl, λ l. starts_between r.common.history v.seen v.other_seen f.seen f.other_seen l))
