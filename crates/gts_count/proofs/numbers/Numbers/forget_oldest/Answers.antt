use Rattle.gts_count.proofs.Cited.{◌≡◌, ◌<◌, ◌∷◌, ℕ, ◌-◌, List, length, map, drop, set, get_or, subst, sym, ap, ◌∙◌, arith, All, Buffer, HasCame, IsCount, IsSmall, IsSound, Recent, with_item, length-set, length-drop, get_or_default_zero, All-drop}
use Rattle.gts_count.proofs.CountLemmas.{leaves, tallied}
use Rattle.gts_count.proofs.SoundLemmas.{first, first_counted, first_sized, first_came, leaves_came, has_from}
use Rattle.gts_count.proofs.numbers.Numbers.forget_oldest.Goals as goal

-- src/numbers.rt:35:9
pub leave-requires-clause-row : goal.leave-requires-clause-row
leave-requires-clause-row c =
    let front : c.args.self.now.recent.items ≡ c.in-Some.oldest ∷ drop 1 c.args.self.now.recent.items = first c.args.self.now.recent.items c.in-Some.oldest (sym c.pop_front.ensures.value ∙ c.in-Some.is) in
    has_from c.args.self.now.rows c.in-Some.oldest.key
    (first_counted c.in-Some.oldest (drop 1 c.args.self.now.recent.items) (map (λ q. q.items) c.args.self.now.drawn.items) c.args.self.now.rows
    (subst (λ (xs : List Recent). IsCount (tallied xs (map (λ q. q.items) c.args.self.now.drawn.items)) c.args.self.now.rows) front c.requires.rows))

-- src/numbers.rt:35:9
pub leave-requires-clause-counted : goal.leave-requires-clause-counted
leave-requires-clause-counted c =
    let front : c.args.self.now.recent.items ≡ c.in-Some.oldest ∷ drop 1 c.args.self.now.recent.items = first c.args.self.now.recent.items c.in-Some.oldest (sym c.pop_front.ensures.value ∙ c.in-Some.is) in
    first_counted c.in-Some.oldest (drop 1 c.args.self.now.recent.items) (map (λ q. q.items) c.args.self.now.drawn.items) c.args.self.now.rows
    (subst (λ (xs : List Recent). IsCount (tallied xs (map (λ q. q.items) c.args.self.now.drawn.items)) c.args.self.now.rows) front c.requires.rows)

-- src/numbers.rt:35:9
pub leave-requires-clause-sized : goal.leave-requires-clause-sized
leave-requires-clause-sized c =
    let front : c.args.self.now.recent.items ≡ c.in-Some.oldest ∷ drop 1 c.args.self.now.recent.items = first c.args.self.now.recent.items c.in-Some.oldest (sym c.pop_front.ensures.value ∙ c.in-Some.is) in
    first_sized c.in-Some.oldest (drop 1 c.args.self.now.recent.items) (map (λ q. q.items) c.args.self.now.drawn.items) c.args.self.now.rows
    (subst (λ (xs : List Recent). IsCount (tallied xs (map (λ q. q.items) c.args.self.now.drawn.items)) c.args.self.now.rows) front c.requires.rows)

-- src/numbers.rt:36:9
pub overflow_sub-index_mut : goal.overflow_sub-index_mut
overflow_sub-index_mut c =
    let n = c.args.self.now in
    let y : Recent = c.in-Some.oldest in
    let rest : List Recent = drop 1 n.recent.items in
    let drawn : List (List (List ℕ)) = map (λ q. q.items) n.drawn.items in
    let front : n.recent.items ≡ y ∷ rest = first n.recent.items y (sym c.pop_front.ensures.value ∙ c.in-Some.is) in
    let inside : y.from < length n.came.items = (subst (λ (xs : List Recent). All (IsSmall (length n.came.items)) xs) front c.requires.small 0 y (omega (arith, ap length front))).0 in
    let has : HasCame (tallied (y ∷ rest) drawn) n.came.items = subst (λ (xs : List Recent). HasCame (tallied xs drawn) n.came.items) front c.requires.came in
    omega (arith, first_came y rest drawn n.came.items has inside, c.index_mut.ensures.value ∙ get_or_default_zero n.came.items y.from c.index_mut.result.now inside)

-- src/numbers.rt:23:5
pub returns-clause-sound : goal.returns-clause-sound
returns-clause-sound c =
    let n = c.args.self.now in
    let y : Recent = c.in-Some.oldest in
    let rest : List Recent = drop 1 n.recent.items in
    let drawn : List (List (List ℕ)) = map (λ q. q.items) n.drawn.items in
    let front : n.recent.items ≡ y ∷ rest = first n.recent.items y (sym c.pop_front.ensures.value ∙ c.in-Some.is) in
    let inside : y.from < length n.came.items = (subst (λ (xs : List Recent). All (IsSmall (length n.came.items)) xs) front c.requires.small 0 y (omega (arith, ap length front))).0 in
    let has : HasCame (tallied (y ∷ rest) drawn) n.came.items = subst (λ (xs : List Recent). HasCame (tallied xs drawn) n.came.items) front c.requires.came in
    let v : ℕ = c.index_mut.result.now - 1 in
    let less : v ≡ get_or n.came.items y.from 0 - 1 = ap (λ (x : ℕ). x - 1) (c.index_mut.ensures.value ∙ get_or_default_zero n.came.items y.from c.index_mut.result.now inside) in
    let counts : IsCount (tallied (y ∷ rest) drawn) n.rows = subst (λ (xs : List Recent). IsCount (tallied xs drawn) n.rows) front c.requires.rows in
    let same : length (set n.came.items y.from v) ≡ length n.came.items = length-set n.came.items y.from v in
    subst (λ (b : Buffer Recent). IsSound (record { recent = b; drawn = n.drawn; rows = c.leave.new.rows; came = with_item n.came y.from v })) (sym c.pop_front.ensures.items) (record {
      rows = leaves y rest drawn n.rows c.leave.new.rows counts c.leave.ensures;
      came = leaves_came y rest drawn n.came.items v has inside less;
      small = subst (λ (k : ℕ). All (IsSmall k) rest) (sym same) (All-drop (IsSmall (length n.came.items)) 1 n.recent.items c.requires.small);
      window = (omega (arith, length-drop 1 n.recent.items, c.requires.window.0), c.requires.window.1, c.requires.window.2);
      kept = c.requires.kept;
      circuits = (c.requires.circuits.0 ∙ sym same, c.requires.circuits.1);
    })
