use Rattle.gts_count.proofs.Cited.{◌≡◌, ◌<◌, ◌++◌, [], ◌∷◌, ℕ, ◌+◌, ◌-◌, List, length, map, set, get_or, subst, sym, ap, ◌∙◌, arith, drop, nat_eq, All, Buffer, IsSmall, IsSound, Recent, Row, buffer, is_of, keep_last, with_item, length-set, length-append, get_or_default_zero, All-append}
use Rattle.gts_count.proofs.CountLemmas.{joins}
use Rattle.gts_count.proofs.SoundLemmas.{single, joins_came, few_of, size_of}
use Rattle.gts_count.proofs.numbers.Numbers.push.Goals as goal

-- src/numbers.rt:52:9
pub join-requires-clause-few : goal.join-requires-clause-few
join-requires-clause-few c =
    omega (arith, c.requires.room, c.requires.sound.window.2, few_of (is_of c.args.bulletin.key) c.args.self.now.recent.items, ap (λ (r : Row). r.bulletins) (c.requires.sound.rows c.args.bulletin.key))

-- src/numbers.rt:52:9
pub join-requires-clause-short : goal.join-requires-clause-short
join-requires-clause-short c =
    omega (
      arith,
      c.requires.room,
      c.requires.sound.window.2,
      size_of c.args.bulletin.key (length c.args.self.now.came.items) c.args.self.now.recent.items c.requires.sound.small,
      ap (λ (r : Row). r.bytes) (c.requires.sound.rows c.args.bulletin.key),
    )

-- src/numbers.rt:53:9
pub overflow_add-index_mut : goal.overflow_add-index_mut
overflow_add-index_mut c =
    let n = c.args.self.now in
    let x : Recent = c.args.bulletin in
    let inside : x.from < length n.came.items = c.requires.circuit in
    let was : c.index_mut.result.now ≡ get_or n.came.items x.from 0 = c.index_mut.ensures.value ∙ get_or_default_zero n.came.items x.from c.index_mut.result.now inside in
    omega (arith, was, c.requires.sound.came x.from inside, few_of (λ r. nat_eq r.from x.from) n.recent.items, c.requires.room, c.requires.sound.window.2)

-- src/numbers.rt:40:5
pub returns-clause-sound : goal.returns-clause-sound
returns-clause-sound c =
    let n = c.args.self.now in
    let x : Recent = c.args.bulletin in
    let inside : x.from < length n.came.items = c.requires.circuit in
    let was : c.index_mut.result.now ≡ get_or n.came.items x.from 0 = c.index_mut.ensures.value ∙ get_or_default_zero n.came.items x.from c.index_mut.result.now inside in
    let drawn : List (List (List ℕ)) = map (λ q. q.items) n.drawn.items in
    let v : ℕ = c.index_mut.result.now + 1 in
    let more : v ≡ get_or n.came.items x.from 0 + 1 = ap (λ (k : ℕ). k + 1) was in
    let same : length (set n.came.items x.from v) ≡ length n.came.items = length-set n.came.items x.from v in
    let long : length (n.recent.items ++ x ∷ []) ≡ length n.recent.items + 1 = length-append n.recent.items (x ∷ []) in
    let none : length (n.recent.items ++ x ∷ []) - n.recent.capacity ≡ 0 = omega (arith, long, c.requires.room) in
    let kept : keep_last n.recent.capacity (n.recent.items ++ x ∷ []) ≡ n.recent.items ++ x ∷ [] = ap (λ (k : ℕ). drop k (n.recent.items ++ x ∷ [])) none in
    let ring : c.push_back.new.self ≡ buffer (n.recent.items ++ x ∷ []) n.recent.capacity = c.push_back.ensures.items ∙ ap (λ (xs : List Recent). buffer xs n.recent.capacity) kept in
    subst (λ (b : Buffer Recent). IsSound (record { recent = b; drawn = n.drawn; rows = c.join.new.rows; came = with_item n.came x.from v })) (sym ring) (record {
      rows = joins x n.recent.items drawn n.rows c.join.new.rows c.requires.sound.rows c.join.ensures;
      came = joins_came x n.recent.items drawn n.came.items v c.requires.sound.came inside more;
      small = subst (λ (k : ℕ). All (IsSmall k) (n.recent.items ++ x ∷ [])) (sym same) (All-append (IsSmall (length n.came.items)) n.recent.items (x ∷ []) c.requires.sound.small (single (IsSmall (length n.came.items)) x (inside, omega arith)));
      window = (omega (arith, long, c.requires.room), c.requires.sound.window.1, c.requires.sound.window.2);
      kept = c.requires.sound.kept;
      circuits = (c.requires.sound.circuits.0 ∙ sym same, c.requires.sound.circuits.1);
    })
