-- The numbers of a sound need.
use Rattle.gts_count.proofs.Cited.{◌≡◌, ℕ, zero, suc, ◌-◌, ◌<◌, Bool, true, false, ◌==◌, cond, List, [], ◌∷◌, ◌++◌, length, get_or, drop, map, zip, Option, Some, None, refl, sym, ap, subst, ◌∙◌, arith, IsTrue, IsSome, option_map, unwrap_or, All, AreBodies, BTreeMap, Begins, Buffer, Bulletin, Circuit, CircuitNeed, Directory, Follows, HasEachRow, HasKeys, HaveRows, IsOrdered, Need, NotesAll, NotesDraws, Numbers, SoundCircuit, SoundNeed, Starts, State, at_position, begun, has_row, is_bulletin, is_circuit_sound, is_sound, is_there, keep_last, keeps_one, key_at, key_by, key_of, list_all, nat_cmp, need, no_ring, recent_in, ring_at, tally, tally_of, unused, and_parts, length-map, get_or-map, ext_get_or, sound-parts, circuit-parts, need-begun, held-begun, ordered-begun, bulletin-parts}
use Rattle.gts_count.specs.Cited.{get}
use Rattle.gts_directory.specs.Directory as directory
use Rattle.gts_count.proofs.StepLemmas.{held_window, starts_window}
use Rattle.gts_count.proofs.StateLemmas.{tally_is}
use Rattle.gts_count.proofs.FollowLemmas.{bulletin_there}

-- what passes a test everywhere passes it at each place
all_at : {X : Type 0} (f : X → Bool) (xs : List X) → list_all f xs ≡ true → All (λ x. f x ≡ true) xs
all_at f [] e k d inside = absurd (omega (arith, inside))
all_at f (x ∷ xs) e zero d inside = (and_parts (f x) (list_all f xs) e).0
all_at f (x ∷ xs) e (suc k) d inside = all_at f xs (and_parts (f x) (list_all f xs) e).1 k d (omega (arith, inside))

pub all_of : {A B : Type 0} (f : B → Bool) (g : A → B) (xs : List A) → list_all f (map g xs) ≡ true → All (λ x. IsTrue (f (g x))) xs
all_of f g [] e k d inside = absurd (omega (arith, inside))
all_of f g (x ∷ xs) e zero d inside = (and_parts (f (g x)) (list_all f (map g xs)) e).0
all_of f g (x ∷ xs) e (suc k) d inside = all_of f g xs (and_parts (f (g x)) (list_all f (map g xs)) e).1 k d (omega (arith, inside))

back_part : {X : Type 0} (f : X → Bool) (xs ys : List X) → list_all f (xs ++ ys) ≡ true → list_all f ys ≡ true
back_part f [] ys e = e
back_part f (x ∷ xs) ys e = back_part f xs ys (and_parts (f x) (list_all f (xs ++ ys)) e).1

-- a row of the directory beside its circuit
abbrev no_circuit : Circuit
no_circuit = directory.circuit_of [] []

rows_at : (f : Circuit → CircuitNeed → Bool) (rows : List Circuit) (cs : List CircuitNeed) → length cs ≡ length rows → list_all (λ r. f r.0 r.1) (zip rows cs) ≡ true
    → (k : ℕ) → k < length cs → f (get_or rows k no_circuit) (get_or cs k unused) ≡ true
rows_at f [] [] size e k inside = absurd (omega (arith, inside))
rows_at f [] (c ∷ cs) size e k inside = absurd (omega (arith, size))
rows_at f (row ∷ rows) [] size e k inside = absurd (omega (arith, size))
rows_at f (row ∷ rows) (c ∷ cs) size e zero inside = (and_parts (f row c) (list_all (λ r. f r.0 r.1) (zip rows cs)) e).0
rows_at f (row ∷ rows) (c ∷ cs) size e (suc k) inside =
    rows_at f rows cs (omega (arith, size)) (and_parts (f row c) (list_all (λ r. f r.0 r.1) (zip rows cs)) e).1 k (omega (arith, inside))

module _ (d : Directory) (n : Need) (sound : is_sound d n ≡ true) where
  parts : SoundNeed d n
  parts = sound-parts d n sound

  pub bodies_of : AreBodies n.bulletins
  bodies_of k b inside = (bulletin-parts d n.accepted (get_or n.bulletins k b) (all_at (is_bulletin d n.accepted) n.bulletins parts.bodies k b inside)).good

  circuit_at : (k : ℕ) → k < length n.circuits → SoundCircuit n (get_or d.circuits k no_circuit).kept (get_or n.circuits k unused)
  circuit_at k inside =
      circuit-parts n (get_or d.circuits k no_circuit).kept (get_or n.circuits k unused)
      (rows_at (λ row q. is_circuit_sound n row.kept q) d.circuits n.circuits parts.same parts.circuits k inside)

  -- a position that is kept has its bulletin
  kept_there : (k : ℕ) → k < length n.circuits → (i e : ℕ) → i < length (get_or n.circuits k unused).kept → (b : Bulletin) × (at_position (get_or (get_or n.circuits k unused).kept i e) n.bulletins ≡ Some b)
  kept_there k inside i e within =
      let q : CircuitNeed = get_or n.circuits k unused in
      let known = all_at (is_there n.bulletins) q.kept (back_part (is_there n.bulletins) q.waiting q.kept (circuit_at k inside).known) i e within in
      let found = bulletin_there (λ b. Unit {0}) n.bulletins (get_or q.kept i e) known (λ j b bound. tt) in
      (found.0, found.1)

  module _ (keys : BTreeMap ℕ (List ℕ)) (has : HasKeys n.bulletins keys) where
    pub each_known : (k : ℕ) → k < length n.circuits → All (λ p. IsSome (get nat_cmp keys p)) (get_or n.circuits k unused).kept
    each_known k inside i e within =
        let there = kept_there k inside i e within in
        let p : ℕ = get_or (get_or n.circuits k unused).kept i e in
        let some : get nat_cmp keys p ≡ Some (key_of there.0.body) = has p ∙ ap (λ (o : Option Bulletin). option_map (λ (b : Bulletin). key_of b.body) o) there.1 in
        subst (λ (o : Option (List ℕ)). IsSome o) (sym some) refl

    -- the key of each position has a row, where each bulletin has one
    pub each_row : (numbers : Numbers) → HaveRows numbers n.bulletins → HasEachRow keys numbers
    each_row numbers rows p key is = go n.bulletins rows (sym (has p) ∙ is)
      where
        go : (bs : List Bulletin) → HaveRows numbers bs → option_map (λ (b : Bulletin). key_of b.body) (at_position p bs) ≡ Some key → IsTrue (has_row numbers.rows key)
        go [] all e = absurd (cc)
        go (b ∷ bs) all e = step (b.position == p) e (λ more. go bs (λ j x bound. all (suc j) x (omega (arith, bound))) more)
          where
            step : (t : Bool) → option_map (λ (b : Bulletin). key_of b.body) (cond t (Some b) (at_position p bs)) ≡ Some key
                → (option_map (λ (b : Bulletin). key_of b.body) (at_position p bs) ≡ Some key → IsTrue (has_row numbers.rows key)) → IsTrue (has_row numbers.rows key)
            step true e rest = let same : key_of b.body ≡ key = cc in subst (λ (k : List ℕ). IsTrue (has_row numbers.rows k)) same (all 0 b (omega arith))
            step false e rest = rest e

    key_same : (p : ℕ) (b : Bulletin) → at_position p n.bulletins ≡ Some b → key_by keys p ≡ key_at n.bulletins p
    key_same p b there =
        ap (λ (o : Option (List ℕ)). unwrap_or o []) (has p ∙ ap (λ (o : Option Bulletin). option_map (λ (b : Bulletin). key_of b.body) o) there)
        ∙ sym (ap (λ (o : Option Bulletin). key_of (elim o as (λ _. List ℕ) [ None ↦ [] | Some b ↦ b.body ])) there)

    same_keys : (k : ℕ) → k < length n.circuits → map (key_by keys) (get_or n.circuits k unused).kept ≡ map (key_at n.bulletins) (get_or n.circuits k unused).kept
    same_keys k inside = go (get_or n.circuits k unused).kept (λ i e within. kept_there k inside i e within)
      where
        go : (ps : List ℕ) → ((i e : ℕ) → i < length ps → (b : Bulletin) × (at_position (get_or ps i e) n.bulletins ≡ Some b)) → map (key_by keys) ps ≡ map (key_at n.bulletins) ps
        go [] there = refl
        go (p ∷ ps) there =
            let first = there 0 p (omega arith) in
            ap (λ (x : List ℕ). x ∷ map (key_by keys) ps) (key_same p first.0 first.1)
            ∙ ap (λ (xs : List (List ℕ)). key_at n.bulletins p ∷ xs) (go ps (λ i e within. there (suc i) e (omega (arith, within))))

    module _ (none mid new : Numbers) (begins : Begins d none) (all : NotesAll d n.accepted n.bulletins none mid) (draws : NotesDraws keys n.circuits mid new) where
      recent_now : new.recent.items ≡ recent_in d n.accepted n.bulletins
      recent_now =
          ap (λ b. b.items) draws.recent ∙ all.recent
          ∙ starts_window d.window n.accepted [] (recent_in d n.accepted n.bulletins) (held_window d (begun n) (held-begun d n sound))

      count : length new.drawn.items ≡ length n.circuits
      count =
          omega (
            arith,
            draws.count,
            ap (λ v. length v.items) all.drawn,
            length-map none.drawn.items (λ (q : Buffer (List ℕ)). q.capacity),
            ap length begins.rings.kept,
            length-map d.circuits (λ (row : Circuit). row.kept),
            parts.same,
          )

      -- a ring of no draws that has room for all that a circuit keeps
      ring_now : (k : ℕ) → k < length n.circuits → (ring_at new k).items ≡ map (key_at n.bulletins) (get_or n.circuits k unused).kept
      ring_now k inside =
          let q : CircuitNeed = get_or n.circuits k unused in
          let there : k < length none.drawn.items = omega (arith, inside, count, draws.count, ap (λ v. length v.items) all.drawn) in
          let mid_is : ring_at mid k ≡ ring_at none k = ap (λ v. get_or v.items k no_ring) all.drawn in
          let room : (ring_at none k).capacity ≡ (get_or d.circuits k no_circuit).kept =
          sym (get_or-map (λ (r : Buffer (List ℕ)). r.capacity) none.drawn.items k no_ring 0 there)
          ∙ ap (λ (ks : List ℕ). get_or ks k 0) begins.rings.kept
          ∙ get_or-map (λ (row : Circuit). row.kept) d.circuits k no_circuit 0 (omega (arith, inside, parts.same)) in
          let empty : (ring_at none k).items ≡ [] =
          sym (get_or-map (λ (r : Buffer (List ℕ)). r.items) none.drawn.items k no_ring [] there)
          ∙ ap (λ (kss : List (List (List ℕ))). get_or kss k []) begins.drawn
          ∙ get_or-map (λ (row : Circuit). []) d.circuits k no_circuit [] (omega (arith, inside, parts.same)) in
          let ks : List (List ℕ) = map (key_by keys) q.kept in
          let few : length ks - (ring_at none k).capacity ≡ 0 = omega (arith, length-map q.kept (key_by keys), (circuit_at k inside).size, room) in
          ap (λ (r : Buffer (List ℕ)). r.items) (draws.noted k inside)
          ∙ ap (λ (r : Buffer (List ℕ)). keep_last r.capacity (r.items ++ ks)) mid_is
          ∙ ap (λ (xs : List (List ℕ)). keep_last (ring_at none k).capacity (xs ++ ks)) empty
          ∙ ap (λ (j : ℕ). drop j ks) few
          ∙ same_keys k inside

      drawn_now : map (λ (r : Buffer (List ℕ)). r.items) new.drawn.items ≡ map (λ (c : CircuitNeed). map (key_at n.bulletins) c.kept) n.circuits
      drawn_now =
          ext_get_or [] (map (λ (r : Buffer (List ℕ)). r.items) new.drawn.items) (map (λ (c : CircuitNeed). map (key_at n.bulletins) c.kept) n.circuits)
          (omega (arith, length-map new.drawn.items (λ (r : Buffer (List ℕ)). r.items), length-map n.circuits (λ (c : CircuitNeed). map (key_at n.bulletins) c.kept), count))
          (λ k inside.
          let bound : k < length n.circuits = omega (arith, inside, length-map new.drawn.items (λ (r : Buffer (List ℕ)). r.items), count) in
          get_or-map (λ (r : Buffer (List ℕ)). r.items) new.drawn.items k no_ring [] (omega (arith, bound, count))
          ∙ ring_now k bound
          ∙ sym (get_or-map (λ (c : CircuitNeed). map (key_at n.bulletins) c.kept) n.circuits k unused [] bound))

      kept_now : map (λ (r : Buffer (List ℕ)). r.capacity) new.drawn.items ≡ map (λ (row : Circuit). row.kept) d.circuits
      kept_now =
          ext_get_or 0 (map (λ (r : Buffer (List ℕ)). r.capacity) new.drawn.items) (map (λ (row : Circuit). row.kept) d.circuits)
          (omega (arith, length-map new.drawn.items (λ (r : Buffer (List ℕ)). r.capacity), length-map d.circuits (λ (row : Circuit). row.kept), count, parts.same))
          (λ k inside.
          let bound : k < length n.circuits = omega (arith, inside, length-map new.drawn.items (λ (r : Buffer (List ℕ)). r.capacity), count) in
          get_or-map (λ (r : Buffer (List ℕ)). r.capacity) new.drawn.items k no_ring 0 (omega (arith, bound, count))
          ∙ ap (λ (r : Buffer (List ℕ)). r.capacity) (draws.noted k bound)
          ∙ ap (λ v. (get_or v.items k no_ring).capacity) all.drawn
          ∙ sym (get_or-map (λ (r : Buffer (List ℕ)). r.capacity) none.drawn.items k no_ring 0 (omega (arith, bound, count, draws.count, ap (λ v. length v.items) all.drawn)))
          ∙ ap (λ (ks : List ℕ). get_or ks k 0) begins.rings.kept)

      pub starts : Starts d n new
      starts = record {
        rings = record {
          sound = draws.sound;
          window = ap (λ b. b.capacity) draws.recent ∙ all.rings.window;
          kept = kept_now;
        };
        counted = tally_is (tally_of new) (tally d n) recent_now drawn_now;
        rows = λ k b inside. draws.rows (key_of (get_or n.bulletins k b).body) ∙ all.rows k b inside;
      }

  -- the numbers of the start follow each history that stands at this need
  pub start_follows : (s : State) (numbers : Numbers) → keeps_one d ≡ true → IsOrdered d s → need d s ≡ n → Starts d n numbers → Follows d s numbers
  start_follows s numbers keeps ordered is starts = record {
    sound = starts.rings.sound;
    numbers = starts.counted ∙ sym (ap (tally d) is);
    window = starts.rings.window;
    kept = starts.rings.kept;
    keeps = keeps;
    state = begun n;
    same = record { first = ordered; second = ordered-begun d n sound; same = is ∙ sym (need-begun d n sound) };
    held = held-begun d n sound;
    rows = starts.rows;
  }
