-- The numbers of a start: nothing, and what is noted.
use Rattle.gts_count.proofs.Cited.{◌≡◌, ℕ, zero, suc, ◌+◌, ◌<◌, ◌≤◌, ◌^◌, Bool, true, false, cond, nat_eq, List, [], ◌∷◌, ◌++◌, length, get_or, take, map, replicate, sum_by, slice_get, Some, refl, sym, ap, subst, ◌∙◌, arith, IsTrue, All, Begins, Buffer, Bulletin, Circuit, Directory, HasRings, IsRing, IsSmall, MOST_KEPT, MOST_KEPT_OF_FIVE, Notes, NotesStart, Numbers, Prepares, Recent, Row, buffer, came, counted, draws_among, has_row, is_bulletin, is_recent, key_of, lookup, no_row, nothing_drawn, pointwise, row_in, tally_of, take-suc, length-map, length-replicate, map-append, sum_by-cons, All-append, get_or_from_slice_get, slice_get_within, bulletin-parts, common_steps}
use Rattle.gts_count.proofs.SoundLemmas.{single}
use Rattle.gts_count.proofs.KeyLemmas.{key_body}

-- one row more
pub row_more : {Y : Type 0} (f : Circuit → Y) (rows : List Circuit) (c : ℕ) (row : Circuit) (ys : List Y) (y : Y) → slice_get rows c ≡ Some row → ys ≡ map f (take c rows) → y ≡ f row → ys ++ y ∷ [] ≡ map f (take (c + 1) rows)
row_more {Y} f rows c row ys y at so_far is =
    let next : suc c ≡ c + 1 = omega arith in
    ap (λ (l : List Y). l ++ y ∷ []) so_far
    ∙ ap (λ (z : Y). map f (take c rows) ++ z ∷ []) (is ∙ ap f (sym (get_or_from_slice_get rows c row row at)))
    ∙ sym (map-append f (take c rows) (get_or rows c row ∷ []))
    ∙ ap (map f) (sym (take-suc rows c row (slice_get_within rows c row at)) ∙ ap (λ (k : ℕ). take k rows) next)

pub few_kept : (b : Bool) (n : ℕ) → n ≤ cond b MOST_KEPT_OF_FIVE MOST_KEPT → n < 2 ^ 32
few_kept true n few = omega (arith, few)
few_kept false n few = omega (arith, few)

pub ring_more : (rings : List (Buffer (List ℕ))) (ring : Buffer (List ℕ)) (kept : ℕ) → ring ≡ buffer [] kept → 1 ≤ kept → kept < 2 ^ 32 → All IsRing rings → All IsRing (rings ++ ring ∷ [])
ring_more rings ring kept is some few all = grind (arith, common_steps, All-append, single)

-- ---- nothing

abbrev zeros_of : ℕ → List ℕ
zeros_of n = replicate n 0

nothing_at : (c n : ℕ) → get_or (zeros_of n) c 0 ≡ zero
nothing_at c zero = refl
nothing_at zero (suc n) = refl
nothing_at (suc c) (suc n) = nothing_at c n

size_replicate : (n : ℕ) → length (zeros_of n) ≡ n
size_replicate n = length-replicate n zero

no_keys : (rows : List Circuit) → map (λ (q : Buffer (List ℕ)). q.items) (map (λ (row : Circuit). buffer [] row.kept) rows) ≡ map (λ (row : Circuit). []) rows
no_keys [] = refl
no_keys (row ∷ rows) = ap (λ (l : List (List (List ℕ))). [] ∷ l) (no_keys rows)

no_draw : (key : List ℕ) (rows : List Circuit) → sum_by (draws_among key) (map (λ (row : Circuit). []) rows) ≡ 0
no_draw key [] = refl
no_draw key (row ∷ rows) = sum_by-cons (draws_among key) [] (map (λ (row : Circuit). []) rows) ∙ omega (arith, no_draw key rows)

capacities : (rows : List Circuit) → map (λ (q : Buffer (List ℕ)). q.capacity) (map (λ (row : Circuit). buffer [] row.kept) rows) ≡ map (λ (row : Circuit). row.kept) rows
capacities [] = refl
capacities (row ∷ rows) = ap (λ (l : List ℕ). row.kept ∷ l) (capacities rows)

pub begins : (d : Directory) (n : Numbers) → n.recent ≡ buffer [] d.window → n.drawn.items ≡ map (λ (row : Circuit). buffer [] row.kept) d.circuits → n.rows.entries ≡ [] → n.came.items ≡ zeros_of (length d.circuits)
    → All IsRing n.drawn.items → 1 ≤ d.window → d.window < 2 ^ 32 → length d.circuits < 2 ^ 31 → Begins d n
begins d n recent drawn rows came_in kept wide narrow few = record {
  rings = record {
    sound = record {
      rows = λ key. ap (λ (es : List (List ℕ × Row)). row_in (lookup (pointwise nat_eq key) es)) rows ∙ sym (zeros key);
      came = λ c inside. ap (λ (xs : List ℕ). get_or xs c 0) came_in ∙ nothing_at c (length d.circuits) ∙ sym (ap (λ (rs : List Recent). came (record { recent = rs; drawn = map (λ (q : Buffer (List ℕ)). q.items) n.drawn.items }) c) none);
      small = subst (λ (rs : List Recent). All (IsSmall (length n.came.items)) rs) (sym none) (λ k d inside. absurd (omega (arith, inside)));
      window = (omega (arith, ap length none), omega (arith, wide, room), omega (arith, narrow, room));
      kept = kept;
      circuits = (omega (arith, size, count), omega (arith, size, few));
    };
    window = room;
    kept = ap (map (λ (q : Buffer (List ℕ)). q.capacity)) drawn ∙ capacities d.circuits;
  };
  recent = none;
  drawn = keys;
}
  where
    none : n.recent.items ≡ []
    none = ap (λ (b : Buffer Recent). b.items) recent

    room : n.recent.capacity ≡ d.window
    room = ap (λ (b : Buffer Recent). b.capacity) recent

    keys : map (λ (q : Buffer (List ℕ)). q.items) n.drawn.items ≡ nothing_drawn d
    keys = ap (map (λ (q : Buffer (List ℕ)). q.items)) drawn ∙ no_keys d.circuits

    size : length n.drawn.items ≡ length d.circuits
    size = ap length drawn ∙ length-map d.circuits (λ (row : Circuit). buffer [] row.kept)

    count : length n.came.items ≡ length d.circuits
    count = ap length came_in ∙ size_replicate (length d.circuits)

    zeros : (key : List ℕ) → counted (tally_of n) key ≡ no_row
    zeros key =
        ap (λ (rs : List Recent). counted (record { recent = rs; drawn = map (λ (q : Buffer (List ℕ)). q.items) n.drawn.items }) key) none
        ∙ ap (λ (ks : List (List (List ℕ))). counted (record { recent = []; drawn = ks }) key) keys
        ∙ ap (λ (k : ℕ). record no_row { draws = k }) (no_draw key d.circuits)

-- ---- a bulletin is noted

pub rings_prepared : (d : Directory) (old new : Numbers) → Prepares old new → HasRings d old → HasRings d new
rings_prepared d old new p h = grind (arith, common_steps)

pub rings_noted : (d : Directory) (old new : Numbers) (r : Recent) → Notes old new r → HasRings d old → HasRings d new
rings_noted d old new r p h = grind (arith, common_steps)

-- the key of a bulletin of a start
pub start_key : (d : Directory) (accepted : ℕ) (b : Bulletin) (key : List ℕ) → is_bulletin d accepted b ≡ true → (11 ≤ length b.body → key ≡ take 11 b.body) → key ≡ key_of b.body
start_key d accepted b key is read = let k = key_body b.body (bulletin-parts d accepted b is).good in read k.0 ∙ k.1

pub start_passed : (d : Directory) (accepted : ℕ) (b : Bulletin) (key : List ℕ) (old new : Numbers) → key ≡ key_of b.body → is_recent d accepted b.position ≡ false → Prepares old new → IsTrue (has_row new.rows key) → NotesStart d accepted b old new
start_passed d accepted b key old new is far p has = grind (arith, common_steps, rings_prepared)

pub start_joined : (d : Directory) (accepted : ℕ) (b : Bulletin) (key : List ℕ) (old mid new : Numbers) → key ≡ key_of b.body → is_recent d accepted b.position ≡ true → Prepares old mid → IsTrue (has_row mid.rows key)
    → Notes mid new (record { position = b.position; key = key; from = b.from; bytes = length b.body }) → NotesStart d accepted b old new
start_joined d accepted b key old mid new is near p has noted = grind (arith, common_steps, rings_noted, rings_prepared)
