-- A start is noted item by item: its bulletins, the keys by their positions, and the kept draws.
use Rattle.gts_count.proofs.Cited.{◌≡◌, ℕ, ◌+◌, ◌<◌, Bool, true, false, ◌==◌, cond, List, [], ◌∷◌, ◌++◌, length, get_or, take, map, filter, Option, Some, None, is_some, refl, sym, ap, subst, ◌∙◌, arith, IsTrue, option_map, All, BTreeMap, Buffer, Bulletin, CircuitNeed, Directory, HasKeys, NotesAll, NotesDraw, NotesDraws, NotesKept, NotesStart, Numbers, Recent, all_joined, at_position, has_row, is_eq, is_recent, kept_with, key_of, nat_cmp, recent_in, recent_of, ring_with, eqb-true, eq-eqb, ne_eqb, cases_lt, cases_eq, length-map, map-append, take-map, get_or-map, get_or-set_same, get_or-set_other, set-set, length-set, All-append, filter-append, last_more, common_steps}
use Rattle.gts_count.specs.Cited.{get}
use Rattle.gts_count.proofs.SoundLemmas.{single}
use Rattle.gts_count.proofs.StepLemmas.{all_joined-append}

-- one item more
pub item_more : {A B : Type 0} (f : A → B) (xs : List A) (i : ℕ) (x : A) → i < length xs → x ≡ get_or xs i x → take (i + 1) (map f xs) ≡ take i (map f xs) ++ f x ∷ []
item_more {A} {B} f xs i x inside is = grind (arith, common_steps, take-map, map-append)

pub plain_more : {A : Type 0} (xs : List A) (i : ℕ) (x : A) → i < length xs → x ≡ get_or xs i x → take (i + 1) xs ≡ take i xs ++ x ∷ []
plain_more {A} xs i x inside is = grind (arith, common_steps)

pub all_item : {A B : Type 0} (P : B → Type 0) (f : A → B) (xs : List A) (i : ℕ) (x : A) → All P (map f xs) → i < length xs → x ≡ get_or xs i x → P (f x)
all_item {A} {B} P f xs i x all inside is =
    subst P (get_or-map f xs i x (f x) inside ∙ ap f (sym is)) (all i (f x) (omega (arith, inside, length-map xs f)))

-- ---- bulletins

pub all_more : (d : Directory) (accepted : ℕ) (bs : List Bulletin) (b : Bulletin) (old mid new : Numbers) → NotesAll d accepted bs old mid → NotesStart d accepted b mid new → NotesAll d accepted (bs ++ b ∷ []) old new
all_more d accepted bs b old mid new all one = record {
  rings = one.rings all.rings;
  recent =
      one.recent
      ∙ ap (λ (k : ℕ). all_joined k mid.recent.items (recent_in d accepted (b ∷ []))) all.rings.window
      ∙ ap (λ (rs : List Recent). all_joined d.window rs (recent_in d accepted (b ∷ []))) all.recent
      ∙ all_joined-append d.window [] (recent_in d accepted bs) (recent_in d accepted (b ∷ []))
      ∙ ap (all_joined d.window []) (sym joined);
  drawn = one.drawn ∙ all.drawn;
  rows = All-append (λ (x : Bulletin). IsTrue (has_row new.rows (key_of x.body))) bs (b ∷ [])
      (λ k x inside. one.rows (key_of (get_or bs k x).body) (all.rows k x inside))
      (single (λ (x : Bulletin). IsTrue (has_row new.rows (key_of x.body))) b one.has);
}
  where
    joined : recent_in d accepted (bs ++ b ∷ []) ≡ recent_in d accepted bs ++ recent_in d accepted (b ∷ [])
    joined = ap (map recent_of) (filter-append (λ (x : Bulletin). is_recent d accepted x.position) bs (b ∷ []))
        ∙ map-append recent_of (filter (λ (x : Bulletin). is_recent d accepted x.position) bs) (filter (λ (x : Bulletin). is_recent d accepted x.position) (b ∷ []))

-- ---- keys by position

cmp_is : (a q : ℕ) → is_eq (nat_cmp a q) ≡ (a == q)
cmp_is a q = grind (arith, common_steps, cases_lt, ne_eqb, cases_eq, eq-eqb)

abbrev or_new : Option Bulletin → Bool → Bulletin → Option Bulletin
or_new found here b = elim found as (λ _. Option Bulletin) [ None ↦ cond here (Some b) None | Some x ↦ Some x ]

position_more : (p : ℕ) (bs : List Bulletin) (b : Bulletin) → at_position p (bs ++ b ∷ []) ≡ or_new (at_position p bs) (b.position == p) b
position_more p [] b = refl
position_more p (x ∷ bs) b = grind (arith, common_steps, position_more p bs b)

abbrev key_found : Option Bulletin → Option (List ℕ)
key_found o = option_map (λ (b : Bulletin). key_of b.body) o

pub key_kept : (bs : List Bulletin) (b : Bulletin) (keys : BTreeMap ℕ (List ℕ)) → HasKeys bs keys → is_some (get nat_cmp keys b.position) ≡ true → HasKeys (bs ++ b ∷ []) keys
key_kept bs b keys has known p = grind (arith, common_steps, position_more, eqb-true)

pub key_new : (bs : List Bulletin) (b : Bulletin) (key : List ℕ) (old new : BTreeMap ℕ (List ℕ)) → HasKeys bs old → is_some (get nat_cmp old b.position) ≡ false → key ≡ key_of b.body
    → ((q : ℕ) → get nat_cmp new q ≡ cond (is_eq (nat_cmp b.position q)) (Some key) (get nat_cmp old q)) → HasKeys (bs ++ b ∷ []) new
key_new bs b key old new has none is updates p = grind (arith, common_steps, cmp_is, position_more, eqb-true)

-- ---- kept draws

ring_more : (ring : Buffer (List ℕ)) (ks : List (List ℕ)) (key : List ℕ) → kept_with (ring_with ring ks) key ≡ ring_with ring (ks ++ key ∷ [])
ring_more ring ks key = grind (arith, common_steps, last_more)

pub kept_more : (keys : BTreeMap ℕ (List ℕ)) (c : ℕ) (ps : List ℕ) (p : ℕ) (key : List ℕ) (old mid new : Numbers) → c < length old.drawn.items → get nat_cmp keys p ≡ Some key → NotesKept keys c ps old mid → NotesDraw mid new c key
    → NotesKept keys c (ps ++ p ∷ []) old new
kept_more keys c ps p key old mid new inside known all one = grind (arith, common_steps, get_or-set_same, set-set, ring_more, map-append)

-- ---- all circuits

pub draws_more : (keys : BTreeMap ℕ (List ℕ)) (cs : List CircuitNeed) (q : CircuitNeed) (old mid new : Numbers) → length cs < length old.drawn.items → NotesDraws keys cs old mid → NotesKept keys (length cs) q.kept mid new
    → NotesDraws keys (cs ++ q ∷ []) old new
draws_more keys cs q old mid new inside all one = grind (arith, common_steps, length-set, cases_lt, get_or-set_other, get_or-set_same)
