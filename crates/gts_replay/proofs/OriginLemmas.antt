-- The origin as the journal is compacted.
use Rattle.gts_replay.proofs.Cited.{◌≡◌, ℕ, ◌+◌, ◌<◌, ◌≤◌, Bool, true, false, nat_le, cond, List, [], ◌∷◌, ◌++◌, length, take, refl, sym, ap, ◌∙◌, arith, length-append, AllByRecursion, Compact, Directory, Entry, Standing, State, Step, compacted_at, compactions_at, count_at, done_by, entries_at, no_bytes, origin_after, origin_behind, state_at, le-leb, leb-true, append-nil, take-append-le, filter-append, take-append_seam, compactions_go_on, compactions_between, common_steps}

abbrev pub AllWithin : ℕ → List ℕ → Type 0
AllWithin n ks = AllByRecursion (λ k. k ≤ n) ks

abbrev pub AllBehind : ℕ → List ℕ → Type 0
AllBehind n ks = AllByRecursion (λ k. n < k) ks

pub wider : (m n : ℕ) (ks : List ℕ) → m ≤ n → AllWithin m ks → AllWithin n ks
wider m n [] le each = tt
wider m n (k ∷ ks) le each = (omega (arith, le, each.0), wider m n ks le each.1)

pub within_append : (n : ℕ) (xs ys : List ℕ) → AllWithin n xs → AllWithin n ys → AllWithin n (xs ++ ys)
within_append n [] ys each more = more
within_append n (x ∷ xs) ys each more = (each.0, within_append n xs ys each.1 more)

pub behind_append : (n : ℕ) (xs ys : List ℕ) → AllBehind n xs → AllBehind n ys → AllBehind n (xs ++ ys)
behind_append n [] ys each more = more
behind_append n (x ∷ xs) ys each more = (each.0, behind_append n xs ys each.1 more)

-- ---- which compactions were done by then

test_is : (k n : ℕ) (b : Bool) → nat_le k n ≡ b → (ks : List ℕ) → done_by n (k ∷ ks) ≡ cond b (k ∷ done_by n ks) (done_by n ks)
test_is k n b e ks = ap (λ (t : Bool). cond t (k ∷ done_by n ks) (done_by n ks)) e

pub all_done_by : (n : ℕ) (ks : List ℕ) → AllWithin n ks → done_by n ks ≡ ks
all_done_by n [] each = refl
all_done_by n (k ∷ ks) each = test_is k n true (le-leb k n each.0) ks ∙ ap (λ (xs : List ℕ). k ∷ xs) (all_done_by n ks each.1)

pub none_done_by : (n : ℕ) (ks : List ℕ) → AllBehind n ks → done_by n ks ≡ []
none_done_by n [] each = refl
none_done_by n (k ∷ ks) each = test_is k n false (no (nat_le k n) refl) ks ∙ none_done_by n ks each.1
  where
    no : (b : Bool) → nat_le k n ≡ b → nat_le k n ≡ false
    no false e = e
    no true e = absurd (let le : k ≤ n = leb-true k n e in omega (arith, le, each.0))

-- ---- the origin with its compactions

module _ {O W : Type 0} (meanings : Standing O W) where
  pub compacted_front : (o : O) (h x : List Entry) (ks : List ℕ) → AllWithin (length h) ks → compacted_at meanings o (h ++ x) ks ≡ compacted_at meanings o h ks
  compacted_front o h x [] each = refl
  compacted_front o h x (k ∷ ks) each =
      compacted_front (meanings.compacts o (take k (h ++ x))) h x ks each.1
      ∙ ap (λ (t : List Entry). compacted_at meanings (meanings.compacts o t) h ks) (take-append-le k h x each.0)

  compacted_append : (o : O) (h : List Entry) (xs ys : List ℕ) → compacted_at meanings o h (xs ++ ys) ≡ compacted_at meanings (compacted_at meanings o h xs) h ys
  compacted_append o h [] ys = refl
  compacted_append o h (x ∷ xs) ys = compacted_append (meanings.compacts o (take x h)) h xs ys

  -- the compaction of a step behind entries
  one_compacted : (o : O) (h x : List Entry) (step : Step) → compacted_at meanings o (h ++ x) (count_at (length h) step) ≡ origin_after meanings o h step
  one_compacted o h x Compact = ap (λ (t : List Entry). meanings.compacts o t) (take-append_seam h x)
  one_compacted o h x step = refl

  -- the origin behind a front is the same, whatever is compacted behind it
  pub origin_is : (o : O) (x y front tail : List Entry) (ks later : List ℕ) → x ++ y ≡ front ++ tail → AllWithin (length x) ks → AllWithin (length front) ks → AllBehind (length front) later
      → origin_behind meanings o (ks ++ later) front ≡ compacted_at meanings o x ks
  origin_is o x y front tail ks later parts inside each none =
      let n : ℕ = length front in
      let all : done_by n (ks ++ later) ≡ ks =
      filter-append (λ k. nat_le k n) ks later ∙ ap (λ (xs : List ℕ). done_by n ks ++ xs) (none_done_by n later none) ∙ append-nil (done_by n ks) ∙ all_done_by n ks each in
      ap (λ (xs : List ℕ). compacted_at meanings o front xs) all ∙ sym (compacted_front o front tail ks each) ∙ ap (λ (t : List Entry). compacted_at meanings o t ks) (sym parts)
      ∙ compacted_front o x y ks inside

  module _ (begun : W) (o : O) (h : List Entry) (steps : List Step) where
    abbrev d : Directory
    d = meanings.directory begun

    abbrev s : State
    s = state_at meanings begun o h

    abbrev es : List Entry
    es = entries_at meanings begun o h steps

    abbrev ks : List ℕ
    ks = compactions_at meanings begun o h steps

    pub counts_within : AllWithin (length (h ++ es)) ks
    counts_within = go ks (compactions_between d s (no_bytes d) (length h) steps)
      where
        go : (xs : List ℕ) → AllByRecursion (λ k. (length h ≤ k) × (k ≤ length h + length es)) xs → AllWithin (length (h ++ es)) xs
        go [] each = tt
        go (x ∷ xs) each = (omega (arith, each.0.1, length-append h es), go xs each.1)

    -- the compactions of one step more
    pub counts_more : (step : Step) → compactions_at meanings begun o h (steps ++ step ∷ []) ≡ ks ++ count_at (length (h ++ es)) step
    counts_more step = grind (arith, common_steps, compactions_go_on, append-nil)

    pub origin_more : (step : Step) (added : List Entry) → h ++ entries_at meanings begun o h (steps ++ step ∷ []) ≡ (h ++ es) ++ added
        → compacted_at meanings o (h ++ entries_at meanings begun o h (steps ++ step ∷ [])) (compactions_at meanings begun o h (steps ++ step ∷ []))
        ≡ origin_after meanings (compacted_at meanings o (h ++ es) ks) (h ++ es) step
    origin_more step added is = grind (arith, common_steps, counts_more, compacted_append, compacted_front, counts_within, one_compacted)
