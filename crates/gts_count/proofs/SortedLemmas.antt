-- The rows put in order, one after another.
use Rattle.gts_count.proofs.Cited.{◌≡◌, ℕ, Bool, true, false, cond, nat_eq, List, [], ◌∷◌, Option, Some, None, refl, sym, ap, ◌∙◌, All, AreInOrder, Row, Rows, SortedRows, bytes_below, is_eq, lookup, pointwise, All-head, All-same, All-rest, same_from_pointwise, common_steps, arith}
use Rattle.std.specs.BTreeMap as tree
use Rattle.std.specs.HashMap as hash
use Rattle.gts_count.proofs.RowLemmas.{same_test}

-- what was found, or else the other
abbrev pub found_or : Option Row → Option Row → Option Row
found_or None other = other
found_or (Some row) other = Some row

-- an entry is the one that is found under its key
abbrev pub IsOwn : Rows → List ℕ × Row → Type 0
IsOwn rows e = hash.get (pointwise nat_eq) rows e.0 ≡ Some e.1

-- each key has its row among those in order, or among those that are left
abbrev pub IsSorting : Rows → SortedRows → List (List ℕ × Row) → Type 0
IsSorting rows sorted left =
    All (IsOwn rows) left
    × ((key : List ℕ) → found_or (tree.get bytes_below sorted key) (lookup (pointwise nat_eq key) left) ≡ hash.get (pointwise nat_eq) rows key)

pub none_sorted : (rows : Rows) (sorted : SortedRows) (left : List (List ℕ × Row)) → sorted.entries ≡ [] → left ≡ rows.entries → All (IsOwn rows) rows.entries → IsSorting rows sorted left
none_sorted rows sorted left empty all own = grind (arith, common_steps, All-same)

pub one_sorted : (rows : Rows) (old new : SortedRows) (k : List ℕ) (row : Row) (left rest : List (List ℕ × Row)) → left ≡ (k, row) ∷ rest → IsSorting rows old left
    → ((q : List ℕ) → tree.get bytes_below new q ≡ cond (is_eq (bytes_below k q)) (Some row) (tree.get bytes_below old q)) → IsSorting rows new rest
one_sorted rows old new k row left rest first so_far updates = (
  All-rest (IsOwn rows) (k, row) rest left first so_far.0,
  λ q.
      ap (λ (o : Option Row). found_or o (lookup (pointwise nat_eq q) rest)) (updates q)
      ∙ ap (λ (b : Bool). found_or (cond b (Some row) (tree.get bytes_below old q)) (lookup (pointwise nat_eq q) rest)) (same_test k q)
      ∙ go q (pointwise nat_eq q k) refl,
)
  where
    own : hash.get (pointwise nat_eq) rows k ≡ Some row
    own = All-head (IsOwn rows) (k, row) rest (All-same (IsOwn rows) ((k, row) ∷ rest) left (sym first) so_far.0)

    was : (q : List ℕ) → found_or (tree.get bytes_below old q) (cond (pointwise nat_eq q k) (Some row) (lookup (pointwise nat_eq q) rest)) ≡ hash.get (pointwise nat_eq) rows q
    was q = sym (ap (λ (es : List (List ℕ × Row)). found_or (tree.get bytes_below old q) (lookup (pointwise nat_eq q) es)) first) ∙ so_far.1 q

    go : (q : List ℕ) (b : Bool) → pointwise nat_eq q k ≡ b → found_or (cond b (Some row) (tree.get bytes_below old q)) (lookup (pointwise nat_eq q) rest) ≡ hash.get (pointwise nat_eq) rows q
    go q true same = sym own ∙ ap (λ (x : List ℕ). hash.get (pointwise nat_eq) rows x) (sym (same_from_pointwise q k same))
    go q false other = sym (ap (λ (b : Bool). found_or (tree.get bytes_below old q) (cond b (Some row) (lookup (pointwise nat_eq q) rest))) other) ∙ was q

or_none : (o : Option Row) → found_or o None ≡ o
or_none None = refl
or_none (Some row) = refl

pub all_sorted : (rows : Rows) (sorted : SortedRows) (left : List (List ℕ × Row)) → left ≡ [] → IsSorting rows sorted left → AreInOrder rows sorted
all_sorted rows sorted left none so_far key = grind (arith, common_steps, or_none)
