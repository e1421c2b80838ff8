-- The keys of the rows that have numbers are those that are counted, each once, ascending.
use Rattle.gts_count.proofs.Cited.{◌≡◌, ℕ, ◌+◌, ◌≤◌, Bool, true, false, ◌||◌, ◌==◌, cond, inl, inr, nat_eq, List, [], ◌∷◌, ◌++◌, map, filter, fold, flat_map, sum_by, Option, Some, None, refl, sym, ap, ◌∙◌, arith, Equal, Greater, Less, Ordering, Recent, Row, SortedRows, Tally, bytes_below, counted, draws_among, entry_text, insert_entry, is_at, is_counted, is_eq, is_of, key_line, key_lines, keys, list_any, lookup, match_ordering, once, ordering_reverse, pointwise, row_in, with_key, IsStrictlySortedBy, true≢false, eq-eqb, ne_eqb, or_cases, or_parts, nat_list_cmp_total, nat_list_eq_equiv, exact_bytes, sum_by-cons, same_from_pointwise as same_numbers, common_steps}
use Rattle.gts_count.specs.Cited.{AllByRecursion}
use Rattle.gts_count.proofs.RowLemmas.{same_test}
use Rattle.gts_count.proofs.OrderedLemmas.{Up, one_list}

abbrev Entries : Type 0 → Type 0
Entries X = List (List ℕ × X)

abbrev keys_in : {X : Type 0} → Entries X → List (List ℕ)
keys_in es = map (λ e. e.0) es

-- a key below another
abbrev Under : List ℕ → List ℕ → Type 0
Under a b = bytes_below a b ≡ Less

-- ---- insertions keep the order

all_with : {X : Type 0} (P : List ℕ → Type 0) (es : Entries X) (k : List ℕ) (v : X) → AllByRecursion P (keys_in es) → P k → AllByRecursion P (keys_in (insert_entry bytes_below es k v))
all_with P [] k v all here = (here, all)
all_with {X} P (e ∷ es) k v all here = grind (arith, common_steps, all_with P es k v all.1 here)

all_below : (k x : List ℕ) (ys : List (List ℕ)) → Under k x → AllByRecursion (Under x) ys → AllByRecursion (Under k) ys
all_below k x [] less all = all
all_below k x (y ∷ ys) less all = (nat_list_cmp_total.trans k x y less all.0, all_below k x ys less all.1)

above : (a b : List ℕ) → bytes_below a b ≡ Greater → Under b a
above a b is = nat_list_cmp_total.antisymm b a ∙ ap ordering_reverse is

up_with : {X : Type 0} (es : Entries X) (k : List ℕ) (v : X) → Up Under (keys_in es) → Up Under (keys_in (insert_entry bytes_below es k v))
up_with [] k v up = (tt, tt)
up_with {X} (e ∷ es) k v up = go (bytes_below k e.0) refl (up_with es k v up.1)
  where
    go : (o : Ordering) → bytes_below k e.0 ≡ o → Up Under (keys_in (insert_entry bytes_below es k v)) → Up Under (keys_in (match_ordering o ((k, v) ∷ e ∷ es) ((e.0, v) ∷ es) (e ∷ insert_entry bytes_below es k v)))
    go Less is rest = ((is, all_below k e.0 (keys_in es) is up.0), up)
    go Equal is rest = up
    go Greater is rest = (all_with (Under e.0) es k v up.0 (above k e.0 is), rest)

up_from : (found : List (List ℕ)) (es : Entries (Unit {0})) → Up Under (keys_in es) → Up Under (keys_in (fold with_key es found))
up_from [] es up = up
up_from (k ∷ found) es up = up_from found (with_key es k) (up_with es k tt up)

pub keys_up : (t : Tally) → Up Under (keys t)
keys_up t = up_from (map (λ r. r.key) t.recent ++ flat_map (λ kept. kept) t.drawn) [] tt

-- ---- who is there behind insertions

abbrev there : List ℕ → List (List ℕ) → Bool
there key ks = list_any (pointwise nat_eq key) ks

once_more : (a b : Bool) → (a || b) ≡ (a || (a || b))
once_more true b = refl
once_more false b = refl

turned : (a b c : Bool) → (a || (b || c)) ≡ (b || (a || c))
turned true true c = refl
turned true false c = refl
turned false b c = refl

moved : (a b c : Bool) → (b || (a || c)) ≡ (a || b || c)
moved true true c = refl
moved true false c = refl
moved false b c = refl

there_with : (es : Entries (Unit {0})) (k : List ℕ) (key : List ℕ) → there key (keys_in (insert_entry bytes_below es k tt)) ≡ (pointwise nat_eq key k || there key (keys_in es))
there_with [] k key = refl
there_with (e ∷ es) k key = grind (arith, common_steps, exact_bytes, once_more, turned, there_with es k key)

there_from : (found : List (List ℕ)) (es : Entries (Unit {0})) (key : List ℕ) → there key (keys_in (fold with_key es found)) ≡ (there key found || there key (keys_in es))
there_from [] es key = refl
there_from (k ∷ found) es key =
    there_from found (with_key es k) key
    ∙ ap (λ (b : Bool). there key found || b) (there_with es k key)
    ∙ moved (pointwise nat_eq key k) (there key found) (there key (keys_in es))

or_none : (a : Bool) → (a || false) ≡ a
or_none true = refl
or_none false = refl

there_keys : (t : Tally) (key : List ℕ) → there key (keys t) ≡ there key (map (λ r. r.key) t.recent ++ flat_map (λ kept. kept) t.drawn)
there_keys t key = there_from (map (λ r. r.key) t.recent ++ flat_map (λ kept. kept) t.drawn) [] key ∙ or_none (there key (map (λ r. r.key) t.recent ++ flat_map (λ kept. kept) t.drawn))

-- ---- a key is counted where it is there

there_append : (key : List ℕ) (xs ys : List (List ℕ)) → there key (xs ++ ys) ≡ (there key xs || there key ys)
there_append key [] ys = refl
there_append key (x ∷ xs) ys = grind (arith, common_steps, there_append key xs ys)

-- no bulletin has it, or some one does
recent_counts : (key : List ℕ) (recent : List Recent) → (there key (map (λ r. r.key) recent) ≡ false → (sum_by (λ r. once (is_of key r)) recent ≡ 0) × (sum_by (λ r. cond (is_of key r) r.bytes 0) recent ≡ 0)) × (there key (map (λ r. r.key) recent) ≡ true → 1 ≤ sum_by (λ r. once (is_of key r)) recent)
recent_counts key [] = ((λ e. (refl, refl)), (λ e. absurd (true≢false (sym e))))
recent_counts key (r ∷ recent) = grind (arith, common_steps, sum_by-cons, recent_counts key recent)

kept_counts : (key : List ℕ) (kept : List (List ℕ)) → (there key kept ≡ false → draws_among key kept ≡ 0) × (there key kept ≡ true → 1 ≤ draws_among key kept)
kept_counts key [] = ((λ e. refl), (λ e. absurd (true≢false (sym e))))
kept_counts key (k ∷ kept) = grind (arith, common_steps, sum_by-cons, kept_counts key kept)

drawn_counts : (key : List ℕ) (drawn : List (List (List ℕ))) → (there key (flat_map (λ kept. kept) drawn) ≡ false → sum_by (draws_among key) drawn ≡ 0) × (there key (flat_map (λ kept. kept) drawn) ≡ true → 1 ≤ sum_by (draws_among key) drawn)
drawn_counts key [] = ((λ e. refl), (λ e. absurd (true≢false (sym e))))
drawn_counts key (kept ∷ drawn) =
    let rest : List (List ℕ) = flat_map (λ kept. kept) drawn in
    let some : sum_by (draws_among key) (kept ∷ drawn) ≡ draws_among key kept + sum_by (draws_among key) drawn = sum_by-cons (draws_among key) kept drawn in
    let split : there key (kept ++ rest) ≡ (there key kept || there key rest) = there_append key kept rest in
    let here = kept_counts key kept in
    let more = drawn_counts key drawn in (
      (λ e. let both = or_parts (there key kept) (there key rest) (sym split ∙ e) in omega (arith, some, here.0 both.0, more.0 both.1)),
      (λ e. elim (or_cases (there key kept) (there key rest) (sym split ∙ e)) [ inl a ↦ omega (arith, some, here.1 a) | inr b ↦ omega (arith, some, more.1 b) ]),
    )

not_zero : (n : ℕ) → 1 ≤ n → (n == 0) ≡ false
not_zero n few = ne_eqb n 0 (λ e. omega (arith, few, e))

is_zero : (n : ℕ) → n ≡ 0 → (n == 0) ≡ true
is_zero n e = eq-eqb n 0 e

counted_there : (t : Tally) (key : List ℕ) → is_counted (counted t key) ≡ there key (map (λ r. r.key) t.recent ++ flat_map (λ kept. kept) t.drawn)
counted_there t key = grind (arith, common_steps, there_append, not_zero, recent_counts, drawn_counts, is_zero)

-- ---- the rows that have numbers

abbrev some_numbers : Option Row → Bool
some_numbers o = is_counted (row_in o)

low_filter : (k : List ℕ) (es : Entries Row) → AllByRecursion (Under k) (keys_in es) → AllByRecursion (Under k) (keys_in (filter (λ e. is_counted e.1) es))
low_filter k [] all = tt
low_filter k (e ∷ es) all = grind (arith, common_steps, low_filter k es all.1)

up_filter : (es : Entries Row) → Up Under (keys_in es) → Up Under (keys_in (filter (λ e. is_counted e.1) es))
up_filter [] up = tt
up_filter (e ∷ es) up = go (is_counted e.1) (up_filter es up.1)
  where
    go : (b : Bool) → Up Under (keys_in (filter (λ e. is_counted e.1) es)) → Up Under (keys_in (cond b (e ∷ filter (λ e. is_counted e.1) es) (filter (λ e. is_counted e.1) es)))
    go true rest = (low_filter e.0 es up.0, rest)
    go false rest = rest

apart : (a b : List ℕ) → Under a b → Under b a → ⊥
apart a b less more = cc (less, nat_list_cmp_total.antisymm a b ∙ ap ordering_reverse more)

-- what is above all keys of a list is none of them
none_there : (k : List ℕ) (es : Entries Row) → AllByRecursion (Under k) (keys_in es) → lookup (is_at (bytes_below k)) es ≡ None
none_there k [] all = refl
none_there k (e ∷ es) all = ap (λ (o : Ordering). cond (is_eq o) (Some e.1) (lookup (is_at (bytes_below k)) es)) all.0 ∙ none_there k es all.1

-- a key stands in the rows with numbers where the row that is found for it has numbers
there_found : (key : List ℕ) (es : Entries Row) → Up Under (keys_in es) → there key (keys_in (filter (λ e. is_counted e.1) es)) ≡ some_numbers (lookup (is_at (bytes_below key)) es)
there_found key [] up = refl
there_found key (e ∷ es) up = grind (arith, common_steps, nat_list_eq_equiv, same_test, same_numbers, none_there, there_found key es up.1)

-- each entry is the one that is found under its key
abbrev Found : Entries Row → List ℕ × Row → Type 0
Found es e = lookup (is_at (bytes_below e.0)) es ≡ Some e.1

found_later : (x : List ℕ × Row) (es rest : Entries Row) → AllByRecursion (Under x.0) (keys_in rest) → AllByRecursion (Found es) rest → AllByRecursion (Found (x ∷ es)) rest
found_later x es [] up all = tt
found_later x es (e ∷ rest) up all =
    let greater : bytes_below e.0 x.0 ≡ Greater = nat_list_cmp_total.antisymm e.0 x.0 ∙ ap ordering_reverse up.0 in
    (ap (λ (o : Ordering). cond (is_eq o) (Some x.1) (lookup (is_at (bytes_below e.0)) es)) greater ∙ all.0, found_later x es rest up.1 all.1)

each_found : (es : Entries Row) → Up Under (keys_in es) → AllByRecursion (Found es) es
each_found [] up = tt
each_found (e ∷ es) up = grind (arith, common_steps, same_test, nat_list_eq_equiv, found_later, each_found es up.1)

-- each key has the numbers that are counted, in rows that are in order
abbrev pub IsCountInOrder : Tally → SortedRows → Type 0
IsCountInOrder t rows = (key : List ℕ) → row_in (lookup (is_at (bytes_below key)) rows.entries) ≡ counted t key

-- their lines
lines_of : (t : Tally) (rows : SortedRows) (es : Entries Row) → IsCountInOrder t rows → AllByRecursion (Found rows.entries) es → flat_map entry_text es ≡ flat_map (key_line t) (keys_in (filter (λ e. is_counted e.1) es))
lines_of t rows [] counts all = refl
lines_of t rows (e ∷ es) counts all = grind (arith, common_steps, lines_of t rows es counts all.1)

-- the lines of the rows are those of the keys that are counted
pub lines_are : (t : Tally) (rows : SortedRows) → IsCountInOrder t rows → Up Under (keys_in rows.entries) → key_lines rows ≡ flat_map (key_line t) (keys t)
lines_are t rows counts up =
    lines_of t rows rows.entries counts (each_found rows.entries up)
    ∙ ap (flat_map (key_line t))
    (one_list (pointwise nat_eq) Under (λ a b e. same_numbers a b e) (λ a. nat_list_eq_equiv.refl a) apart
    (keys_in (filter (λ e. is_counted e.1) rows.entries)) (keys t) (up_filter rows.entries up) (keys_up t)
    (λ key. there_found key rows.entries up ∙ ap is_counted (counts key) ∙ counted_there t key ∙ sym (there_keys t key)))

pub ordered_up : (ks : List (List ℕ)) → IsStrictlySortedBy bytes_below ks → Up Under ks
unfolding IsStrictlySortedBy
ordered_up [] s = tt
ordered_up (k ∷ ks) s = (s.0, ordered_up ks s.1)
