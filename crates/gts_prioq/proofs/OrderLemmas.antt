-- What goes next.
use Rattle.gts_prioq.proofs.Cited.{◌≡◌, ◌≢◌, ℕ, ◌<◌, ◌≤◌, Bool, true, false, not, ◌&&◌, ◌||◌, ◌==◌, nat_eq, nat_lt, cond, List, [], ◌∷◌, ◌++◌, filter, find, Some, refl, sym, ap, subst, ◌∙◌, inl, inr, arith, suc, ◌+◌, ◌-◌, ◌⊎◌, length, get_or, true≢false, cases_eq, eqb-true, eq-eqb, ltb-true, ltb-false, both_ways, lt-ltb, le-ltb, append-nil, filter-append, sum_by-cons, AllAbove, AllBelow, AreWaiting, Ascends, GoesNext, NothingWaits, PutsAt, TakesNext, Waiting, at_level, count_of, goes_before, is_first_of, list_all, list_any, next_of, sum_by, without, common_steps}

-- whether a number stands in a list
abbrev pub has : List ℕ → ℕ → Bool
has xs n = list_any (λ m. m == n) xs

not_same : (p q : ℕ) → p ≢ q → nat_eq p q ≡ false
not_same p q other = elim (nat_eq p q) as (λ b. nat_eq p q ≡ b → b ≡ false) [ true ↦ λ e. absurd (other (eqb-true p q e)) | false ↦ λ e. refl ] refl

-- what stands in a list and passes stands in what passes
has-filter : (passes : ℕ → Bool) (xs : List ℕ) (n : ℕ) → has xs n ≡ true → passes n ≡ true → has (filter passes xs) n ≡ true
has-filter passes [] n here ok = here
has-filter passes (x ∷ xs) n here ok =
    elim (cases_eq x n) [
      | inl same ↦ subst (λ (x : ℕ). has (filter passes (x ∷ xs)) n ≡ true) (sym same) (ap (λ b. has (cond b (n ∷ filter passes xs) (filter passes xs)) n) ok ∙ ap (λ b. b || has (filter passes xs) n) (eq-eqb n n refl))
      | inr other ↦
          let more : has (filter passes xs) n ≡ true = has-filter passes xs n (sym (ap (λ b. b || has xs n) (not_same x n other)) ∙ here) ok in
          elim (passes x) as (λ b. has (cond b (x ∷ filter passes xs) (filter passes xs)) n ≡ true) [ true ↦ ap (λ b. b || has (filter passes xs) n) (not_same x n other) ∙ more | false ↦ more ]
    ]

-- what stands in what passes passes
filter-passes : (passes : ℕ → Bool) (xs : List ℕ) (n : ℕ) → has (filter passes xs) n ≡ true → passes n ≡ true
filter-passes passes [] n here = absurd (true≢false (sym here))
filter-passes passes (x ∷ xs) n here =
    elim (passes x) as (λ b. passes x ≡ b → has (cond b (x ∷ filter passes xs) (filter passes xs)) n ≡ true → passes n ≡ true) [
      | true ↦ λ ok h. elim (cases_eq x n) [
        | inl same ↦ ap passes (sym same) ∙ ok
        | inr other ↦ filter-passes passes xs n (sym (ap (λ b. b || has (filter passes xs) n) (not_same x n other)) ∙ h)
      ]
      | false ↦ λ _ h. filter-passes passes xs n h
    ] refl here

filter-has : (passes : ℕ → Bool) (xs : List ℕ) (n : ℕ) → has (filter passes xs) n ≡ true → has xs n ≡ true
filter-has passes [] n here = here
filter-has passes (x ∷ xs) n here =
    elim (passes x) as (λ b. has (cond b (x ∷ filter passes xs) (filter passes xs)) n ≡ true → has (x ∷ xs) n ≡ true) [
      | true ↦ λ h. elim (cases_eq x n) [
        | inl same ↦ ap (λ b. b || has xs n) (eq-eqb x n same)
        | inr other ↦ ap (λ b. b || has xs n) (not_same x n other) ∙ filter-has passes xs n (sym (ap (λ b. b || has (filter passes xs) n) (not_same x n other)) ∙ h)
      ]
      | false ↦ λ h. elim (nat_eq x n) as (λ b. (b || has xs n) ≡ true) [ true ↦ refl | false ↦ filter-has passes xs n h ]
    ] here

has-first : (x : ℕ) (xs : List ℕ) → has (x ∷ xs) x ≡ true
has-first x xs = ap (λ b. b || has xs x) (eq-eqb x x refl)

-- a test that each element passes
list_all-has : (passes : ℕ → Bool) (xs : List ℕ) → ((n : ℕ) → has xs n ≡ true → passes n ≡ true) → list_all passes xs ≡ true
list_all-has passes [] each = refl
list_all-has passes (x ∷ xs) each =
    ap (λ b. b && list_all passes xs) (each x (has-first x xs))
    ∙ list_all-has passes xs (λ n here. each n (elim (nat_eq x n) as (λ b. (b || has xs n) ≡ true) [ true ↦ refl | false ↦ here ]))

-- an element of a list whose elements all pass
has-list_all : (passes : ℕ → Bool) (xs : List ℕ) (n : ℕ) → list_all passes xs ≡ true → has xs n ≡ true → passes n ≡ true
has-list_all passes [] n all here = absurd (true≢false (sym here))
has-list_all passes (x ∷ xs) n all here =
    elim (passes x) as (λ b. passes x ≡ b → (b && list_all passes xs) ≡ true → passes n ≡ true) [
      | true ↦ λ ok rest. elim (cases_eq x n) [
        | inl same ↦ ap passes (sym same) ∙ ok
        | inr other ↦ has-list_all passes xs n rest (sym (ap (λ b. b || has xs n) (not_same x n other)) ∙ here)
      ]
      | false ↦ λ _ rest. absurd (true≢false (sym rest))
    ] refl all

-- the only element that passes is found
find-only : (passes : ℕ → Bool) (xs : List ℕ) (n : ℕ) → has xs n ≡ true → passes n ≡ true → ((m : ℕ) → has xs m ≡ true → passes m ≡ true → m ≡ n) → find passes xs ≡ Some n
find-only passes [] n here ok only = absurd (true≢false (sym here))
find-only passes (x ∷ xs) n here ok only =
    elim (passes x) as (λ b. passes x ≡ b → cond b (Some x) (find passes xs) ≡ Some n) [
      | true ↦ λ here. ap Some (only x (has-first x xs) here)
      | false ↦ λ fails.
          let other : x ≢ n = λ same. both_ways (passes x) fails (ap passes same ∙ ok) in
          find-only passes xs n (sym (ap (λ b. b || has xs n) (not_same x n other)) ∙ here) ok (λ m h here. only m (elim (nat_eq x m) as (λ b. (b || has xs m) ≡ true) [ true ↦ refl | false ↦ h ]) here)
    ] refl

AllAbove-has : (n : ℕ) (xs : List ℕ) (m : ℕ) → AllAbove n xs → has xs m ≡ true → n < m
AllAbove-has n [] m all here = absurd (true≢false (sym here))
AllAbove-has n (x ∷ xs) m all here =
    elim (cases_eq x m) [
      | inl same ↦ omega (arith, all.0)
      | inr other ↦ AllAbove-has n xs m all.1 (sym (ap (λ b. b || has xs m) (not_same x m other)) ∙ here)
    ]

AllAbove-filter : (n : ℕ) (passes : ℕ → Bool) (xs : List ℕ) → AllAbove n xs → AllAbove n (filter passes xs)
AllAbove-filter n passes [] all = tt
AllAbove-filter n passes (x ∷ xs) all = elim (passes x) as (λ b. AllAbove n (cond b (x ∷ filter passes xs) (filter passes xs))) [ true ↦ (all.0, AllAbove-filter n passes xs all.1) | false ↦ AllAbove-filter n passes xs all.1 ]

Ascends-filter : (passes : ℕ → Bool) (xs : List ℕ) → Ascends xs → Ascends (filter passes xs)
Ascends-filter passes [] up = tt
Ascends-filter passes (x ∷ xs) up = elim (passes x) as (λ b. Ascends (cond b (x ∷ filter passes xs) (filter passes xs))) [ true ↦ (AllAbove-filter x passes xs up.0, Ascends-filter passes xs up.1) | false ↦ Ascends-filter passes xs up.1 ]

or_true : (b : Bool) → not (b || true) ≡ false
or_true true = refl
or_true false = refl

-- what doesn't go before something
not_before : (level : ℕ → ℕ) (p q : ℕ) → not (goes_before level p q) ≡ true → (level q ≤ level p) × (level p ≡ level q → q ≤ p)
not_before level p q refused = grind (arith, common_steps, ltb-false, eq-eqb, or_true)

and_false : (b : Bool) → not (b && false) ≡ true
and_false true = refl
and_false false = refl

-- what comes behind on a level, or waits on a greater one, doesn't go before
is_not_before : (level : ℕ → ℕ) (p q : ℕ) → level q ≤ level p → (level p ≡ level q → q ≤ p) → not (goes_before level p q) ≡ true
is_not_before level p q least tied = grind (arith, common_steps, le-ltb, cases_eq, and_false, not_same)

-- what goes next is that before which no other goes
pub next_of-GoesNext : (level : ℕ → ℕ) (positions : List ℕ) (w : Waiting) (position : ℕ) → Ascends positions → AreWaiting level positions w → GoesNext w position → next_of level positions ≡ Some position
next_of-GoesNext level positions w position up are next =
    let queue : filter (λ p. level p == next.level) positions ≡ position ∷ next.behind = sym (are next.level) ∙ next.first in
    let queued : has (filter (λ p. level p == next.level) positions) position ≡ true = ap (λ (xs : List ℕ). has xs position) queue ∙ has-first position next.behind in
    let stands : has positions position ≡ true = filter-has (λ p. level p == next.level) positions position queued in
    let here : level position ≡ next.level = eqb-true (level position) next.level (filter-passes (λ p. level p == next.level) positions position queued) in
    let ordered : Ascends (position ∷ next.behind) = subst (λ (xs : List ℕ). Ascends xs) queue (Ascends-filter (λ p. level p == next.level) positions up) in
    let smallest : (n : ℕ) → has positions n ≡ true → next.level ≤ level n = λ n h. smallest_level level positions w next.level n are next.smaller h in
    let lowest : (n : ℕ) → has positions n ≡ true → level n ≡ next.level → position ≤ n = λ n h same.
    lowest_position position next.behind n ordered.0 (sym (ap (λ (xs : List ℕ). has xs n) queue) ∙ has-filter (λ p. level p == next.level) positions n h (eq-eqb (level n) next.level same)) in
    find-only (is_first_of level positions) positions position stands
    (list_all-has (λ other. not (goes_before level other position)) positions (λ n h. is_not_before level n position (omega (arith, smallest n h, here)) (λ same. lowest n h (same ∙ here))))
    (λ m h first.
    let other = not_before level position m (has-list_all (λ other. not (goes_before level other m)) positions position first stands) in
    let tied : level m ≡ next.level = omega (arith, other.0, smallest m h, here) in
    let under : position ≤ m = lowest m h tied in
    let over : m ≤ position = other.1 (here ∙ sym tied) in
    omega arith)
  where
    smallest_level : (level : ℕ → ℕ) (positions : List ℕ) (w : Waiting) (least n : ℕ) → AreWaiting level positions w → ((l : ℕ) → l < least → at_level w l ≡ []) → has positions n ≡ true → least ≤ level n
    smallest_level level positions w least n are none h =
        elim (nat_lt (level n) least) as (λ b. nat_lt (level n) least ≡ b → least ≤ level n) [
          | true ↦ λ e.
              let empty : has [] n ≡ true = sym (ap (λ (xs : List ℕ). has xs n) (sym (are (level n)) ∙ none (level n) (ltb-true (level n) least e))) ∙ has-filter (λ p. level p == level n) positions n h (eq-eqb (level n) (level n) refl) in
              absurd (true≢false (sym empty))
          | false ↦ λ e. ltb-false (level n) least e
        ] refl

    lowest_position : (p : ℕ) (behind : List ℕ) (n : ℕ) → AllAbove p behind → has (p ∷ behind) n ≡ true → p ≤ n
    lowest_position p behind n above h =
        elim (cases_eq p n) [
          | inl same ↦ omega arith
          | inr other ↦ let over : p < n = AllAbove-has p behind n above (sym (ap (λ b. b || has behind n) (not_same p n other)) ∙ h) in omega arith
        ]

-- where no level has a position, none waits
pub none_waits : (level : ℕ → ℕ) (positions : List ℕ) (w : Waiting) → AreWaiting level positions w → NothingWaits w → positions ≡ []
none_waits level [] w are none = refl
none_waits level (x ∷ xs) w are none =
    let empty : has [] x ≡ true = sym (ap (λ (ys : List ℕ). has ys x) (sym (are (level x)) ∙ none (level x))) ∙ has-filter (λ p. level p == level x) (x ∷ xs) x (has-first x xs) (eq-eqb (level x) (level x) refl) in
    absurd (true≢false (sym empty))

-- what waits after a position was put
pub AreWaiting-put : (level : ℕ → ℕ) (positions : List ℕ) (old new : Waiting) (position : ℕ) → AreWaiting level positions old → PutsAt old new (level position) position → AreWaiting level (positions ++ position ∷ []) new
AreWaiting-put level positions old new position are puts l = grind (arith, common_steps, cases_eq, eq-eqb, filter-append, append-nil, not_same)

-- two filters in either order
filter-filter : (p q : ℕ → Bool) (xs : List ℕ) → filter p (filter q xs) ≡ filter q (filter p xs)
filter-filter p q [] = refl
filter-filter p q (x ∷ xs) = grind (arith, common_steps, filter-filter p q xs)

without-above : (p : ℕ) (xs : List ℕ) → AllAbove p xs → without p xs ≡ xs
without-above p [] above = refl
without-above p (x ∷ xs) above = grind (arith, common_steps, not_same, without-above p xs above.1)

without-level : (level : ℕ → ℕ) (p l : ℕ) (xs : List ℕ) → level p ≢ l → without p (filter (λ q. level q == l) xs) ≡ filter (λ q. level q == l) xs
without-level level p l [] other = refl
without-level level p l (x ∷ xs) other = grind (arith, common_steps, eqb-true, not_same, without-level level p l xs other)

-- what waits after a position was taken
pub AreWaiting-taken : (level : ℕ → ℕ) (positions : List ℕ) (old new : Waiting) (position : ℕ) → Ascends positions → AreWaiting level positions old → TakesNext old new position → AreWaiting level (without position positions) new
AreWaiting-taken level positions old new position up are takes l =
    let queue : filter (λ p. level p == takes.level) positions ≡ position ∷ at_level new takes.level = sym (are takes.level) ∙ takes.first in
    let queued : has (filter (λ p. level p == takes.level) positions) position ≡ true = ap (λ (xs : List ℕ). has xs position) queue ∙ has-first position (at_level new takes.level) in
    let here : level position ≡ takes.level = eqb-true (level position) takes.level (filter-passes (λ p. level p == takes.level) positions position queued) in
    let ordered : Ascends (position ∷ at_level new takes.level) = subst (λ (xs : List ℕ). Ascends xs) queue (Ascends-filter (λ p. level p == takes.level) positions up) in
    elim (cases_eq l takes.level) [
      | inl same ↦ subst (λ (l : ℕ). at_level new l ≡ filter (λ p. level p == l) (without position positions)) (sym same)
          (sym (filter-filter (λ p. level p == takes.level) (λ p. not (p == position)) positions
          ∙ ap (without position) queue
          ∙ ap (λ b. cond (not b) (position ∷ without position (at_level new takes.level)) (without position (at_level new takes.level))) (eq-eqb position position refl)
          ∙ without-above position (at_level new takes.level) ordered.0))
      | inr other ↦
          takes.others l other ∙ are l
          ∙ sym (filter-filter (λ p. level p == l) (λ p. not (p == position)) positions ∙ without-level level position l positions (λ e. other (sym e ∙ here)))
    ]

-- how many are on a level, and how many on greater ones
split_levels : (level : ℕ → ℕ) (k : ℕ) (positions : List ℕ)
    → length (filter (λ p. nat_lt k (level p)) positions) ≡ length (filter (λ p. level p == k + 1) positions) + length (filter (λ p. nat_lt (k + 1) (level p)) positions)
split_levels level k [] = refl
split_levels level k (x ∷ xs) =
    let more = split_levels level k xs in
    elim (nat_lt k (level x)) as (λ a. nat_lt k (level x) ≡ a → length (cond a (x ∷ filter (λ p. nat_lt k (level p)) xs) (filter (λ p. nat_lt k (level p)) xs)) ≡ length (filter (λ p. level p == k + 1) (x ∷ xs)) + length (filter (λ p. nat_lt (k + 1) (level p)) (x ∷ xs))) [
      | true ↦ λ above. elim (cases_eq (level x) (k + 1)) [
        | inl same ↦
            let here = ap (λ b. length (cond b (x ∷ filter (λ p. level p == k + 1) xs) (filter (λ p. level p == k + 1) xs))) (eq-eqb (level x) (k + 1) same) in
            let there = ap (λ b. length (cond b (x ∷ filter (λ p. nat_lt (k + 1) (level p)) xs) (filter (λ p. nat_lt (k + 1) (level p)) xs))) (le-ltb (k + 1) (level x) (omega arith)) in
            omega (arith, here, there)
        | inr other ↦
            let apart : k + 1 < level x = omega (arith, ltb-true k (level x) above) in
            let here = ap (λ b. length (cond b (x ∷ filter (λ p. level p == k + 1) xs) (filter (λ p. level p == k + 1) xs))) (not_same (level x) (k + 1) other) in
            let there = ap (λ b. length (cond b (x ∷ filter (λ p. nat_lt (k + 1) (level p)) xs) (filter (λ p. nat_lt (k + 1) (level p)) xs))) (lt-ltb (k + 1) (level x) apart) in
            omega (arith, here, there)
      ]
      | false ↦ λ below.
          let least : level x ≤ k = ltb-false k (level x) below in
          let apart : level x ≢ k + 1 = omega arith in
          let here = ap (λ b. length (cond b (x ∷ filter (λ p. level p == k + 1) xs) (filter (λ p. level p == k + 1) xs))) (not_same (level x) (k + 1) apart) in
          let there = ap (λ b. length (cond b (x ∷ filter (λ p. nat_lt (k + 1) (level p)) xs) (filter (λ p. nat_lt (k + 1) (level p)) xs))) (le-ltb (k + 1) (level x) (omega arith)) in
          omega (arith, here, there)
    ] refl

-- where no level has a position, there is none above
none_above : (level : ℕ → ℕ) (k : ℕ) (positions : List ℕ) → ((i : ℕ) → filter (λ p. level p == k + 1 + i) positions ≡ []) → length (filter (λ p. nat_lt k (level p)) positions) ≡ 0
none_above level k positions none =
    elim (filter (λ p. nat_lt k (level p)) positions) as (λ xs. filter (λ p. nat_lt k (level p)) positions ≡ xs → length xs ≡ 0) [
      | [] ↦ λ _. refl
      | x ∷ xs ↦ λ e.
          let stands : has (filter (λ p. nat_lt k (level p)) positions) x ≡ true = ap (λ (ys : List ℕ). has ys x) e ∙ has-first x xs in
          let above : k < level x = ltb-true k (level x) (filter-passes (λ p. nat_lt k (level p)) positions x stands) in
          let same : level x ≡ k + 1 + (level x - (k + 1)) = omega arith in
          let empty : has [] x ≡ true = sym (ap (λ (ys : List ℕ). has ys x) (none (level x - (k + 1)))) ∙ has-filter (λ p. level p == k + 1 + (level x - (k + 1))) positions x (filter-has (λ p. nat_lt k (level p)) positions x stands) (eq-eqb (level x) (k + 1 + (level x - (k + 1))) same) in
          absurd (true≢false (sym empty))
    ] refl

count_above : (level : ℕ → ℕ) (k : ℕ) (levels : List (List ℕ)) (positions : List ℕ) → ((i : ℕ) → get_or levels i [] ≡ filter (λ p. level p == k + 1 + i) positions) → sum_by length levels ≡ length (filter (λ p. nat_lt k (level p)) positions)
count_above level k [] positions are = sym (none_above level k positions (λ i. sym (are i)))
count_above level k (xs ∷ levels) positions are =
    let first : xs ≡ filter (λ p. level p == k + 1) positions = are 0 ∙ ap (λ (n : ℕ). filter (λ p. level p == n) positions) (omega arith) in
    let rest = count_above level (k + 1) levels positions (λ i. are (suc i) ∙ ap (λ (n : ℕ). filter (λ p. level p == n) positions) (omega arith)) in
    sum_by-cons length xs levels ∙ omega (arith, ap length first, rest, split_levels level k positions)

filter-all : (passes : ℕ → Bool) (xs : List ℕ) → ((n : ℕ) → has xs n ≡ true → passes n ≡ true) → filter passes xs ≡ xs
filter-all passes [] each = refl
filter-all passes (x ∷ xs) each =
    grind (arith, common_steps, has-first, filter-all passes xs (λ n here. each n (elim (nat_eq x n) as (λ b. (b || has xs n) ≡ true) [ true ↦ refl | false ↦ here ])))

-- each position counts once
pub count_of-AreWaiting : (level : ℕ → ℕ) (positions : List ℕ) (w : Waiting) → AreWaiting level positions w → count_of w ≡ length positions
count_of-AreWaiting level positions w are =
    let levelled : (n : ℕ) → has positions n ≡ true → nat_lt 0 (level n) ≡ true = λ n here. has_level n here (cases_eq (level n) 0) in
    count_above level 0 w.levels positions (λ i. are (suc i) ∙ ap (λ (l : ℕ). filter (λ p. level p == l) positions) (omega arith))
    ∙ ap length (filter-all (λ p. nat_lt 0 (level p)) positions levelled)
  where
    has_level : (n : ℕ) → has positions n ≡ true → (level n ≡ 0) ⊎ (level n ≡ 0 → ⊥) → nat_lt 0 (level n) ≡ true
    has_level n here (inl zeroth) =
        let empty : has [] n ≡ true = sym (ap (λ (ys : List ℕ). has ys n) (sym (are 0))) ∙ has-filter (λ p. level p == 0) positions n here (eq-eqb (level n) 0 zeroth) in
        absurd (true≢false (sym empty))
    has_level n here (inr some) = lt-ltb 0 (level n) (omega (arith, some))

-- ---- in order

AllAbove-put : (n : ℕ) (xs : List ℕ) (x : ℕ) → AllAbove n xs → n < x → AllAbove n (xs ++ x ∷ [])
AllAbove-put n [] x all less = (less, tt)
AllAbove-put n (y ∷ ys) x all less = (all.0, AllAbove-put n ys x all.1 less)

pub Ascends-put : (xs : List ℕ) (x : ℕ) → Ascends xs → AllBelow x xs → Ascends (xs ++ x ∷ [])
Ascends-put [] x up below = (tt, tt)
Ascends-put (y ∷ ys) x up below = (AllAbove-put y ys x up.0 below.0, Ascends-put ys x up.1 below.1)

pub Ascends-without : (xs : List ℕ) (x : ℕ) → Ascends xs → Ascends (without x xs)
Ascends-without xs x up = Ascends-filter (λ p. not (p == x)) xs up

AllBelow-filter : (n : ℕ) (passes : ℕ → Bool) (xs : List ℕ) → AllBelow n xs → AllBelow n (filter passes xs)
AllBelow-filter n passes [] all = tt
AllBelow-filter n passes (x ∷ xs) all = elim (passes x) as (λ b. AllBelow n (cond b (x ∷ filter passes xs) (filter passes xs))) [ true ↦ (all.0, AllBelow-filter n passes xs all.1) | false ↦ AllBelow-filter n passes xs all.1 ]

pub AllBelow-level : (level : ℕ → ℕ) (positions : List ℕ) (w : Waiting) (position l : ℕ) → AllBelow position positions → AreWaiting level positions w → AllBelow position (at_level w l)
AllBelow-level level positions w position l all are = subst (λ (xs : List ℕ). AllBelow position xs) (sym (are l)) (AllBelow-filter position (λ p. level p == l) positions all)
