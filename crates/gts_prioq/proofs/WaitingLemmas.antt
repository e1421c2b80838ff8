-- What waits after a queue was changed.
use Rattle.gts_prioq.proofs.Cited.{◌≡◌, ◌≢◌, ℕ, zero, suc, ◌+◌, ◌<◌, ◌≤◌, List, [], ◌∷◌, length, map, get_or, set, refl, sym, ap, subst, ◌∙◌, inl, inr, arith, add-one, true, false, ◌==◌, drop, Option, None, Some, option_copied, IsSome, IfSome, Bor, map-set, get_or-map, length-map, get_or-set_same, get_or-set_other, map-set_same, sum_by-set, true≢false, cases_eq, eqb-true, eqb-false, Global, GoesNext, IsFirstFilled, TakesNext, VecDeque, at_level, count_of, items_at, items_of, room_of, spare, sum_by, waiting_in, common_steps}

abbrev pub Queue : Type 0
Queue = VecDeque ℕ Global

-- what a level of changed queues has, where levels are counted from 1
module _ {X : Type 0} (f : Queue → X) (none : X) where
  pub at-set : (queues : List Queue) (i level : ℕ) (queue : Queue) → level ≡ i + 1 → i < length queues → get_or (none ∷ map f (set queues i queue)) level none ≡ f queue
  at-set queues i level queue e inside =
      subst (λ (n : ℕ). get_or (none ∷ map f (set queues i queue)) n none ≡ f queue) (sym (e ∙ add-one i))
      (ap (λ (xs : List X). get_or xs i none) (map-set f queues i queue) ∙ get_or-set_same (map f queues) i (f queue) none (omega (arith, length-map queues f)))

  pub at-here : (queues : List Queue) (i level : ℕ) (d : Queue) → level ≡ i + 1 → i < length queues → get_or (none ∷ map f queues) level none ≡ f (get_or queues i d)
  at-here queues i level d e inside =
      subst (λ (n : ℕ). get_or (none ∷ map f queues) n none ≡ f (get_or queues i d)) (sym (e ∙ add-one i)) (get_or-map f queues i d none inside)

  pub at-set_other : (queues : List Queue) (i level : ℕ) (queue : Queue) (l : ℕ) → level ≡ i + 1 → l ≢ level → get_or (none ∷ map f (set queues i queue)) l none ≡ get_or (none ∷ map f queues) l none
  at-set_other queues i level queue zero e other = refl
  at-set_other queues i level queue (suc l) e other =
      ap (λ (xs : List X). get_or xs l none) (map-set f queues i queue) ∙ get_or-set_other (map f queues) i l (f queue) none (λ same. other (ap suc same ∙ sym (e ∙ add-one i)))

-- a queue has no less room than before
pub spare-set : (queues : List Queue) (i level : ℕ) (d queue : Queue) → level ≡ i + 1 → i < length queues → room_of (get_or queues i d) ≤ room_of queue
    → (l : ℕ) → spare (waiting_in queues) l ≤ spare (waiting_in (set queues i queue)) l
spare-set queues i level d queue e inside more l =
    elim (cases_eq l level) [
      | inl at ↦ subst (λ (n : ℕ). spare (waiting_in queues) n ≤ spare (waiting_in (set queues i queue)) n) (sym at) (omega (arith, at-set room_of 0 queues i level queue e inside, at-here room_of 0 queues i level d e inside, more))
      | inr other ↦ omega (arith, at-set_other room_of 0 queues i level queue l e other)
    ]

-- how many wait after a queue was changed
pub count_of-set : (queues : List Queue) (i : ℕ) (d queue : Queue) → i < length queues → count_of (waiting_in (set queues i queue)) + length (get_or queues i d).items ≡ count_of (waiting_in queues) + length queue.items
count_of-set queues i d queue inside =
    let sums = sum_by-set length (map items_of queues) i queue.items [] (omega (arith, length-map queues items_of)) in
    let changed = ap (λ (xs : List (List ℕ)). sum_by length xs) (map-set items_of queues i queue) in
    let before = ap length (get_or-map items_of queues i d [] inside) in
    omega (arith, sums, changed, before)

-- nothing of a short list
pub no_items : (xs : List ℕ) → length xs ≡ 0 → xs ≡ []
no_items [] e = refl
no_items (x ∷ xs) e = absurd (omega arith)

-- a list that isn't empty has a first
pub some_items : (xs : List ℕ) → 0 < length xs → (x : ℕ) × (behind : List ℕ) × (xs ≡ x ∷ behind)
some_items [] h = absurd (omega arith)
some_items (x ∷ xs) h = (x, xs, refl)

-- where each queue before a place is empty, so is each smaller level
pub smaller_levels : (queues : List Queue) (i level : ℕ) → level ≡ i + 1 → ((k : ℕ) → k < i → items_at queues k ≡ []) → (l : ℕ) → l < level → at_level (waiting_in queues) l ≡ []
smaller_levels queues i level e none zero less = refl
smaller_levels queues i level e none (suc l) less = none l (omega arith)

-- a queue that says that it is empty
pub empty_queue : (queues : List Queue) (i : ℕ) (queue : Queue) → i < length queues → queue ≡ get_or queues i queue → (queue.len == 0) ≡ true → items_at queues i ≡ []
empty_queue queues i queue inside here empty = grind (arith, common_steps, get_or-map, no_items, eqb-true)

-- a queue that says that it isn't empty
pub filled_queue : (queues : List Queue) (i : ℕ) (queue : Queue) → i < length queues → queue ≡ get_or queues i queue → (queue.len == 0) ≡ false → (x : ℕ) × (behind : List ℕ) × (items_at queues i ≡ x ∷ behind)
filled_queue queues i queue inside here filled = grind (arith, common_steps, eqb-false, some_items, get_or-map)

-- a level and its queue have the same positions
pub level-items : (queues : List Queue) (i : ℕ) → at_level (waiting_in queues) (i + 1) ≡ items_at queues i
level-items queues i = ap (λ (l : ℕ). at_level (waiting_in queues) l) (add-one i)

-- what a reference to the first of a list shows
pub first_copied : (shown : Option (Bor ℕ)) (xs : List ℕ) (x : ℕ) (behind : List ℕ) → xs ≡ x ∷ behind → IsSome shown → IfSome shown (λ y. y.now ≡ get_or xs 0 y.now) → option_copied shown ≡ Some x
first_copied None xs x behind e some is = absurd (true≢false (sym some))
first_copied (Some y) xs x behind e some is = ap Some (is ∙ ap (λ (xs : List ℕ). get_or xs 0 y.now) e)

-- the first position of the first queue that has one goes next
pub goes_next : (queues : List Queue) (i : ℕ) (is : IsFirstFilled queues i) → GoesNext (waiting_in queues) is.first
goes_next queues i is = record {
  level = i + 1;
  behind = is.behind;
  first = level-items queues i ∙ is.filled;
  smaller = smaller_levels queues i (i + 1) refl is.before;
}

-- the positions of the first queue that has one
pub filled_items : (queues : List Queue) (i : ℕ) (d : Queue) (is : IsFirstFilled queues i) → i < length queues → (get_or queues i d).items ≡ is.first ∷ is.behind
filled_items queues i d is inside = sym (get_or-map items_of queues i d [] inside) ∙ is.filled

-- it was taken from that queue
pub takes_next : (queues : List Queue) (i : ℕ) (d queue : Queue) (is : IsFirstFilled queues i) → i < length queues → queue.items ≡ drop 1 (get_or queues i d).items
    → TakesNext (waiting_in queues) (waiting_in (set queues i queue)) is.first
takes_next queues i d queue is inside rest =
    let left : queue.items ≡ is.behind = rest ∙ ap (λ (xs : List ℕ). drop 1 xs) (filled_items queues i d is inside) in
    let now : at_level (waiting_in (set queues i queue)) (i + 1) ≡ is.behind = at-set items_of [] queues i (i + 1) queue refl inside ∙ left in
    record {
      level = i + 1;
      first = level-items queues i ∙ is.filled ∙ ap (λ (xs : List ℕ). is.first ∷ xs) (sym now);
      smaller = smaller_levels queues i (i + 1) refl is.before;
      others = λ l other. at-set_other items_of [] queues i (i + 1) queue l refl other;
    }

-- a queue was changed, and its positions stay
pub levels-set_kept : (queues : List Queue) (i : ℕ) (d queue : Queue) → queue.items ≡ (get_or queues i d).items → map items_of (set queues i queue) ≡ map items_of queues
levels-set_kept queues i d queue same = map-set_same items_of queues i queue d same
