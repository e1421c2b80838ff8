-- Heads of captures are told apart, and whether one stands at the front is decided.
use Rattle.gts_connection.proofs.Cited.{◌≡◌, ℕ, zero, suc, ◌<◌, ◌≤◌, Bool, true, false, ◌⊎◌, nat_eq, List, [], ◌∷◌, ◌++◌, length, get_or, take, drop, inl, inr, refl, sym, ap, subst, ◌∙◌, arith, CaptureKind, CompactHead, Directory, DrainHead, EndHead, FeedHead, Head, IsHeadFront, IsHeadOf, Journaled, ReopenHead, RestartHead, TakeHead, Traffic, dec, digits_value, head_text, starts_with, cases_lt, cases_Bool, length-append, append-nil, digits_value-dec}
use Rattle.gts_connection.proofs.ListLemmas.{starts_with-append, starts_is}

-- ---- lists

-- of two fronts of one list the shorter is a front of the longer
pub shorter_front : {X : Type 0} (a x b y : List X) → a ++ x ≡ b ++ y → length a ≤ length b → (z : List X) × (b ≡ a ++ z) × (x ≡ z ++ y)
shorter_front [] x b y e h = (b, refl, e)
shorter_front (p ∷ a) x [] y e h = absurd (omega arith)
shorter_front {X} (p ∷ a) x (q ∷ b) y e h =
    let tail : a ++ x ≡ b ++ y = ap (drop 1) e in
    let more = shorter_front a x b y tail (omega arith) in
    let same : p ≡ q = let f = e in cc in
    (more.0, ap (λ (z : X). z ∷ b) (sym same) ∙ ap (λ (zs : List X). p ∷ zs) more.1, more.2)

pub same_fronts : (a x b y : List ℕ) → a ++ x ≡ b ++ y → length a ≡ length b → (a ≡ b) × (x ≡ y)
same_fronts a x b y e h =
    let s = shorter_front a x b y e (omega arith) in
    let none : s.0 ≡ [] = empty s.0 (omega (arith, ap length s.1, length-append a s.0)) in
    (sym (s.1 ∙ ap (λ (zs : List ℕ). a ++ zs) none ∙ append-nil a), s.2 ∙ ap (λ (zs : List ℕ). zs ++ y) none)
  where
    empty : (zs : List ℕ) → length zs ≡ 0 → zs ≡ []
    empty [] h = refl
    empty (z ∷ zs) h = absurd (omega arith)

-- ---- heads

same_circuit : (c e : ℕ) → c < 100 → e < 100 → digits_value 10 (dec 2 c) ≡ digits_value 10 (dec 2 e) → c ≡ e
same_circuit c e h k f = sym (digits_value-dec 2 c (omega arith)) ∙ f ∙ digits_value-dec 2 e (omega arith)

same_size : (n m : ℕ) → n ≤ 999999 → m ≤ 999999 → digits_value 10 (dec 6 n) ≡ digits_value 10 (dec 6 m) → n ≡ m
same_size n m h k f = sym (digits_value-dec 6 n (omega arith)) ∙ f ∙ digits_value-dec 6 m (omega arith)

-- a kind is the one with a journal, or it isn't
journaled_or_not : (kind : CaptureKind) → (kind ≡ Journaled) ⊎ (kind ≡ Journaled → ⊥)
journaled_or_not Journaled = inl refl
journaled_or_not Traffic = inr (λ e. cc)

-- ---- whether some head has a property that is computed

search : (P N : ℕ → Type 0) → ((k : ℕ) → P k ⊎ N k) → (n : ℕ) → ((k : ℕ) × (k < n) × P k) ⊎ ((k : ℕ) → k < n → N k)
search P N decide zero = inr (λ k lt. absurd (omega arith))
search P N decide (suc n) = go (decide n) (search P N decide n)
  where
    go : P n ⊎ N n → ((k : ℕ) × (k < n) × P k) ⊎ ((k : ℕ) → k < n → N k) → ((k : ℕ) × (k < suc n) × P k) ⊎ ((k : ℕ) → k < suc n → N k)
    go (inl p) more = inl (n, omega arith, p)
    go (inr none) (inl some) = inl (some.0, omega (arith, some.1), some.2)
    go (inr none) (inr more) = inr (λ k lt. elim (cases_lt k n) as (λ _. N k) [ inl below ↦ more k below | inr top ↦ let same : n ≡ k = omega arith in subst N same none ])

module _ (kind : CaptureKind) where
  -- a head is told by its text, whatever follows
  pub same_heads : (d : Directory) (h k : Head) (x y : List ℕ) → length d.circuits ≤ 100 → IsHeadOf kind d h → IsHeadOf kind d k → head_text h ++ x ≡ head_text k ++ y → (h ≡ k) × (x ≡ y)
  unfolding dec
  same_heads d (FeedHead c n) (FeedHead e m) x y few h k f =
      let circuit : c ≡ e = same_circuit c e (omega (arith, h.0)) (omega (arith, k.0)) (ap (λ (xs : List ℕ). digits_value 10 (take 2 (drop 2 xs))) f) in
      let size : n ≡ m = same_size n m h.1 k.1 (ap (λ (xs : List ℕ). digits_value 10 (take 6 (drop 5 xs))) f) in
      (ap (λ (i : ℕ). FeedHead i n) circuit ∙ ap (FeedHead e) size, ap (drop 12) f)
  same_heads d (TakeHead c) (TakeHead e) x y few h k f =
      (ap TakeHead (same_circuit c e (omega (arith, h)) (omega (arith, k)) (ap (λ (xs : List ℕ). digits_value 10 (take 2 (drop 2 xs))) f)), ap (drop 5) f)
  same_heads d (ReopenHead c) (ReopenHead e) x y few h k f =
      (ap ReopenHead (same_circuit c e (omega (arith, h)) (omega (arith, k)) (ap (λ (xs : List ℕ). digits_value 10 (take 2 (drop 2 xs))) f)), ap (drop 5) f)
  same_heads d (DrainHead c) (DrainHead e) x y few h k f =
      (ap DrainHead (same_circuit c e (omega (arith, h)) (omega (arith, k)) (ap (λ (xs : List ℕ). digits_value 10 (take 2 (drop 2 xs))) f)), ap (drop 5) f)
  same_heads d RestartHead RestartHead x y few h k f = (refl, ap (drop 2) f)
  same_heads d CompactHead CompactHead x y few h k f = (refl, ap (drop 2) f)
  same_heads d EndHead EndHead x y few h k f = (refl, ap (drop 2) f)
  same_heads d h k x y few _ _ f = absurd (omega (arith, ap (λ (xs : List ℕ). get_or xs 0 0) f))

  decided : (f : Head → Bool) (h : Head) → (f h ≡ true) ⊎ (f h ≡ false)
  decided f h = cases_Bool (f h)

  abbrev Passing : Directory → (Head → Bool) → Type 0
  Passing d f = (h : Head) × IsHeadOf kind d h × (f h ≡ true)

  some_feed : (d : Directory) (f : Head → Bool) → Passing d f ⊎ ((c n : ℕ) → IsHeadOf kind d (FeedHead c n) → f (FeedHead c n) ≡ false)
  some_feed d f =
      elim (search (λ c. (n : ℕ) × (n < 1000000) × (f (FeedHead c n) ≡ true)) (λ c. (n : ℕ) → n < 1000000 → f (FeedHead c n) ≡ false)
      (λ c. search (λ n. f (FeedHead c n) ≡ true) (λ n. f (FeedHead c n) ≡ false) (λ n. decided f (FeedHead c n)) 1000000) (length d.circuits))
      as (λ _. Passing d f ⊎ ((c n : ℕ) → IsHeadOf kind d (FeedHead c n) → f (FeedHead c n) ≡ false)) [
        | inl some ↦ inl (FeedHead some.0 some.2.0, (some.1, omega (arith, some.2.1)), some.2.2)
        | inr none ↦ inr (λ c n h. none c h.0 n (omega (arith, h.1)))
      ]

  -- of the heads that name a circuit alone
  some_of : (d : Directory) (f : Head → Bool) (one : ℕ → Head) → ((c : ℕ) → c < length d.circuits → IsHeadOf kind d (one c)) → Passing d f ⊎ ((c : ℕ) → c < length d.circuits → f (one c) ≡ false)
  some_of d f one valid =
      elim (search (λ c. f (one c) ≡ true) (λ c. f (one c) ≡ false) (λ c. decided f (one c)) (length d.circuits)) as (λ _. Passing d f ⊎ ((c : ℕ) → c < length d.circuits → f (one c) ≡ false)) [
        | inl some ↦ inl (one some.0, valid some.0 some.1, some.2)
        | inr none ↦ inr none
      ]

  some_head : (d : Directory) (f : Head → Bool) → Passing d f ⊎ ((h : Head) → IsHeadOf kind d h → f h ≡ false)
  some_head d f =
      go (some_feed d f) (some_of d f TakeHead (λ c h. h)) (some_of d f ReopenHead (λ c h. h)) (some_of d f DrainHead (λ c h. h)) (with_journal RestartHead (λ e. e) (journaled_or_not kind)) (with_journal CompactHead (λ e. e) (journaled_or_not kind)) (decided f EndHead)
    where
      with_journal : (h : Head) → (kind ≡ Journaled → IsHeadOf kind d h) → (kind ≡ Journaled) ⊎ (kind ≡ Journaled → ⊥) → Passing d f ⊎ (kind ≡ Journaled → f h ≡ false)
      with_journal h valid (inl journaled) = elim (decided f h) as (λ _. Passing d f ⊎ (kind ≡ Journaled → f h ≡ false)) [ inl p ↦ inl (h, valid journaled, p) | inr n ↦ inr (λ _. n) ]
      with_journal h valid (inr other) = inr (λ journaled. absurd (other journaled))

      all : ((c n : ℕ) → IsHeadOf kind d (FeedHead c n) → f (FeedHead c n) ≡ false) → ((c : ℕ) → c < length d.circuits → f (TakeHead c) ≡ false) → ((c : ℕ) → c < length d.circuits → f (ReopenHead c) ≡ false)
          → ((c : ℕ) → c < length d.circuits → f (DrainHead c) ≡ false) → (kind ≡ Journaled → f RestartHead ≡ false) → (kind ≡ Journaled → f CompactHead ≡ false) → f EndHead ≡ false → (h : Head) → IsHeadOf kind d h → f h ≡ false
      all feed take reopen drain r k e (FeedHead c n) h = feed c n h
      all feed take reopen drain r k e (TakeHead c) h = take c h
      all feed take reopen drain r k e (ReopenHead c) h = reopen c h
      all feed take reopen drain r k e (DrainHead c) h = drain c h
      all feed take reopen drain r k e RestartHead h = r h
      all feed take reopen drain r k e CompactHead h = k h
      all feed take reopen drain r k e EndHead h = e

      go : Passing d f ⊎ ((c n : ℕ) → IsHeadOf kind d (FeedHead c n) → f (FeedHead c n) ≡ false) → Passing d f ⊎ ((c : ℕ) → c < length d.circuits → f (TakeHead c) ≡ false)
          → Passing d f ⊎ ((c : ℕ) → c < length d.circuits → f (ReopenHead c) ≡ false) → Passing d f ⊎ ((c : ℕ) → c < length d.circuits → f (DrainHead c) ≡ false)
          → Passing d f ⊎ (kind ≡ Journaled → f RestartHead ≡ false) → Passing d f ⊎ (kind ≡ Journaled → f CompactHead ≡ false) → (f EndHead ≡ true) ⊎ (f EndHead ≡ false)
          → Passing d f ⊎ ((h : Head) → IsHeadOf kind d h → f h ≡ false)
      go (inl p) t o q r k e = inl p
      go (inr n) (inl p) o q r k e = inl p
      go (inr n) (inr t) (inl p) q r k e = inl p
      go (inr n) (inr t) (inr o) (inl p) r k e = inl p
      go (inr n) (inr t) (inr o) (inr q) (inl p) k e = inl p
      go (inr n) (inr t) (inr o) (inr q) (inr r) (inl p) e = inl p
      go (inr n) (inr t) (inr o) (inr q) (inr r) (inr k) (inl p) = inl (EndHead, tt, p)
      go (inr n) (inr t) (inr o) (inr q) (inr r) (inr k) (inr e) = inr (all n t o q r k e)

  -- a whole head stands at the front
  abbrev pub HeadAt : Directory → List ℕ → Type 0
  HeadAt d bytes = (h : Head) × (rest : List ℕ) × IsHeadOf kind d h × (bytes ≡ head_text h ++ rest)

  true_or_false : (b : Bool) → b ≡ true → b ≡ false → ⊥
  true_or_false b e f = cc

  pub head_or_none : (d : Directory) (bytes : List ℕ) → HeadAt d bytes ⊎ (HeadAt d bytes → ⊥)
  head_or_none d bytes = elim (some_head d (λ h. starts_with nat_eq bytes (head_text h))) as (λ _. HeadAt d bytes ⊎ (HeadAt d bytes → ⊥)) [
    | inl some ↦ inl (some.0, drop (length (head_text some.0)) bytes, some.1, starts_is bytes (head_text some.0) some.2)
    | inr none ↦ inr (λ h. true_or_false (starts_with nat_eq bytes (head_text h.0))
        (ap (λ (xs : List ℕ). starts_with nat_eq xs (head_text h.0)) h.3 ∙ starts_with-append (head_text h.0) h.1) (none h.0 h.2))
  ]

  pub front_or_none : (d : Directory) (bytes : List ℕ) → IsHeadFront kind d bytes ⊎ (IsHeadFront kind d bytes → ⊥)
  front_or_none d bytes = elim (some_head d (λ h. starts_with nat_eq (head_text h) bytes)) as (λ _. IsHeadFront kind d bytes ⊎ (IsHeadFront kind d bytes → ⊥)) [
    | inl some ↦ inl (some.0, drop (length bytes) (head_text some.0), some.1, starts_is (head_text some.0) bytes some.2)
    | inr none ↦ inr (λ h. true_or_false (starts_with nat_eq (head_text h.0) bytes)
        (ap (λ (xs : List ℕ). starts_with nat_eq xs bytes) h.3 ∙ starts_with-append bytes h.1) (none h.0 h.2))
  ]
