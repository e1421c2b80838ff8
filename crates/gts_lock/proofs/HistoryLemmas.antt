-- Lemmas on histories and on lists read by `get_elem?`.
use Rattle.gts_lock.proofs.Cited.{◌≡◌, ◌≢◌, ◌⊎◌, ℕ, zero, suc, ◌+◌, ◌<◌, ◌≤◌, List, [], ◌∷◌, ◌++◌, length, set, Bool, true, false, cond, ◌==◌, refl, sym, ap, ◌∙◌, inl, inr, ⊎_elim, arith, length-append, eq-eqb, ne_eqb, nat_le, EndsWith, IsAmong, StartsWith, entries, entries_under, filter, longer, shorter, filter-append, nat_tests, some, some-injective, some-ne-none, map-append, append_assoc, append-nil, get_elem?, at_longer, at_last}

module _ {A : Type 0} where
  pub set_there : (l : List A) (i : ℕ) (a b : A) → get_elem? l i ≡ some b → get_elem? (set l i a) i ≡ some a
  set_there [] i a b e = absurd (some-ne-none b (sym e))
  set_there (x ∷ xs) zero a b e = refl
  set_there (x ∷ xs) (suc i) a b e = set_there xs i a b e

  pub at_less : (l : List A) (i : ℕ) (a : A) → get_elem? l i ≡ some a → i < length l
  at_less [] i a e = absurd (some-ne-none a (sym e))
  at_less (x ∷ xs) zero a e = omega arith
  at_less (x ∷ xs) (suc i) a e = let h = at_less xs i a e in omega arith

  pub there : (l : List A) (i : ℕ) → i < length l → (a : A) × (get_elem? l i ≡ some a)
  there [] i h = absurd (omega arith)
  there (x ∷ xs) zero h = (x, refl)
  there (x ∷ xs) (suc i) h = there xs i (omega arith)

  -- an element of a list with one more is the new one, at the end, or an old one
  pub at_push : (l : List A) (a b : A) (j : ℕ) → get_elem? (l ++ a ∷ []) j ≡ some b → (get_elem? l j ≡ some b) ⊎ ((j ≡ length l) × (a ≡ b))
  at_push [] a b zero e = inr (refl, some-injective a b e)
  at_push [] a b (suc j) e = absurd (some-ne-none b (sym e))
  at_push (x ∷ xs) a b zero e = inl e
  at_push (x ∷ xs) a b (suc j) e = ⊎_elim inl (λ t. inr (ap suc t.0, t.1)) (at_push xs a b j e)

module _ {E : Type 0} where
  pub entries_push : (h : List (ℕ × E)) (x : ℕ × E) → entries (h ++ x ∷ []) ≡ entries h ++ x.1 ∷ []
  entries_push h x = map-append (λ (y : ℕ × E). y.1) h (x ∷ [])

  pub entries_length : (h : List (ℕ × E)) → length (entries h) ≡ length h
  entries_length [] = refl
  entries_length (x ∷ xs) = ap suc (entries_length xs)

  -- one entry more, counted
  pub one_more : (count : ℕ) (h : List (ℕ × E)) (e : E) → count ≡ length h + 1 → count ≡ length (entries h ++ e ∷ [])
  one_more count h e is = is ∙ (ap (λ n. n + 1) (sym (entries_length h)) ∙ sym (length-append (entries h) (e ∷ [])))

  under_one : (n : ℕ) (x : ℕ × E) (b : Bool) → (x.0 == n) ≡ b → entries_under n (x ∷ []) ≡ (cond b (x.1 ∷ []) [])
  under_one n x true e = λ i. entries (cond (e i) (x ∷ []) [])
  under_one n x false e = λ i. entries (cond (e i) (x ∷ []) [])

  under_append : (n : ℕ) (h : List (ℕ × E)) (x : ℕ × E) → entries_under n (h ++ x ∷ []) ≡ entries_under n h ++ entries_under n (x ∷ [])
  under_append n h x = ap entries (filter-append (λ (y : ℕ × E). y.0 == n) h (x ∷ [])) ∙ map-append (λ (y : ℕ × E). y.1) (filter (λ (y : ℕ × E). y.0 == n) h) (filter (λ (y : ℕ × E). y.0 == n) (x ∷ []))

  pub under_same : (n : ℕ) (h : List (ℕ × E)) (x : ℕ × E) → x.0 ≡ n → entries_under n (h ++ x ∷ []) ≡ entries_under n h ++ x.1 ∷ []
  under_same n h x e = under_append n h x ∙ ap (λ l. entries_under n h ++ l) (under_one n x true (eq-eqb x.0 n e))

  pub under_other : (n : ℕ) (h : List (ℕ × E)) (x : ℕ × E) → x.0 ≢ n → entries_under n (h ++ x ∷ []) ≡ entries_under n h
  under_other n h x e = under_append n h x ∙ (ap (λ l. entries_under n h ++ l) (under_one n x false (ne_eqb x.0 n e)) ∙ append-nil (entries_under n h))

  -- a name that doesn't stand in a history has no entry there
  pub under_none : (n : ℕ) (h : List (ℕ × E)) → ((k : ℕ) (x : ℕ × E) → get_elem? h k ≡ some x → x.0 ≢ n) → entries_under n h ≡ []
  under_none n [] none = refl
  under_none n (x ∷ xs) none = (λ i. entries (cond (ne_eqb x.0 n (none 0 x refl) i) (x ∷ filter (λ (y : ℕ × E). y.0 == n) xs) (filter (λ (y : ℕ × E). y.0 == n) xs))) ∙ under_none n xs (λ k y at. none (suc k) y at)

  pub starts_push : (h seen : List (ℕ × E)) (x : ℕ × E) → StartsWith h seen → StartsWith (h ++ x ∷ []) seen
  starts_push h seen x s = (s.0 ++ x ∷ [], ap (λ (l : List (ℕ × E)). l ++ x ∷ []) s.1 ∙ append_assoc seen s.0 (x ∷ []))

  pub starts_same : (h : List (ℕ × E)) → StartsWith h h
  starts_same h = ([], sym (append-nil h))

  pub starts_is : (h seen : List (ℕ × E)) → h ≡ seen → StartsWith h seen
  starts_is h seen e = ([], e ∙ sym (append-nil seen))

  empty : (r : List (ℕ × E)) → length r ≡ 0 → r ≡ []
  empty [] e = refl
  empty (x ∷ xs) e = absurd (omega arith)

  pub starts_whole : (h seen : List (ℕ × E)) → StartsWith h seen → length h ≤ length seen → seen ≡ h
  starts_whole h seen s l = let e : length h ≡ length seen + length s.0 = ap length s.1 ∙ length-append seen s.0 in let z = empty s.0 (omega arith) in sym (s.1 ∙ (ap (λ (r : List (ℕ × E)). seen ++ r) z ∙ append-nil seen))

  pub starts_longer : (h a b : List (ℕ × E)) → StartsWith h a → StartsWith h b → StartsWith h (longer a b)
  starts_longer h a b s t = choose (nat_le (length a) (length b))
    where
      choose : (c : Bool) → StartsWith h (cond c b a)
      choose true = t
      choose false = s

  pub starts_shorter : (h a b : List (ℕ × E)) → StartsWith h a → StartsWith h b → StartsWith h (shorter a b)
  starts_shorter h a b s t = choose (nat_le (length a) (length b))
    where
      choose : (c : Bool) → StartsWith h (cond c a b)
      choose true = s
      choose false = t

  pub shorter_length : (a b : List (ℕ × E)) → length (shorter a b) ≤ length (longer a b)
  shorter_length a b = choose (nat_le (length a) (length b)) refl
    where
      choose : (c : Bool) → nat_le (length a) (length b) ≡ c → length (cond c a b) ≤ length (cond c b a)
      choose true is = grind (arith, nat_tests)
      choose false is = grind (arith, nat_tests)

  -- where the shorter of two begins the longer one, both do
  pub both_start : (a b : List (ℕ × E)) → StartsWith (longer a b) (shorter a b) → StartsWith (longer a b) a × StartsWith (longer a b) b
  both_start a b = choose (nat_le (length a) (length b))
    where
      choose : (c : Bool) → StartsWith (cond c b a) (cond c a b) → StartsWith (cond c b a) a × StartsWith (cond c b a) b
      choose true s = (s, starts_same b)
      choose false s = (starts_same a, s)

  -- two beginnings of one list: the shorter begins the longer
  pub starts_between : (h a b : List (ℕ × E)) → StartsWith h a → StartsWith h b → length b ≤ length a → StartsWith a b
  starts_between h [] [] s t l = starts_same []
  starts_between h [] (y ∷ ys) s t l = absurd (omega arith)
  starts_between h (x ∷ xs) [] s t l = (x ∷ xs, refl)
  starts_between [] (x ∷ xs) (y ∷ ys) s t l = absurd (let e : [] ≡ (x ∷ xs) ++ s.0 = s.1 in cc)
  starts_between (z ∷ zs) (x ∷ xs) (y ∷ ys) s t l =
      let r = starts_between zs xs ys (s.0, ap tail_of s.1) (t.0, ap tail_of t.1) (omega arith) in
      (r.0, λ i. (sym (ap (head_or x) s.1) ∙ ap (head_or x) t.1) i ∷ r.1 i)
    where
      tail_of : List (ℕ × E) → List (ℕ × E)
      tail_of [] = []
      tail_of (q ∷ qs) = qs

      head_or : ℕ × E → List (ℕ × E) → ℕ × E
      head_or d [] = d
      head_or d (q ∷ qs) = q

  pub longer_first : (h a b : List (ℕ × E)) → a ≡ h → StartsWith h b → longer a b ≡ h
  longer_first h a b e t = choose (nat_le (length a) (length b)) refl
    where
      choose : (c : Bool) → nat_le (length a) (length b) ≡ c → cond c b a ≡ h
      choose true is = let l : length a ≤ length b = grind (arith, nat_tests) in let m : length a ≡ length h = ap length e in starts_whole h b t (omega arith)
      choose false is = e

  pub longer_second : (h a b : List (ℕ × E)) → StartsWith h a → b ≡ h → longer a b ≡ h
  longer_second h a b s e = choose (nat_le (length a) (length b)) refl
    where
      choose : (c : Bool) → nat_le (length a) (length b) ≡ c → cond c b a ≡ h
      choose true is = e
      choose false is = let l : length b < length a = grind (arith, nat_tests) in let m : length b ≡ length h = ap length e in starts_whole h a s (omega arith)

  pub ends_push : (h : List (ℕ × E)) (x y : ℕ × E) → EndsWith (h ++ x ∷ []) y → x ≡ y
  ends_push h x y e = let n : suc e.0 ≡ length h + 1 = e.1 ∙ length-append h (x ∷ []) in some-injective x y (sym (at_last h x e.0 (omega arith)) ∙ e.2)

  pub last_there : (h : List (ℕ × E)) → (h ≡ []) ⊎ ((x : ℕ × E) × EndsWith h x)
  last_there [] = inl refl
  last_there (x ∷ xs) = let t = there (x ∷ xs) (length xs) (omega arith) in inr (t.0, (length xs, refl, t.1))

  pub starts_empty : (seen : List (ℕ × E)) (h : List (ℕ × E)) → h ≡ [] → StartsWith h seen → seen ≡ h
  starts_empty seen h e s = starts_whole h seen s (let z : length h ≡ 0 = ap length e in omega arith)

  pub among_push : (j : List (ℕ × List E)) (x : ℕ × List E) (n : ℕ) → IsAmong j n → IsAmong (j ++ x ∷ []) n
  among_push j x n a = (a.0, a.1, at_longer j (x ∷ []) a.0 (n, a.1) a.2)

  pub among_pushed : (j : List (ℕ × List E)) (x : ℕ × List E) (n : ℕ) → IsAmong (j ++ x ∷ []) n → IsAmong j n ⊎ (x.0 ≡ n)
  among_pushed j x n a = ⊎_elim (λ e. inl (a.0, a.1, e)) (λ t. inr (ap (λ (y : ℕ × List E). y.0) t.1)) (at_push j x (n, a.1) a.0 a.2)
