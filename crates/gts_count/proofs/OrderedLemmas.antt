-- Two lists in strict order with the same members are one.
use Rattle.gts_count.proofs.Cited.{◌≡◌, Bool, true, false, ◌||◌, inl, inr, List, [], ◌∷◌, refl, sym, ap, subst, ◌∙◌, AllByRecursion, true≢false, or_cases}
use Rattle.std.specs.List.{list_any}

-- each is below all behind it
abbrev pub Up : {X : Type 0} → (X → X → Type 0) → List X → Type 0
Up Below [] = Unit {0}
Up Below (x ∷ xs) = AllByRecursion (Below x) xs × Up Below xs

module _ {X : Type 0} (test : X → X → Bool) (Below : X → X → Type 0) (equal : (a b : X) → test a b ≡ true → a ≡ b) (itself : (a : X) → test a a ≡ true)
    (apart : (a b : X) → Below a b → Below b a → ⊥) where
  -- what is below all of a list is below each member
  below_member : (x q : X) (xs : List X) → AllByRecursion (Below x) xs → list_any (test q) xs ≡ true → Below x q
  below_member x q [] all there = absurd (true≢false (sym there))
  below_member x q (y ∷ ys) all there = elim (or_cases (test q y) (list_any (test q) ys) there) [
    | inl here ↦ subst (Below x) (sym (equal q y here)) all.0
    | inr rest ↦ below_member x q ys all.1 rest
  ]

  not_there : (x : X) (xs : List X) → AllByRecursion (Below x) xs → list_any (test x) xs ≡ false
  not_there x xs all = elim (list_any (test x) xs) as (λ b. list_any (test x) xs ≡ b → b ≡ false) [
    | true ↦ λ e. absurd (let less : Below x x = below_member x x xs all e in apart x x less less)
    | false ↦ λ e. refl
  ] refl

  abbrev Same : List X → List X → Type 0
  Same xs ys = (q : X) → list_any (test q) xs ≡ list_any (test q) ys

  or_true : (a b : Bool) → a ≡ true → (a || b) ≡ true
  or_true true b e = refl
  or_true false b e = absurd (true≢false (sym e))

  heads : (x y : X) (xs ys : List X) → Up Below (x ∷ xs) → Up Below (y ∷ ys) → Same (x ∷ xs) (y ∷ ys) → x ≡ y
  heads x y xs ys up upy same = elim (or_cases (test x y) (list_any (test x) ys) (sym (same x) ∙ or_true (test x x) (list_any (test x) xs) (itself x))) [
    | inl here ↦ equal x y here
    | inr far ↦ elim (or_cases (test y x) (list_any (test y) xs) (same y ∙ or_true (test y y) (list_any (test y) ys) (itself y))) [
      | inl here ↦ sym (equal y x here)
      | inr other ↦ absurd (apart x y (below_member x y xs up.0 other) (below_member y x ys upy.0 far))
    ]
  ]

  tails : (x : X) (xs ys : List X) → AllByRecursion (Below x) xs → AllByRecursion (Below x) ys → Same (x ∷ xs) (x ∷ ys) → Same xs ys
  tails x xs ys allx ally same q = go (test q x) refl (same q)
    where
      go : (b : Bool) → test q x ≡ b → (b || list_any (test q) xs) ≡ (b || list_any (test q) ys) → list_any (test q) xs ≡ list_any (test q) ys
      go true e all =
          let is : q ≡ x = equal q x e in
          ap (λ (z : X). list_any (test z) xs) is ∙ not_there x xs allx ∙ sym (ap (λ (z : X). list_any (test z) ys) is ∙ not_there x ys ally)
      go false e all = all

  pub one_list : (xs ys : List X) → Up Below xs → Up Below ys → Same xs ys → xs ≡ ys
  one_list [] [] up upy same = refl
  one_list [] (y ∷ ys) up upy same = absurd (true≢false (sym (same y ∙ or_true (test y y) (list_any (test y) ys) (itself y))))
  one_list (x ∷ xs) [] up upy same = absurd (true≢false (sym (or_true (test x x) (list_any (test x) xs) (itself x)) ∙ same x))
  one_list (x ∷ xs) (y ∷ ys) up upy same =
      let is : x ≡ y = heads x y xs ys up upy same in
      let upx : Up Below (x ∷ ys) = subst (λ (z : X). Up Below (z ∷ ys)) (sym is) upy in
      ap (λ (zs : List X). x ∷ zs) (one_list xs ys up.1 upx.1 (tails x xs ys up.0 upx.0 (subst (λ (z : X). Same (x ∷ xs) (z ∷ ys)) (sym is) same)))
      ∙ ap (λ (z : X). z ∷ ys) is
