-- Histories of lists of entries, and the entries in them.
use Rattle.gts_circuits.proofs.Cited.{◌≡◌, ℕ, ◌==◌, true, false, List, [], ◌∷◌, ◌++◌, refl, sym, ap, ◌∙◌, append_assoc, append-nil, Entry, StartsWith, all_of, entries, entries_under, flat, under, common_steps, arith}

-- ---- histories

pub entries-append : {E : Type 0} (g h : List (ℕ × E)) → entries (g ++ h) ≡ entries g ++ entries h
entries-append [] h = refl
entries-append {E} (x ∷ g) h = ap (λ (l : List E). x.1 ∷ l) (entries-append g h)

pub under-append : {E : Type 0} (name : ℕ) (g h : List (ℕ × E)) → entries_under name (g ++ h) ≡ entries_under name g ++ entries_under name h
under-append name [] h = refl
under-append {E} name (x ∷ g) h = grind (arith, common_steps, under-append name g h)

-- ---- lists of a turn

pub all_of-append : (xs ys : List (List Entry)) → all_of (xs ++ ys) ≡ all_of xs ++ all_of ys
all_of-append [] ys = refl
all_of-append (x ∷ xs) ys = ap (λ (l : List Entry). x ++ l) (all_of-append xs ys) ∙ sym (append_assoc x (all_of xs) (all_of ys))

pub all_of_one : (xs : List (List Entry)) (x : List Entry) → all_of (xs ++ x ∷ []) ≡ all_of xs ++ x
all_of_one xs x = all_of-append xs (x ∷ []) ∙ ap (λ (l : List Entry). all_of xs ++ l) (append-nil x)

pub flat-append : (g h : List (ℕ × List Entry)) → flat (g ++ h) ≡ flat g ++ flat h
flat-append [] h = refl
flat-append (x ∷ g) h = ap (λ (l : List (ℕ × Entry)). under x.0 x.1 ++ l) (flat-append g h) ∙ sym (append_assoc (under x.0 x.1) (flat g) (flat h))

pub flat_one : (h : List (ℕ × List Entry)) (name : ℕ) (more : List Entry) → flat (h ++ (name, more) ∷ []) ≡ flat h ++ under name more
flat_one h name more = flat-append h ((name, more) ∷ []) ∙ ap (λ (l : List (ℕ × Entry)). flat h ++ l) (append-nil (under name more))

-- the names left out
named_entries : (name : ℕ) (more : List Entry) → entries (under name more) ≡ more
named_entries name [] = refl
named_entries name (x ∷ more) = ap (λ (l : List Entry). x ∷ l) (named_entries name more)

pub entries_flat : (h : List (ℕ × List Entry)) → entries (flat h) ≡ all_of (entries h)
entries_flat [] = refl
entries_flat (x ∷ h) = grind (arith, common_steps, entries-append, named_entries, entries_flat h)

-- those under one name
named_mine : (name other : ℕ) (more : List Entry) → (other == name) ≡ true → entries_under name (under other more) ≡ more
named_mine name other [] same = refl
named_mine name other (x ∷ more) same = rw same (ap (λ (l : List Entry). x ∷ l) (named_mine name other more same))

named_others : (name other : ℕ) (more : List Entry) → (other == name) ≡ false → entries_under name (under other more) ≡ []
named_others name other [] same = refl
named_others name other (x ∷ more) same = rw same (named_others name other more same)

-- the entries under a name are those of the lists under it
pub under_flat : (name : ℕ) (h : List (ℕ × List Entry)) → entries_under name (flat h) ≡ all_of (entries_under name h)
under_flat name [] = refl
under_flat name (x ∷ h) = grind (arith, common_steps, under-append, named_mine, named_others, under_flat name h)

pub starts_flat : (h g : List (ℕ × List Entry)) → StartsWith h g → StartsWith (flat h) (flat g)
starts_flat h g s = (flat s.0, ap flat s.1 ∙ flat-append g s.0)
