-- When all passes are joined.
use Rattle.gts_lock.proofs.Cited.{◌≡◌, ℕ, zero, suc, ◌+◌, ◌-◌, List, [], ◌∷◌, ◌++◌, map, length, refl, sym, ap, ◌∙◌, subst, arith, some, some-injective, some-ne-none, append-nil, get_elem?, at_map, Known, AllJoined}
use Rattle.gts_lock.proofs.HistoryLemmas.{there}

pub in_middle : {A : Type 0} (xs : List A) (x : A) (rest all : List A) → xs ++ x ∷ rest ≡ all → get_elem? all (length xs) ≡ some x
in_middle [] x rest all e = ap (λ (l : List _). get_elem? l 0) (sym e)
in_middle (y ∷ ys) x rest all e = subst (λ (l : List _). get_elem? l (suc (length ys)) ≡ some x) e (in_middle ys x rest (ys ++ x ∷ rest) refl)

pub nothing_left : {A : Type 0} (xs rest all : List A) → xs ++ rest ≡ all → length rest ≡ 0 → xs ≡ all
nothing_left xs [] all e z = sym (append-nil xs) ∙ e
nothing_left xs (y ∷ ys) all e z = absurd (omega arith)

-- as many passes were joined as were split off, in the same order
pub joined_in_order : {E : Type 0} (p : Known E) (others : List (Known E)) → p.joined ≡ map (λ q. (q.name, q.own)) others → p.parted ≡ length others
    → ((k : ℕ) (q : Known E) → get_elem? others k ≡ some q → q.name ≡ k + 1) → AllJoined p
joined_in_order {E} p others noted count order name above below =
    let t = there others (name - 1) (omega arith) in
    let is : t.0.name ≡ name = order (name - 1) t.0 t.1 ∙ omega arith in
    let f : Known E → ℕ × List E = λ q. (q.name, q.own) in
    (name - 1, t.0.own, ap (λ (l : List (ℕ × List E)). get_elem? l (name - 1)) noted ∙ (at_map f others (name - 1) t.0 t.1 ∙ ap (λ (n : ℕ). some (n, t.0.own)) is))

-- the same for a single pass
pub joined_one : {E : Type 0} (p other : Known E) → p.joined ≡ (other.name, other.own) ∷ [] → p.parted ≡ 1 → other.name ≡ 1 → AllJoined p
joined_one p other noted count named = joined_in_order p (other ∷ []) noted count only
  where
    only : (k : ℕ) (q : Known _) → get_elem? (other ∷ []) k ≡ some q → q.name ≡ k + 1
    only zero q e = ap (λ (r : Known _). r.name) (sym (some-injective other q e)) ∙ named
    only (suc k) q e = absurd (some-ne-none q (sym e))
