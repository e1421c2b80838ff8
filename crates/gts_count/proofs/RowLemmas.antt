-- The rows of a map, one key after another.
use Rattle.gts_count.proofs.Cited.{◌≡◌, ℕ, Bool, true, false, cond, nat_eq, List, Option, Some, None, is_some, refl, sym, subst, ◌∙◌, AddsRow, ChangesRow, Row, Rows, bytes_below, is_eq, no_row, pointwise, row_at, row_in, get, true≢false, nat_list_eq_equiv, is_eq-slice_cmp, same_from_pointwise, common_steps, arith}

-- two tests of the same key
pub same_test : (key k : List ℕ) → is_eq (bytes_below key k) ≡ pointwise nat_eq k key
same_test key k = is_eq-slice_cmp key k ∙ nat_list_eq_equiv.symm key k

pub row_in-cond : (b : Bool) (row : Row) (o : Option Row) → row_in (cond b (Some row) o) ≡ cond b row (row_in o)
row_in-cond true row o = refl
row_in-cond false row o = refl

pub is_some-cond : (b : Bool) (row : Row) (o : Option Row) → (b ≡ true → is_some o ≡ true) → is_some (cond b (Some row) o) ≡ is_some o
is_some-cond true row o there = sym (there refl)
is_some-cond false row o there = refl

-- the same test, the other way
turned : (key k : List ℕ) → pointwise nat_eq key k ≡ pointwise nat_eq k key
turned key k = nat_list_eq_equiv.symm key k

-- the row that is there keeps its key
there_too : (m : Rows) (key k : List ℕ) → is_some (get (pointwise nat_eq) m key) ≡ true → pointwise nat_eq key k ≡ true → is_some (get (pointwise nat_eq) m k) ≡ true
there_too m key k has same = subst (λ (x : List ℕ). is_some (get (pointwise nat_eq) m x) ≡ true) (same_from_pointwise key k same) has

changes : (m n : Rows) (key : List ℕ) (row : Row) → ((q : List ℕ) → get (pointwise nat_eq) n q ≡ cond (pointwise nat_eq key q) (Some row) (get (pointwise nat_eq) m q)) → is_some (get (pointwise nat_eq) m key) ≡ true → ChangesRow m n key row
changes m n key row updates has = grind (arith, common_steps, row_in-cond, turned, is_some-cond, there_too)

-- the row that was found is changed
pub changed : (m n : Rows) (key : List ℕ) (change : Row → Row) (was now : Row) → get (pointwise nat_eq) m key ≡ Some was → now ≡ change was
    → ((q : List ℕ) → get (pointwise nat_eq) n q ≡ cond (pointwise nat_eq key q) (Some now) (get (pointwise nat_eq) m q)) → ChangesRow m n key (change (row_at m key))
changed m n key change was now found is updates = grind (arith, common_steps, changes)

there_still : (b : Bool) (o : Option Row) → is_some o ≡ true → is_some (cond b (Some no_row) o) ≡ true
there_still true o there = refl
there_still false o there = there

none_in : (o : Option Row) → is_some o ≡ false → row_in o ≡ no_row
none_in None is = refl
none_in (Some row) is = absurd (true≢false is)

pub adds : (m n : Rows) (key : List ℕ) → ((q : List ℕ) → get (pointwise nat_eq) n q ≡ cond (pointwise nat_eq key q) (Some no_row) (get (pointwise nat_eq) m q)) → is_some (get (pointwise nat_eq) m key) ≡ false → AddsRow m n
adds m n key updates none = grind (arith, common_steps, row_in-cond, there_still, same_from_pointwise, none_in)
