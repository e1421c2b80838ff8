-- The first row that passes a test, of rows as the code has them.
use Rattle.gts_inspect.proofs.Cited.{◌≡◌, ◌+◌, ℕ, Bool, cond, Option, Some, List, [], ◌∷◌, map, refl, ap}
use Rattle.std.specs.List.{position_from}

pub position_from_map : {A B : Type 0} (f : A → B) (test : B → Bool) (n : ℕ) (rows : List A)
    → position_from test n (map f rows) ≡ position_from (λ row. test (f row)) n rows
position_from_map f test n [] = refl
position_from_map f test n (row ∷ rows) = ap (λ (rest : Option ℕ). cond (test (f row)) (Some n) rest) (position_from_map f test (n + 1) rows)
