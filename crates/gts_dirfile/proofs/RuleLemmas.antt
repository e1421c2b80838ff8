-- The rows of the rules of a directory whose rows have no fault.
use Rattle.gts_dirfile.proofs.Cited.{◌≡◌, ℕ, zero, suc, ◌+◌, ◌^◌, ◌<◌, Bool, true, false, nat_lt, List, [], ◌∷◌, length, get_or, map, Option, None, Some, Ok, refl, sym, ap, subst, arith, AreRulesOf, DirFault, Directory, Rows, RuleRow, UnknownCircuit, checked, circuit_of_row, directory_of_rows, first_fault, first_row, option_or, rule_of_row, too_many, two_names, unknown_circuit, unless, unless_fault, ltb-true, length-map}

or_none : (a b : Option DirFault) → option_or a b ≡ None → (a ≡ None) × (b ≡ None)
or_none None b h = (refl, h)
or_none (Some fault) b h = absurd (cc)

unless_none : (holds : Bool) (fault : DirFault) → unless holds fault ≡ None → holds ≡ true
unless_none true fault h = refl
unless_none false fault h = absurd (cc)

-- each row has no fault
row_sound : {A : Type 0} (fault : ℕ → A → Option DirFault) (n : ℕ) (rows : List A) (i : ℕ) (d : A)
    → first_row fault n rows ≡ None → i < length rows → fault (n + i) (get_or rows i d) ≡ None
row_sound fault n [] i d h within = absurd (omega arith)
row_sound fault n (row ∷ rows) zero d h within =
    let same : n ≡ n + zero = omega arith in
    rw (← same) (or_none (fault n row) (first_row fault (n + 1) rows) h).0
row_sound fault n (row ∷ rows) (suc i) d h within =
    let rest = row_sound fault (n + 1) rows i d (or_none (fault n row) (first_row fault (n + 1) rows) h).1 (omega arith) in
    let same : n + 1 + i ≡ n + suc i = omega arith in
    rw (← same) rest

masks_sound : (rows : Rows) → first_fault rows ≡ None → first_row (unknown_circuit (length rows.circuits)) 0 rows.rules ≡ None
masks_sound rows h =
    let a = or_none (too_many rows) _ h in
    let b = or_none (first_row (two_names rows.circuits) 0 rows.circuits) _ a.1 in
    (or_none (first_row (unknown_circuit (length rows.circuits)) 0 rows.rules) _ b.1).0

are_rules : (rows : Rows) → first_fault rows ≡ None → AreRulesOf rows.rules (directory_of_rows rows)
are_rules rows h =
    let n : length (map circuit_of_row rows.circuits) ≡ length rows.circuits = length-map rows.circuits circuit_of_row in
    record {
      same = ap (λ (k : ℕ). map (rule_of_row k) rows.rules) n;
      within = λ k d low.
          let row : RuleRow = get_or rows.rules k d in
          let none : unless (nat_lt row.to (2 ^ length rows.circuits)) (UnknownCircuit (0 + k)) ≡ None =
          row_sound (unknown_circuit (length rows.circuits)) 0 rows.rules k d (masks_sound rows h) low in
          let small : row.to < 2 ^ length rows.circuits = ltb-true row.to (2 ^ length rows.circuits) (unless_none _ _ none) in
          subst (λ (m : ℕ). row.to < 2 ^ m) (sym n) small;
    }

checked_to : (fault : Option DirFault) (made d : Directory) → unless_fault fault made ≡ Ok d → (fault ≡ None) × (made ≡ d)
checked_to None made d is = (refl, cc)
checked_to (Some fault) made d is = absurd (cc)

-- the rows of what was checked are its rules
pub rules_checked : (rows : Rows) (d : Directory) → checked rows ≡ Ok d → AreRulesOf rows.rules d
rules_checked rows d is =
    let found = checked_to (first_fault rows) (directory_of_rows rows) d is in
    subst (λ (made : Directory). AreRulesOf rows.rules made) found.1 (are_rules rows found.0)
