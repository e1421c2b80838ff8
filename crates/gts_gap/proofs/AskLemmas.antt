-- The text of a request, and how it is read.
use Rattle.gts_gap.proofs.Cited.{◌≡◌, ℕ, zero, suc, ◌<◌, ◌≤◌, ◌^◌, inl, inr, Bool, true, false, ◌&&◌, ◌||◌, ◌==◌, nat_le, List, [], ◌∷◌, ◌++◌, length, take, drop, map, Ok, Err, Some, None, refl, sym, ap, subst, ◌∙◌, append_assoc, if◌then◌else◌, arith, take_while, codes, Result, AllByRecursion, Cccc, EOL, IsDigits, Item, MessageField, Number, Numbers, RequestField, Run, Sqn, are_capitals, ask_text, behind_asker, bytes_from, capitals_at, count_at, dec, is_ascii_digit, item_text, items_at, items_of, items_text, list_all, more_text, numbers_at, request_at, run_at, text_of, ◌>>=◌, number_at, eqb-true, eq-eqb, le-leb, and_parts, append-nil, length-append, take_at, drop_at, length-dec, digits_value-dec, AllDigits-dec, test_from_AllDigits, take_while-cons, common_steps}
use Rattle.gts_gap.specs.Cited.{numbers_of}

-- runs as they are given
abbrev pub triples : ℕ → List Run → List (ℕ × ℕ × ℕ)
triples w rs = map (λ run. (run.first, run.last, w)) rs

abbrev ok_of : ℕ → List ℕ → Result (ℕ × List ℕ) RequestField
ok_of n rest = Ok (n, rest)

abbrev item_of : (w first last : ℕ) → List ℕ → Result (Item × List ℕ) RequestField
item_of w first last rest = Ok (Numbers w first last, rest)

abbrev count_of : ℕ → Result ℕ RequestField
count_of k = if (k == 3) || (k == 5) then Ok k else Err Number

abbrev just : ℕ → Result ℕ RequestField
just k = Ok k

abbrev found : List ℕ → List ℕ → Result (List ℕ × List ℕ) MessageField
found front back = Ok (front, back)

-- ---- one line

items-line : (w : ℕ) (run : Run) (more : List Run) → items_text w (run ∷ more) ≡ item_text w run ++ more_text w (triples w more)
items-line w run [] = sym (append-nil (item_text w run))
items-line w run (next ∷ more) = grind (arith, common_steps, items-line w next more)

pub one-line : (own : List ℕ) (w : ℕ) (rs : List Run) → (rs ≡ [] → ⊥) → text_of own w (triples w rs) ≡ ask_text own w rs
one-line own w [] some = absurd (some refl)
one-line own w (run ∷ more) some = grind (arith, common_steps, items-line)

-- ---- a number

run-end : (ds : List ℕ) (x : ℕ) (rest : List ℕ) → list_all is_ascii_digit ds ≡ true → is_ascii_digit x ≡ false → take_while is_ascii_digit (ds ++ x ∷ rest) ≡ ds
run-end [] x rest all other = take_while-cons is_ascii_digit x rest ∙ rw other refl
run-end (d ∷ ds) x rest all other =
    let both = and_parts (is_ascii_digit d) (list_all is_ascii_digit ds) all in
    take_while-cons is_ascii_digit d (ds ++ x ∷ rest) ∙ rw both.0 (ap (λ (l : List ℕ). d ∷ l) (run-end ds x rest both.1 other))

run-read : (w n x : ℕ) (rest : List ℕ) → is_ascii_digit x ≡ false → run_at (dec w n ++ x ∷ rest) ≡ w
run-read w n x rest other = grind (arith, common_steps, test_from_AllDigits, AllDigits-dec, run-end, length-dec)

counted : (w : ℕ) → IsDigits w → count_of w ≡ Ok w
counted w (inl three) = ap count_of three ∙ ap just (sym three)
counted w (inr five) = ap count_of five ∙ ap just (sym five)

count-read : (w n x : ℕ) (rest : List ℕ) → IsDigits w → is_ascii_digit x ≡ false → count_at (dec w n ++ x ∷ rest) ≡ Ok w
count-read w n x rest digits other = ap count_of (run-read w n x rest other) ∙ counted w digits

number-read : (w n x : ℕ) (rest : List ℕ) → n < 10 ^ w → is_ascii_digit x ≡ false → number_at w (dec w n ++ x ∷ rest) ≡ Ok (n, x ∷ rest)
number-read w n x rest small other = grind (arith, common_steps, eq-eqb, run-read, take_at, length-dec, drop_at, digits_value-dec)

-- ---- an item

-- a byte that ends an item: no digit and no `-` (45)
pub record EndsItem (x : ℕ) : Type 0 where
  pub other : is_ascii_digit x ≡ false
  pub last : (45 == x) ≡ false

item-read : (w : ℕ) (run : Run) (x : ℕ) (rest : List ℕ) → IsDigits w → run.first < 10 ^ w → run.last < 10 ^ w → EndsItem x
    → numbers_at (item_text w run ++ x ∷ rest) ≡ Ok (Numbers w run.first run.last, x ∷ rest)
item-read w run x rest digits small fits ends = grind (arith, common_steps, count-read, number-read, eqb-true)

-- ---- items

abbrev pub AreSmall : ℕ → List Run → Type 0
AreSmall w rs = AllByRecursion (λ run. (run.first < 10 ^ w) × (run.last < 10 ^ w)) rs

items-read : (w n : ℕ) (run : Run) (more : List Run) → IsDigits w → AreSmall w (run ∷ more) → length more < n
    → items_at n (Some (Sqn, item_text w run ++ (more_text w (triples w more) ++ 61 ∷ []))) ≡ Ok (items_of w (run ∷ more))
items-read w zero run more digits small enough = absurd (omega arith)
items-read w (suc n) run [] digits small enough =
    rw (item-read w run 61 [] digits small.0.0 small.0.1 (record { other = refl; last = refl })) (nothing n)
  where
    nothing : (n : ℕ) → (items_at n None >>= (λ more. Ok (Numbers w run.first run.last ∷ more))) ≡ Ok (Numbers w run.first run.last ∷ [])
    nothing zero = refl
    nothing (suc n) = refl
items-read w (suc n) run (next ∷ more) digits small enough =
    let rest : List ℕ = item_text w next ++ (more_text w (triples w more) ++ 61 ∷ []) in
    let text : more_text w (triples w (next ∷ more)) ++ 61 ∷ [] ≡ 47 ∷ rest =
    ap (λ (l : List ℕ). 47 ∷ l) (append_assoc (item_text w next) (more_text w (triples w more)) (61 ∷ [])) in
    let later : items_at n (Some (Sqn, rest)) ≡ Ok (items_of w (next ∷ more)) = items-read w n next more digits small.1 (omega arith) in
    rw text (rw (item-read w run 47 rest digits small.0.0 small.0.1 (record { other = refl; last = refl })) (rw later refl))

-- ---- the whole text

more-length : (w : ℕ) (rs : List Run) → length rs ≤ length (more_text w (triples w rs))
more-length w [] = omega arith
more-length w (run ∷ rs) = omega (arith, more-length w rs, length-append (item_text w run) (more_text w (triples w rs)))

own-read : (own rest : List ℕ) → length own ≡ 4 → are_capitals own ≡ true → capitals_at 4 Cccc (own ++ rest) ≡ Ok (own, rest)
own-read own rest four capitals =
    let long : nat_le 4 (length (own ++ rest)) ≡ true = le-leb 4 (length (own ++ rest)) (omega (arith, four, length-append own rest)) in
    let front : take 4 (own ++ rest) ≡ own = take_at own rest 4 four in
    let back : drop 4 (own ++ rest) ≡ rest = drop_at own rest 4 four in
    let passes : (nat_le 4 (length (own ++ rest)) && are_capitals (take 4 (own ++ rest))) ≡ true = rw (long, front) capitals in
    ap (λ (t : Bool). if t then found (take 4 (own ++ rest)) (drop 4 (own ++ rest)) else Err Cccc) passes
    ∙ ap (λ (l : List ℕ). found l (drop 4 (own ++ rest))) front ∙ ap (found own) back

regroup : (o e s i m z : List ℕ) → ((((o ++ e) ++ s) ++ i) ++ m) ++ z ≡ o ++ ((e ++ s) ++ (i ++ (m ++ z)))
regroup o e s i m z = simp append_assoc

pub text-read : (own : List ℕ) (w : ℕ) (run : Run) (more : List Run) → length own ≡ 4 → are_capitals own ≡ true → IsDigits w → AreSmall w (run ∷ more)
    → request_at (text_of own w (triples w (run ∷ more))) ≡ Ok (items_of w (run ∷ more))
unfolding request_at
text-read own w run more four capitals digits small =
    let rest : List ℕ = item_text w run ++ (more_text w (triples w more) ++ 61 ∷ []) in
    let text : text_of own w (triples w (run ∷ more)) ≡ own ++ (EOL ++ codes "SQN " ++ rest) =
    regroup own EOL (codes "SQN ") (item_text w run) (more_text w (triples w more)) (61 ∷ []) in
    let start : capitals_at 4 Cccc (text_of own w (triples w (run ∷ more))) ≡ Ok (own, EOL ++ codes "SQN " ++ rest) =
    ap (capitals_at 4 Cccc) text ∙ own-read own (EOL ++ codes "SQN " ++ rest) four capitals in
    let enough : length more < suc (length rest) = omega (arith, more-length w more, length-append (item_text w run) (more_text w (triples w more) ++ 61 ∷ []), length-append (more_text w (triples w more)) (61 ∷ [])) in
    ap (λ r. behind_asker r >>= λ place. items_at (bytes_from (Some place)) (Some place)) start ∙ items-read w (suc (length rest)) run more digits small enough

three-small : (rs : List Run) → AreSmall 3 (map (numbers_of 3) rs)
three-small [] = tt
three-small (run ∷ rs) = ((omega arith, omega arith), three-small rs)

five-small : (rs : List Run) → AreSmall 5 (map (numbers_of 5) rs)
five-small [] = tt
five-small (run ∷ rs) = ((omega arith, omega arith), five-small rs)

pub gaps-small : (w : ℕ) (rs : List Run) → IsDigits w → AreSmall w (map (numbers_of w) rs)
gaps-small w rs (inl three) = let P : ℕ → Type 0 = λ v. AreSmall v (map (numbers_of v) rs) in subst P (sym three) (three-small rs)
gaps-small w rs (inr five) = let P : ℕ → Type 0 = λ v. AreSmall v (map (numbers_of v) rs) in subst P (sym five) (five-small rs)

pub runs-read : (own : List ℕ) (w : ℕ) (rs : List Run) → IsDigits w → length own ≡ 4 → are_capitals own ≡ true → AreSmall w rs → (rs ≡ [] → ⊥)
    → request_at (text_of own w (triples w rs)) ≡ Ok (items_of w rs)
runs-read own w [] digits four capitals small some = absurd (some refl)
runs-read own w (run ∷ more) digits four capitals small some = text-read own w run more four capitals digits small
