-- The fields of a line as they are spelled, and as they are read.
use Rattle.gts_request.proofs.Cited.{◌≡◌, inl, inr, ℕ, suc, ◌+◌, ◌<◌, ◌≤◌, ◌^◌, ◌==◌, Bool, true, false, nat_eq, List, [], ◌∷◌, ◌++◌, length, take, drop, Result, Ok, Err, refl, sym, ap, subst, ◌∙◌, append_assoc, arith, if◌then◌else◌, ◌||◌, take_while, Ahd, AskedHeading, Asker, Cccc, EndsBefore, Entry, HeadingFields, IsCount, IsEntry, Item, LacksEntry, Latest, Line, LineEnd, LineStart, MessageField, Number, Numbers, One, Range, RequestField, Sqn, after_word, asked, bare_heading_at, count_at, dec, digits_value, entry_text, heading_item, is_ascii_digit, item_at, list_all, number_at, numbers_at, run_at, starts_with, ◌>>=◌, eqb-true, eq-eqb, false≢true, and_parts, digits_value-lt, length-take-le, take_at, drop_at, take-append-drop, take_while-cons, length-dec, digits_value-dec, AllDigits-dec, test_from_AllDigits, AllDigits-from_test, dec-digits_value, word_takes, bare_is_spelled, common_steps}
use Rattle.gts_request.proofs.RequestLemmas.{last_at}

-- ---- words

-- bytes that begin with a word are the word and what is behind it
pub begins : (word bytes : List ℕ) → starts_with nat_eq bytes word ≡ true → bytes ≡ word ++ drop (length word) bytes
begins word bytes is =
    let passed : after_word word Cccc bytes ≡ Ok (drop (length word) bytes) =
    ap (λ (t : Bool). let r : Result (List ℕ) MessageField = if t then Ok (drop (length word) bytes) else Err Cccc in r) is in
    word_takes word Cccc bytes (drop (length word) bytes) passed

-- ---- a run of digits

run_cons : (x : ℕ) (xs : List ℕ) (t : Bool) → is_ascii_digit x ≡ t → run_at (x ∷ xs) ≡ (if t then suc (run_at xs) else 0)
run_cons x xs true is = let e : take_while is_ascii_digit (x ∷ xs) ≡ x ∷ take_while is_ascii_digit xs = take_while-cons is_ascii_digit x xs ∙ rw is refl in ap length e
run_cons x xs false is = let e : take_while is_ascii_digit (x ∷ xs) ≡ [] = take_while-cons is_ascii_digit x xs ∙ rw is refl in ap length e

-- the run, and what is behind it
pub record IsRun (k : ℕ) (bytes : List ℕ) : Type 0 where
  pub long : k ≤ length bytes
  pub digits : list_all is_ascii_digit (take k bytes) ≡ true
  pub ends : run_at (drop k bytes) ≡ 0

run_is : (bytes : List ℕ) → IsRun (run_at bytes) bytes
run_is [] = record { long = omega arith; digits = refl; ends = refl }
run_is (x ∷ xs) = grind (arith, common_steps, run_cons, run_is xs)

run_on : (ds rest : List ℕ) → list_all is_ascii_digit ds ≡ true → run_at (ds ++ rest) ≡ length ds + run_at rest
run_on [] rest all = omega arith
run_on (d ∷ ds) rest all =
    let both = and_parts (is_ascii_digit d) (list_all is_ascii_digit ds) all in
    run_cons d (ds ++ rest) true both.0 ∙ omega (arith, run_on ds rest both.1)

pub run_of_dec : (w n : ℕ) (rest : List ℕ) → run_at rest ≡ 0 → run_at (dec w n ++ rest) ≡ w
run_of_dec w n rest ends = run_on (dec w n) rest (test_from_AllDigits (dec w n) (AllDigits-dec w n)) ∙ omega (arith, length-dec w n, ends)

-- ---- a number

abbrev ok_of : ℕ → List ℕ → Result (ℕ × List ℕ) RequestField
ok_of n rest = Ok (n, rest)

-- a number of so many digits stands here, or the run has not so many
abbrev pub NumberView : ℕ → List ℕ → Result (ℕ × List ℕ) RequestField → Type 0
NumberView w bytes (Ok read) = (read.0 < 10 ^ w) × (bytes ≡ dec w read.0 ++ read.1) × (run_at read.1 ≡ 0)
NumberView w bytes (Err field) = (field ≡ Number) × (run_at bytes ≡ w → ⊥)

pub number_view : (w : ℕ) (bytes : List ℕ) → NumberView w bytes (number_at w bytes)
number_view w bytes = go (run_at bytes == w) refl
  where
    go : (t : Bool) → (run_at bytes == w) ≡ t → NumberView w bytes (if t then Ok (digits_value 10 (take w bytes), drop w bytes) else Err Number)
    go true is =
        let run : IsRun w bytes = (let P : ℕ → Type 0 = λ k. IsRun k bytes in subst P (eqb-true (run_at bytes) w is) (run_is bytes)) in
        let digits = AllDigits-from_test (take w bytes) run.digits in
        let long : length (take w bytes) ≡ w = length-take-le w bytes run.long in
        let small : digits_value 10 (take w bytes) < 10 ^ w = (let P : ℕ → Type 0 = λ k. digits_value 10 (take w bytes) < 10 ^ k in subst P long (digits_value-lt 10 (take w bytes) digits)) in
        let same : dec w (digits_value 10 (take w bytes)) ≡ take w bytes = ap (λ (k : ℕ). dec k (digits_value 10 (take w bytes))) (sym long) ∙ dec-digits_value (take w bytes) digits in
        (small, sym (take-append-drop w bytes) ∙ ap (λ (l : List ℕ). l ++ drop w bytes) (sym same), run.ends)
    go false is = (refl, λ e. absurd (false≢true (sym is ∙ eq-eqb (run_at bytes) w e)))

pub number_again : (w n : ℕ) (rest : List ℕ) → n < 10 ^ w → run_at rest ≡ 0 → number_at w (dec w n ++ rest) ≡ Ok (n, rest)
number_again w n rest small ends = grind (arith, common_steps, eq-eqb, run_of_dec, take_at, length-dec, drop_at, digits_value-dec)

pub no_number : (w : ℕ) (bytes : List ℕ) → (run_at bytes ≡ w → ⊥) → number_at w bytes ≡ Err Number
no_number w bytes none = grind (arith, common_steps, eqb-true)

-- ---- the count of a number's digits

abbrev count_of : ℕ → Result ℕ RequestField
count_of k = if (k == 3) || (k == 5) then Ok k else Err Number

abbrev just : ℕ → Result ℕ RequestField
just k = Ok k

counted : (w : ℕ) → IsCount w → count_of w ≡ Ok w
counted w (inl three) = ap count_of three ∙ ap just (sym three)
counted w (inr five) = ap count_of five ∙ ap just (sym five)

pub count_again : (w : ℕ) (bytes : List ℕ) → IsCount w → run_at bytes ≡ w → count_at bytes ≡ Ok w
count_again w bytes is run = ap count_of run ∙ counted w is

abbrev pub CountView : List ℕ → Result ℕ RequestField → Type 0
CountView bytes (Ok w) = IsCount w × (run_at bytes ≡ w)
CountView bytes (Err field) = (field ≡ Number) × (IsCount (run_at bytes) → ⊥)

pub count_view : (bytes : List ℕ) → CountView bytes (count_at bytes)
count_view bytes = grind (arith, common_steps, eq-eqb, eqb-true)

pub no_count : (bytes : List ℕ) → (IsCount (run_at bytes) → ⊥) → count_at bytes ≡ Err Number
no_count bytes none = grind (arith, common_steps, count_view)

-- ---- numbers

with_last : ℕ → ℕ → Result (ℕ × List ℕ) RequestField → Result (Item × List ℕ) RequestField
with_last w first r = r >>= λ last. Ok (Numbers w first last.0, last.1)

-- what was read of an item, or what isn't there
abbrev pub ItemView : Line → List ℕ → Result (Item × List ℕ) RequestField → Type 0
ItemView kind bytes (Ok read) = (entry : Entry) × IsEntry kind entry × EndsBefore read.1 entry × (bytes ≡ entry_text entry ++ read.1) × (read.0 ≡ asked entry)
ItemView kind bytes (Err field) = LacksEntry kind bytes field

abbrev LastAt : ℕ → ℕ × List ℕ → Bool → Result (ℕ × List ℕ) RequestField
LastAt w first t = if t then number_at w (drop 1 first.1) else Ok first

last_view : (w : ℕ) (bytes : List ℕ) (first : ℕ × List ℕ) → IsCount w → NumberView w bytes (Ok first)
    → ItemView Sqn bytes (with_last w first.0 (last_at w first))
unfolding with_last
last_view w bytes first is v = go (starts_with nat_eq first.1 (45 ∷ [])) refl
  where
    range : first.1 ≡ 45 ∷ drop 1 first.1 → (r : Result (ℕ × List ℕ) RequestField) → NumberView w (drop 1 first.1) r → ItemView Sqn bytes (with_last w first.0 r)
    range dash (Ok last) l = (
      Range w first.0 last.0,
      (is, v.0, l.0),
      l.2,
      v.1 ∙ ap (λ (t : List ℕ). dec w first.0 ++ t) dash ∙ ap (λ (t : List ℕ). dec w first.0 ++ 45 ∷ t) l.1 ∙ sym (append_assoc (dec w first.0) (45 ∷ dec w last.0) last.1),
      refl,
    )
    range dash (Err field) l =
        let P : RequestField → Type 0 = λ f. LacksEntry Sqn bytes f in
        subst P (sym l.0) (refl, inr (w, first.0, drop 1 first.1, is, v.0, v.1 ∙ ap (λ (t : List ℕ). dec w first.0 ++ t) dash, l.1))

    go : (t : Bool) → starts_with nat_eq first.1 (45 ∷ []) ≡ t → ItemView Sqn bytes (with_last w first.0 (LastAt w first t))
    go true dash = range (begins (45 ∷ []) first.1 dash) (number_at w (drop 1 first.1)) (number_view w (drop 1 first.1))
    go false none = (One w first.0, (is, v.0), (v.2, none), v.1, refl)

abbrev Both : List ℕ → ℕ → Result (ℕ × List ℕ) RequestField → Result (Item × List ℕ) RequestField
Both bytes w r = r >>= λ first. last_at w first >>= λ last. Ok (Numbers w first.0 last.0, last.1)

numbers_view : (bytes : List ℕ) → ItemView Sqn bytes (numbers_at bytes)
unfolding with_last
numbers_view bytes = go (count_at bytes) (count_view bytes)
  where
    first : (w : ℕ) → IsCount w → run_at bytes ≡ w → (r : Result (ℕ × List ℕ) RequestField) → NumberView w bytes r → ItemView Sqn bytes (Both bytes w r)
    first w is run (Ok read) v = last_view w bytes read is v
    first w is run (Err field) v = absurd (v.1 run)

    go : (r : Result ℕ RequestField) → CountView bytes r → ItemView Sqn bytes (r >>= λ w. Both bytes w (number_at w bytes))
    go (Ok w) v = first w v.0 v.1 (number_at w bytes) (number_view w bytes)
    go (Err field) v = let P : RequestField → Type 0 = λ f. LacksEntry Sqn bytes f in subst P (sym v.0) (refl, inl v.1)

heading_view : (bytes : List ℕ) → ItemView Ahd bytes (item_at Ahd bytes)
heading_view bytes = go (bare_heading_at bytes) refl
  where
    go : (r : Result (HeadingFields × List ℕ) MessageField) → bare_heading_at bytes ≡ r → ItemView Ahd bytes (heading_item r)
    go (Ok found) is =
        let spelled = bare_is_spelled bytes found.1 found.0 is in
        (Latest found.0, spelled.0, ap bare_heading_at (sym spelled.1) ∙ is, spelled.1, refl)
    go (Err field) is = (refl, λ found e. absurd (let both : Err field ≡ Ok found = sym is ∙ e in cc))

pub item_view : (kind : Line) (bytes : List ℕ) → ItemView kind bytes (item_at kind bytes)
item_view Sqn bytes = numbers_view bytes
item_view Ahd bytes = heading_view bytes

-- ---- and again

one_again : (w n : ℕ) (rest : List ℕ) → IsCount w → n < 10 ^ w → EndsBefore rest (One w n) → numbers_at (dec w n ++ rest) ≡ Ok (Numbers w n n, rest)
one_again w n rest is small ends = grind (arith, common_steps, count_again, run_of_dec, number_again)

range_again : (w first last : ℕ) (rest : List ℕ) → IsCount w → first < 10 ^ w → last < 10 ^ w → run_at rest ≡ 0
    → numbers_at (dec w first ++ 45 ∷ (dec w last ++ rest)) ≡ Ok (Numbers w first last, rest)
range_again w first last rest is small fits ends = grind (arith, common_steps, count_again, run_of_dec, number_again)

pub item_again : (kind : Line) (entry : Entry) (rest : List ℕ) → IsEntry kind entry → EndsBefore rest entry → item_at kind (entry_text entry ++ rest) ≡ Ok (asked entry, rest)
item_again Sqn (One w n) rest is ends = one_again w n rest is.0 is.1 ends
item_again Sqn (Range w first last) rest is ends = grind (arith, common_steps, range_again)
item_again Sqn (Latest heading) rest is ends = absurd is
item_again Ahd (One w n) rest is ends = absurd is
item_again Ahd (Range w first last) rest is ends = absurd is
item_again Ahd (Latest heading) rest is ends = ap heading_item ends

pub item_lacks : (kind : Line) (bytes : List ℕ) (field : RequestField) → LacksEntry kind bytes field → item_at kind bytes ≡ Err field
item_lacks kind bytes Asker lacks = absurd lacks
item_lacks kind bytes LineStart lacks = absurd lacks
item_lacks kind bytes LineEnd lacks = absurd lacks
item_lacks Ahd bytes Number lacks = absurd (let e : Ahd ≡ Sqn = lacks.0 in cc)
item_lacks Sqn bytes Number lacks = grind (arith, common_steps, no_count, count_again, run_of_dec, number_again, no_number)
item_lacks Sqn bytes AskedHeading lacks = absurd (let e : Sqn ≡ Ahd = lacks.0 in cc)
item_lacks Ahd bytes AskedHeading lacks = grind (arith, common_steps)
