-- The fields of a head, read one behind the other.
use Rattle.gts_replay.proofs.Cited.{◌≡◌, ℕ, zero, suc, ◌+◌, ◌-◌, ◌*◌, ◌/◌, ◌<◌, ◌≤◌, ◌==◌, Bool, true, false, List, [], ◌∷◌, ◌++◌, length, Result, Ok, Err, refl, sym, ap, subst, ◌∙◌, arith, if◌then◌else◌, More, Stop, byte_where, circuit_at, dec, digit_at, end_at, is_digit_below, size_at, ◌>>=◌, eqb-true, and_parts, and_from, leb-true, le-leb, lt-ltb, common_steps}
use Rattle.gts_replay.specs.declared.head_cursor.Stop.TheVariants.{Bad}
use Rattle.gts_replay.specs.declared.head.Head.{Head}
use Rattle.gts_replay.specs.Cited.{digits_at}

-- ---- texts of heads, each with its head

abbrev pub Texts : Type 1
Texts = Head → List ℕ → Type 0

-- some text goes on behind these bytes
abbrev pub Part : Texts → List ℕ → Type 0
Part L bytes = (head : Head) × (next : ℕ) × (more : List ℕ) × L head (bytes ++ next ∷ more)

-- what a reading says of the texts that may stand at the front
abbrev pub Meets : Texts → List ℕ → Result (Head × List ℕ) Stop → Type 0
Meets L bytes (Ok found) = (text : List ℕ) × (bytes ≡ text ++ found.1) × L found.0 text
Meets L bytes (Err More) = Part L bytes
Meets L bytes (Err (Bad left)) =
    (front : List ℕ) × (byte : ℕ) × (unread : List ℕ) × (bytes ≡ front ++ byte ∷ unread) × (left ≡ length (byte ∷ unread)) × Part L front
    × ((head : Head) (more : List ℕ) → L head (front ++ byte ∷ more) → ⊥)

-- the same texts
pub meets_same : (L K : Texts) (bytes : List ℕ) (r : Result (Head × List ℕ) Stop) → ((h : Head) (t : List ℕ) → L h t → K h t) → ((h : Head) (t : List ℕ) → K h t → L h t)
    → Meets L bytes r → Meets K bytes r
meets_same L K bytes (Ok found) to from h = (h.0, h.1, to found.0 h.0 h.2)
meets_same L K bytes (Err More) to from h = (h.0, h.1, h.2, to h.0 (bytes ++ h.1 ∷ h.2) h.3)
meets_same L K bytes (Err (Bad left)) to from h = grind (arith, common_steps)

-- ---- one byte

-- a byte that passes a test, and then the texts behind it
abbrev pub ByteThen : (ℕ → Bool) → (ℕ → Texts) → Texts
ByteThen test M h t = (b : ℕ) × (u : List ℕ) × (t ≡ b ∷ u) × (test b ≡ true) × M b h u

abbrev pub Some : Texts → Type 0
Some M = (h : Head) × (t : List ℕ) × M h t

pub on_byte : (test : ℕ → Bool) (M : ℕ → Texts) (bytes : List ℕ) (k : ℕ × List ℕ → Result (Head × List ℕ) Stop) → Some (ByteThen test M)
    → ((b : ℕ) (rest : List ℕ) → test b ≡ true → Meets (M b) rest (k (b, rest))) → Meets (ByteThen test M) bytes (byte_where test bytes >>= k)
on_byte test M [] k some then_read = let b = some.2 in (some.0, b.0, b.1, (b.0, b.1, refl, b.3, b.4))
on_byte test M (b ∷ rest) k some then_read = go (test b) refl
  where
    behind : test b ≡ true → (r : Result (Head × List ℕ) Stop) → Meets (M b) rest r → Meets (ByteThen test M) (b ∷ rest) r
    behind passes (Ok found) h = (b ∷ h.0, ap (λ (xs : List ℕ). b ∷ xs) h.1, (b, h.0, refl, passes, h.2))
    behind passes (Err More) h = (h.0, h.1, h.2, (b, rest ++ h.1 ∷ h.2, refl, passes, h.3))
    behind passes (Err (Bad left)) h =
        let part = h.5 in
        let none : (head : Head) (more : List ℕ) → ByteThen test M head ((b ∷ h.0) ++ h.1 ∷ more) → ⊥ = λ head more w.
        let same : b ≡ w.0 = let e = w.2 in cc in
        let behind_it : w.1 ≡ h.0 ++ h.1 ∷ more = let e = w.2 in cc in
        h.6 head more (subst (λ (u : List ℕ). M b head u) behind_it (subst (λ (x : ℕ). M x head w.1) (sym same) w.4)) in
        (b ∷ h.0, h.1, h.2, ap (λ (xs : List ℕ). b ∷ xs) h.3, h.4, (part.0, part.1, part.2, (b, h.0 ++ part.1 ∷ part.2, refl, passes, part.3)), none)

    go : (t : Bool) → test b ≡ t → Meets (ByteThen test M) (b ∷ rest) ((if t then Ok (b, rest) else Err (Bad (length (b ∷ rest)))) >>= k)
    go true e = behind e (k (b, rest)) (then_read b rest e)
    go false e =
        let w = some.2 in
        let none : (head : Head) (more : List ℕ) → ByteThen test M head (b ∷ more) → ⊥ = λ head more v.
        let same : b ≡ v.0 = let f = v.2 in cc in
        let passes : test b ≡ true = ap test same ∙ v.3 in cc in
        ([], b, rest, refl, refl, (some.0, w.0, w.1, (w.0, w.1, refl, w.3, w.4)), none)

bind_assoc : {A B C : Type 0} (r : Result A Stop) (f : A → Result B Stop) (g : B → Result C Stop) → ((r >>= f) >>= g) ≡ (r >>= λ x. f x >>= g)
bind_assoc (Ok x) f g = refl
bind_assoc (Err e) f g = refl

-- ---- digits

-- a digit whose number is below a limit, and then the texts behind it
abbrev DigitThen : ℕ → (ℕ → Texts) → Texts
DigitThen limit M h t = (d : ℕ) × (u : List ℕ) × (t ≡ (48 + d) ∷ u) × (d < limit) × (d < 10) × M d h u

digit_passes : (limit d : ℕ) → d < limit → d < 10 → is_digit_below limit (48 + d) ≡ true
digit_passes limit d below small = grind (arith, common_steps, and_from, le-leb, lt-ltb)

abbrev DigitBelow : ℕ → ℕ → Type 0
DigitBelow limit b = (48 + (b - 48) ≡ b) × (b - 48 < limit) × (b - 48 < 10)

passing_digit : (limit b : ℕ) → is_digit_below limit b ≡ true → DigitBelow limit b
passing_digit limit b e = grind (arith, common_steps, and_parts, leb-true)

on_digit : (limit : ℕ) (M : ℕ → Texts) (bytes : List ℕ) (k : ℕ × List ℕ → Result (Head × List ℕ) Stop) → Some (DigitThen limit M)
    → ((d : ℕ) (rest : List ℕ) → d < limit → d < 10 → Meets (M d) rest (k (d, rest))) → Meets (DigitThen limit M) bytes (digit_at limit bytes >>= k)
on_digit limit M bytes k some then_read =
    let test : ℕ → Bool = is_digit_below limit in
    let by_byte : ℕ → Texts = λ b. M (b - 48) in
    let to : (h : Head) (t : List ℕ) → ByteThen test by_byte h t → DigitThen limit M h t = λ h t w.
    let d = passing_digit limit w.0 w.3 in (w.0 - 48, w.1, w.2 ∙ ap (λ (x : ℕ). x ∷ w.1) (sym d.0), d.1, d.2, w.4) in
    let from : (h : Head) (t : List ℕ) → DigitThen limit M h t → ByteThen test by_byte h t = λ h t w.
    let value : w.0 ≡ 48 + w.0 - 48 = omega arith in (48 + w.0, w.1, w.2, digit_passes limit w.0 w.3 w.4, subst (λ (x : ℕ). M x h w.1) value w.5) in
    let next : ℕ × List ℕ → Result (Head × List ℕ) Stop = λ x. k (x.0 - 48, x.1) in
    let read : Meets (ByteThen test by_byte) bytes (byte_where test bytes >>= next) =
    on_byte test by_byte bytes next (some.0, some.1, from some.0 some.1 some.2) (λ b rest e. let d = passing_digit limit b e in then_read (b - 48) rest d.1 d.2) in
    subst (Meets (DigitThen limit M) bytes) (sym (bind_assoc (byte_where test bytes) (λ digit. Ok (digit.0 - 48, digit.1)) k))
    (meets_same (ByteThen test by_byte) (DigitThen limit M) bytes (byte_where test bytes >>= next) to from read)

dec_push : (w m d : ℕ) → d < 10 → dec (suc w) (10 * m + d) ≡ dec w m ++ (48 + d) ∷ []
unfolding dec
dec_push w m d small = grind (arith, common_steps)

-- ---- a circuit

abbrev pub CircuitThen : ℕ → (ℕ → Texts) → Texts
CircuitThen circuits K h t = (c : ℕ) × (u : List ℕ) × (c < circuits) × (t ≡ 32 ∷ (dec 2 c ++ u)) × K c h u

abbrev Units : ℕ → (ℕ → Texts) → ℕ → Texts
Units circuits K a = DigitThen (circuits - 10 * a) (λ b. K (10 * a + b))

abbrev Tens : ℕ → (ℕ → Texts) → Texts
Tens circuits K = DigitThen ((circuits + 9) / 10) (Units circuits K)

circuit_by_digits : (circuits : ℕ) (K : ℕ → Texts) (h : Head) (t : List ℕ) → circuits ≤ 100 → CircuitThen circuits K h t → ByteThen (λ byte. byte == 32) (λ _. Tens circuits K) h t
unfolding dec
circuit_by_digits circuits K h t few w = grind (arith, common_steps)

circuit_of_digits : (circuits : ℕ) (K : ℕ → Texts) (h : Head) (t : List ℕ) → ByteThen (λ byte. byte == 32) (λ _. Tens circuits K) h t → CircuitThen circuits K h t
unfolding dec
circuit_of_digits circuits K h t w = grind (arith, common_steps, eqb-true, dec_push)

pub on_circuit : (circuits : ℕ) (K : ℕ → Texts) (bytes : List ℕ) (k : ℕ × List ℕ → Result (Head × List ℕ) Stop) → 0 < circuits → circuits ≤ 100 → ((c : ℕ) → Some (K c))
    → ((c : ℕ) (rest : List ℕ) → c < circuits → Meets (K c) rest (k (c, rest))) → Meets (CircuitThen circuits K) bytes (circuit_at circuits bytes >>= k)
unfolding circuit_at
on_circuit circuits K bytes k some few inhabited then_read =
    let by_digits : Texts = ByteThen (λ byte. byte == 32) (λ _. Tens circuits K) in
    let units_of : ℕ × List ℕ → Result (ℕ × List ℕ) Stop = λ tens. digit_at (circuits - 10 * tens.0) tens.1 >>= λ units. Ok (10 * tens.0 + units.0, units.1) in
    let tens_of : ℕ × List ℕ → Result (ℕ × List ℕ) Stop = λ blank. digit_at ((circuits + 9) / 10) blank.1 >>= units_of in
    let some_units : (a : ℕ) → a < (circuits + 9) / 10 → Some (Units circuits K a) = λ a h. let x = inhabited (10 * a + 0) in (x.0, 48 ∷ x.1, (0, x.1, refl, omega (arith, h), omega arith, x.2)) in
    let some_tens : Some (Tens circuits K) = let x = some_units 0 (omega arith) in (x.0, 48 ∷ x.1, (0, x.1, refl, omega arith, omega arith, x.2)) in
    let on_units : (a : ℕ) (rest : List ℕ) → a < (circuits + 9) / 10 → a < 10 → Meets (Units circuits K a) rest (units_of (a, rest) >>= k) = λ a rest h _.
    subst (Meets (Units circuits K a) rest) (sym (bind_assoc (digit_at (circuits - 10 * a) rest) (λ units. Ok (10 * a + units.0, units.1)) k))
    (on_digit (circuits - 10 * a) (λ b. K (10 * a + b)) rest (λ units. k (10 * a + units.0, units.1)) (some_units a h) (λ b rest below _. then_read (10 * a + b) rest (omega (arith, below)))) in
    let on_tens : (b : ℕ) (rest : List ℕ) → (b == 32) ≡ true → Meets (Tens circuits K) rest (tens_of (b, rest) >>= k) = λ b rest _.
    subst (Meets (Tens circuits K) rest) (sym (bind_assoc (digit_at ((circuits + 9) / 10) rest) units_of k))
    (on_digit ((circuits + 9) / 10) (Units circuits K) rest (λ tens. units_of tens >>= k) some_tens on_units) in
    let read : Meets by_digits bytes (byte_where (λ byte. byte == 32) bytes >>= λ blank. tens_of blank >>= k) =
    on_byte (λ byte. byte == 32) (λ _. Tens circuits K) bytes (λ blank. tens_of blank >>= k) (some_tens.0, 32 ∷ some_tens.1, (32, some_tens.1, refl, refl, some_tens.2)) on_tens in
    subst (Meets (CircuitThen circuits K) bytes) (sym (bind_assoc (byte_where (λ byte. byte == 32) bytes) tens_of k))
    (meets_same by_digits (CircuitThen circuits K) bytes (byte_where (λ byte. byte == 32) bytes >>= λ blank. tens_of blank >>= k) (circuit_of_digits circuits K) (λ h t w. circuit_by_digits circuits K h t few w) read)

-- ---- a size

abbrev DigitsThen : ℕ → ℕ → (ℕ → Texts) → Texts
DigitsThen zero number K = K number
DigitsThen (suc more) number K = DigitThen 10 (λ d. DigitsThen more (10 * number + d) K)

abbrev pub SizeThen : (ℕ → Texts) → Texts
SizeThen K h t = (n : ℕ) × (u : List ℕ) × (n ≤ 999999) × (t ≡ 32 ∷ (dec 6 n ++ u)) × K n h u

some_digits : (more number : ℕ) (K : ℕ → Texts) → ((n : ℕ) → Some (K n)) → Some (DigitsThen more number K)
some_digits zero number K inhabited = inhabited number
some_digits (suc more) number K inhabited =
    let x = some_digits more (10 * number + 0) K inhabited in (x.0, 48 ∷ x.1, (0, x.1, refl, omega arith, omega arith, x.2))

on_digits : (more number : ℕ) (K : ℕ → Texts) (bytes : List ℕ) (k : ℕ × List ℕ → Result (Head × List ℕ) Stop) → ((n : ℕ) → Some (K n))
    → ((n : ℕ) (rest : List ℕ) → Meets (K n) rest (k (n, rest))) → Meets (DigitsThen more number K) bytes (digits_at more number bytes >>= k)
unfolding digits_at
on_digits zero number K bytes k inhabited then_read = then_read number bytes
on_digits (suc more) number K bytes k inhabited then_read =
    let next : ℕ × List ℕ → Result (ℕ × List ℕ) Stop = λ digit. digits_at more (10 * number + digit.0) digit.1 in
    subst (Meets (DigitsThen (suc more) number K) bytes) (sym (bind_assoc (digit_at 10 bytes) next k))
    (on_digit 10 (λ d. DigitsThen more (10 * number + d) K) bytes (λ digit. next digit >>= k) (some_digits (suc more) number K inhabited)
    (λ d rest _ _. on_digits more (10 * number + d) K rest k inhabited then_read))

size_of_digits : (K : ℕ → Texts) (h : Head) (t : List ℕ) → ByteThen (λ byte. byte == 32) (λ _. DigitsThen 6 0 K) h t → SizeThen K h t
unfolding dec
size_of_digits K h t w = grind (arith, common_steps, eqb-true, dec_push)

size_by_digits : (K : ℕ → Texts) (h : Head) (t : List ℕ) → SizeThen K h t → ByteThen (λ byte. byte == 32) (λ _. DigitsThen 6 0 K) h t
unfolding dec
size_by_digits K h t w = grind (arith, common_steps)

pub on_size : (K : ℕ → Texts) (bytes : List ℕ) (k : ℕ × List ℕ → Result (Head × List ℕ) Stop) → ((n : ℕ) → Some (K n))
    → ((n : ℕ) (rest : List ℕ) → Meets (K n) rest (k (n, rest))) → Meets (SizeThen K) bytes (size_at bytes >>= k)
unfolding size_at
on_size K bytes k inhabited then_read =
    let by_digits : Texts = ByteThen (λ byte. byte == 32) (λ _. DigitsThen 6 0 K) in
    let digits_of : ℕ × List ℕ → Result (ℕ × List ℕ) Stop = λ blank. digits_at 6 0 blank.1 in
    let some = some_digits 6 0 K inhabited in
    let read : Meets by_digits bytes (byte_where (λ byte. byte == 32) bytes >>= λ blank. digits_of blank >>= k) =
    on_byte (λ byte. byte == 32) (λ _. DigitsThen 6 0 K) bytes (λ blank. digits_of blank >>= k) (some.0, 32 ∷ some.1, (32, some.1, refl, refl, some.2))
    (λ b rest _. on_digits 6 0 K rest k inhabited then_read) in
    subst (Meets (SizeThen K) bytes) (sym (bind_assoc (byte_where (λ byte. byte == 32) bytes) digits_of k))
    (meets_same by_digits (SizeThen K) bytes (byte_where (λ byte. byte == 32) bytes >>= λ blank. digits_of blank >>= k) (size_of_digits K) (size_by_digits K) read)

-- ---- the end of a head

abbrev pub Ended : Head → Texts
Ended head h t = (h ≡ head) × (t ≡ 10 ∷ [])

pub some_ended : (head : Head) → Some (Ended head)
some_ended head = (head, 10 ∷ [], (refl, refl))

pub on_end : (head : Head) (bytes : List ℕ) → Meets (Ended head) bytes (end_at head bytes)
unfolding end_at
on_end head bytes =
    let at_end : Texts = λ h t. (h ≡ head) × (t ≡ []) in
    let to : (h : Head) (t : List ℕ) → ByteThen (λ byte. byte == 10) (λ _. at_end) h t → Ended head h t = λ h t w.
    (w.4.0, w.2 ∙ ap (λ (x : ℕ). x ∷ w.1) (eqb-true w.0 10 w.3) ∙ ap (λ (xs : List ℕ). 10 ∷ xs) w.4.1) in
    let from : (h : Head) (t : List ℕ) → Ended head h t → ByteThen (λ byte. byte == 10) (λ _. at_end) h t = λ h t w. (10, [], w.1, refl, (w.0, refl)) in
    meets_same (ByteThen (λ byte. byte == 10) (λ _. at_end)) (Ended head) bytes (end_at head bytes) to from
    (on_byte (λ byte. byte == 10) (λ _. at_end) bytes (λ lf. Ok (head, lf.1)) (head, 10 ∷ [], (10, [], refl, refl, (refl, refl))) (λ b rest _. ([], refl, (refl, refl))))
