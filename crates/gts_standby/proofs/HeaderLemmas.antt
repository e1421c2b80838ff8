-- The header of a feed.
use Rattle.gts_standby.proofs.Cited.{◌≡◌, ◌≢◌, ◌⊎◌, ℕ, suc, ◌<◌, ◌≤◌, Bool, true, cond, List, [], ◌∷◌, ◌++◌, length, drop, refl, sym, ap, subst, ◌∙◌, arith, ◌==◌, nat_le, ne_eqb, nat_tests, append-nil, Breaks, Done, Ends, Feed, HasRead, InFeed, StopsAt, Taken, agreeing, by_header, stopped, common_steps}

-- no more agree than there are
pub agreeing-low : (xs ys : List ℕ) → agreeing xs ys ≤ length ys
agreeing-low [] ys = omega arith
agreeing-low (x ∷ xs) [] = omega arith
agreeing-low (x ∷ xs) (y ∷ ys) = grind (arith, common_steps, agreeing-low xs ys)

-- as many agree with a front, where it is as long, or where one differs there
agreeing-append : (xs ys more : List ℕ) → length xs ≤ length ys → agreeing xs (ys ++ more) ≡ agreeing xs ys
agreeing-append [] [] more long = refl
agreeing-append [] (y ∷ ys) more long = refl
agreeing-append (x ∷ xs) [] more long = absurd (omega (arith, long))
agreeing-append (x ∷ xs) (y ∷ ys) more long = ap (λ (k : ℕ). cond (x == y) (suc k) 0) (agreeing-append xs ys more (omega (arith, long)))

-- the whole of a feed agrees as what was read of it does
pub all_agree : (header fed left : List ℕ) (ahead : InFeed) → length header ≤ 40 → HasRead fed ahead left → (ahead.is_all ≡ true) ⊎ (40 ≤ length ahead.bytes) → agreeing header fed ≡ agreeing header ahead.bytes
all_agree header fed left ahead size read enough = grind (arith, common_steps, append-nil, agreeing-append)

pub header_on : (header fed : List ℕ) → agreeing header fed ≡ 40 → (next : Taken) → by_header header fed next ≡ next
header_on header fed e next = ap (λ (k : ℕ). cond (k == 40) next (cond (nat_le (length fed) k) (stopped Ends) (stopped (Breaks k)))) e

pub header_off : (header fed : List ℕ) (k : ℕ) (b : Bool) → agreeing header fed ≡ k → k ≢ 40 → nat_le (length fed) k ≡ b → (next : Taken)
    → by_header header fed next ≡ stopped (cond b Ends (Breaks k))
header_off header fed k b e other fits next = grind (arith, common_steps, ne_eqb)

-- what is left where so many bytes were taken
pub passed : (fed left : List ℕ) (ahead : InFeed) (count : ℕ) → HasRead fed ahead left → count ≤ length ahead.bytes → HasRead (drop count fed) (record ahead { bytes = drop count ahead.bytes }) left
passed fed left ahead count read low = grind (arith, common_steps)

pub no_more : (fed left : List ℕ) (ahead : InFeed) → HasRead fed ahead left → ahead.is_all ≡ true → fed ≡ ahead.bytes
no_more fed left ahead read all = read.is ∙ ap (λ (l : List ℕ). ahead.bytes ++ l) (read.all all) ∙ append-nil ahead.bytes

-- the header of a feed was read whole
pub whole_header : (header fed left bytes : List ℕ) (ahead new : InFeed) (k : ℕ) → length header ≡ 40 → HasRead fed ahead left → (ahead.is_all ≡ true) ⊎ (40 ≤ length ahead.bytes)
    → k ≡ agreeing header bytes → bytes ≡ ahead.bytes → k ≡ 40 → new ≡ record ahead { bytes = drop 40 ahead.bytes }
    → ((next : Taken) → by_header header fed next ≡ next) × HasRead (drop 40 fed) new left
whole_header header fed left bytes ahead new k size read enough is same full passing =
    let agree : agreeing header fed ≡ 40 = all_agree header fed left ahead (omega (arith, size)) read enough ∙ ap (agreeing header) (sym same) ∙ sym is ∙ full in
    let low : 40 ≤ length ahead.bytes = omega (arith, agreeing-low header bytes, ap (λ (l : List ℕ). length l) same, is, full) in
    (header_on header fed agree, subst (λ (a : InFeed). HasRead (drop 40 fed) a left) (sym passing) (passed fed left ahead 40 read low))

-- it was cut
pub cut_header : (header fed left bytes : List ℕ) (ahead : InFeed) (k : ℕ) → length header ≡ 40 → HasRead fed ahead left → (ahead.is_all ≡ true) ⊎ (40 ≤ length ahead.bytes)
    → k ≡ agreeing header bytes → bytes ≡ ahead.bytes → k ≤ 40 → k ≢ 40 → length bytes ≤ k → (next : Taken) → StopsAt Done (by_header header fed next) left
cut_header header fed left bytes ahead k size read enough is same bound other short next =
    grind (arith, common_steps, all_agree, no_more, header_off, nat_tests)

-- a byte of it differs
pub other_header : (header fed left bytes : List ℕ) (ahead : InFeed) (k : ℕ) → length header ≡ 40 → HasRead fed ahead left → (ahead.is_all ≡ true) ⊎ (40 ≤ length ahead.bytes)
    → k ≡ agreeing header bytes → bytes ≡ ahead.bytes → k ≢ 40 → k < length bytes → (next : Taken) → StopsAt (Feed k) (by_header header fed next) left
other_header header fed left bytes ahead k size read enough is same other more next = grind (arith, common_steps, all_agree, header_off, nat_tests)
