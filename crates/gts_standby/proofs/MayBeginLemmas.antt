-- Whether bytes may begin a record, by its first bytes.
use Rattle.gts_standby.proofs.Cited.{◌≡◌, ℕ, ◌^◌, ◌<◌, ◌≤◌, Bool, true, false, cond, List, [], ◌∷◌, ◌++◌, length, take, drop, replicate, Option, Some, None, nat_eq, refl, sym, ap, ◌∙◌, arith, is_some, option_map, codes, append_assoc, take-append-drop, length-drop, length-append, take_at, drop_at, append-nil, take_all, length-take, length-replicate, take-put_mid, put_mid, Accept, An, Bi, Drew, Fx, Kind, LONGEST_BODY, Record, bytes_of, may_begin, number_in, or_else, record_text, starts_with, record_at, letters, number_in-bytes_of, record_at-found, record_at-stands, found_fits, length-or_else, common_steps}
use Rattle.gts_standby.proofs.FedLemmas.{same_found}

-- ---- bytes that are filled up

-- what a draw may have behind its first bytes, and an accepted bulletin without a body
abbrev least : Bool → List ℕ
least b = cond b (codes "D" ++ replicate 22 0) (codes "A" ++ 0 ∷ codes "A" ++ replicate 13 0)

abbrev zeros : List ℕ
zeros = replicate LONGEST_BODY 0

-- they are a head, and what stands behind it
filled_up : (text bytes more : List ℕ) → bytes ++ drop (length bytes) text ++ more ≡ or_else text bytes ++ (drop (length text) bytes ++ more)
filled_up [] [] more = refl
filled_up [] (x ∷ bytes) more = ap (λ (l : List ℕ). l ++ more) (append-nil (x ∷ bytes))
filled_up (t ∷ text) [] more = refl
filled_up (t ∷ text) (x ∷ bytes) more = ap (λ (l : List ℕ). x ∷ l) (filled_up text bytes more)

-- what stands behind it
abbrev behind : Bool → List ℕ → List ℕ
behind b bytes = drop (length (least b)) bytes ++ zeros

may_filled : (bytes : List ℕ) (b : Bool) → starts_with nat_eq bytes (codes "D") ≡ b → is_some (record_at (or_else (least b) bytes ++ behind b bytes)) ≡ may_begin bytes
may_filled [] true is = absurd (cc is)
may_filled [] false is = refl
may_filled (x ∷ bytes) b is =
    let all : List ℕ = x ∷ bytes in
    ap (λ (l : List ℕ). is_some (record_at l)) (sym (filled_up (least b) all zeros)) ∙ ap (λ (c : Bool). is_some (record_at (all ++ drop (length all) (least c) ++ zeros))) (sym is)

pub some_found : {A B : Type 0} (f : A → B) (found : Option A) → is_some found ≡ is_some (option_map f found)
some_found f None = refl
some_found f (Some x) = refl

-- ---- a draw

draw_size : (bytes : List ℕ) (q : Record) → starts_with nat_eq bytes (codes "D") ≡ true → record_at bytes ≡ Some q → length (record_text q) ≡ 23
draw_size bytes (Drew circuit position index) first found = refl
draw_size bytes (Accept from kind position body) first found = grind (arith, common_steps, record_at-stands, found)

pub draw_may : (bytes : List ℕ) → starts_with nat_eq bytes (codes "D") ≡ true → is_some (record_at (or_else (least true) bytes)) ≡ may_begin bytes
draw_may [] first = absurd (cc first)
draw_may (x ∷ bytes) first =
    let head : List ℕ = or_else (least true) (x ∷ bytes) in
    sym (same_found head (behind true (x ∷ bytes)) (λ q found. omega (arith, draw_size (head ++ behind true (x ∷ bytes)) q first found, length-or_else (least true) (x ∷ bytes)))) ∙ may_filled (x ∷ bytes) true first

-- ---- an accepted bulletin

-- what stands in front of the size of its body
abbrev first : ℕ → Kind → ℕ → List ℕ
first from kind position = codes "A" ++ from ∷ take 1 (letters kind) ++ 0 ∷ bytes_of 8 position

split : (from : ℕ) (kind : Kind) (position : ℕ) (body more : List ℕ) → record_text (Accept from kind position body) ++ more ≡ first from kind position ++ (bytes_of 4 (length body) ++ (body ++ more))
split from An position body more = refl
split from _ position body more = refl

length-first : (from : ℕ) (kind : Kind) (position : ℕ) → length (first from kind position) ≡ 12
length-first from An position = refl
length-first from _ position = refl

record IsFirst (front : List ℕ) : Type 0 where
  from : ℕ
  kind : Kind
  position : ℕ
  fits : position < 256 ^ 8
  is : front ≡ first from kind position

-- a body of so many bytes may stand behind it
gives : (front : List ℕ) (k : ℕ) (rest : List ℕ) → IsFirst front → k ≤ LONGEST_BODY → k ≤ length rest → is_some (record_at (front ++ (bytes_of 4 k ++ rest))) ≡ true
gives front k rest h short there =
    let body : List ℕ = take k rest in
    let size : k ≡ length body = omega (arith, length-take k rest, there) in
    let r : Record = Accept h.from h.kind h.position body in
    ap (λ (o : Option Record). is_some o) (record_at-found r (front ++ (bytes_of 4 k ++ rest)) (h.fits, omega (arith, size, short)) (
      drop k rest,
      ap (λ (l : List ℕ). l ++ (bytes_of 4 k ++ rest)) h.is
          ∙ ap (λ (n : ℕ). first h.from h.kind h.position ++ (bytes_of 4 n ++ rest)) size
          ∙ ap (λ (l : List ℕ). first h.from h.kind h.position ++ (bytes_of 4 (length body) ++ l)) (sym (take-append-drop k rest))
          ∙ sym (split h.from h.kind h.position body (drop k rest)),
    ))

-- and where a record is found, it is one
found : (front : List ℕ) (k : ℕ) (rest : List ℕ) (r : Record) → length front ≡ 12 → starts_with nat_eq front (codes "D") ≡ false → k < 256 ^ 4 → record_at (front ++ (bytes_of 4 k ++ rest)) ≡ Some r → IsFirst front × (k ≤ LONGEST_BODY)
found [] k rest r long other small is = absurd (omega (arith, long))
found (x ∷ front) k rest (Drew circuit position index) long other small is =
    let stands = (record_at-stands ((x ∷ front) ++ (bytes_of 4 k ++ rest)) (Drew circuit position index) is).0 in
    let no : true ≡ false = ap (λ (l : List ℕ). starts_with nat_eq l (codes "D")) (sym stands.1) ∙ other in absurd (cc no)
found (x ∷ front) k rest (Accept from kind position body) long other small is =
    let r : Record = Accept from kind position body in
    let bytes : List ℕ = (x ∷ front) ++ (bytes_of 4 k ++ rest) in
    let fits = found_fits bytes r is in
    let stands = (record_at-stands bytes r is).0 in
    let behind : List ℕ = bytes_of 4 (length body) ++ (body ++ stands.0) in
    let same : bytes ≡ first from kind position ++ behind = stands.1 ∙ split from kind position body stands.0 in
    let front_is : x ∷ front ≡ first from kind position =
    sym (take_at (x ∷ front) (bytes_of 4 k ++ rest) 12 long) ∙ ap (take 12) same ∙ take_at (first from kind position) behind 12 (length-first from kind position) in
    let behind_is : bytes_of 4 k ++ rest ≡ behind =
    sym (drop_at (x ∷ front) (bytes_of 4 k ++ rest) 12 long) ∙ ap (drop 12) same ∙ drop_at (first from kind position) behind 12 (length-first from kind position) in
    let digits : bytes_of 4 k ≡ bytes_of 4 (length body) = ap (take 4) behind_is in
    let size : k ≡ length body = sym (number_in-bytes_of 4 k small) ∙ ap number_in digits ∙ number_in-bytes_of 4 (length body) (omega (arith, fits.1)) in
    (record { from = from; kind = kind; position = position; fits = fits.0; is = front_is }, omega (arith, size, fits.1))

-- ---- by its head

many : (found : List ℕ) → LONGEST_BODY ≤ length (found ++ zeros)
many found = let all : length zeros ≡ LONGEST_BODY = length-replicate {A = ℕ} LONGEST_BODY 0 in omega (arith, length-append found zeros, all)

-- the size of a head is put to 0
emptied : (head size : List ℕ) → length head ≡ 16 → length size ≡ 4 → put_mid 12 4 head size ≡ take 12 head ++ size
emptied head size long four = grind (arith, common_steps, take_all, length-take, take-put_mid)

-- the head of an accepted bulletin, and that of one without a body
module _ (bytes : List ℕ) (k : ℕ) (other : starts_with nat_eq bytes (codes "D") ≡ false) (small : k < 256 ^ 4) (digits : bytes_of 4 k ≡ take 4 (drop 12 (or_else (least false) bytes))) where
  abbrev head : List ℕ
  head = or_else (least false) bytes

  abbrev front : List ℕ
  front = take 12 head

  long : length front ≡ 12
  long = omega (arith, length-take 12 head, length-or_else (least false) bytes)

  other_front : starts_with nat_eq front (codes "D") ≡ false
  other_front = by_first bytes other
    where
      by_first : (l : List ℕ) → starts_with nat_eq l (codes "D") ≡ false → starts_with nat_eq (take 12 (or_else (least false) l)) (codes "D") ≡ false
      by_first [] is = refl
      by_first (x ∷ l) is = is

  whole : head ++ behind false bytes ≡ front ++ (bytes_of 4 k ++ behind false bytes)
  whole =
      let size : bytes_of 4 k ≡ drop 12 head = digits ∙ take_all 4 (drop 12 head) (omega (arith, length-drop 12 head, length-or_else (least false) bytes)) in
      ap (λ (l : List ℕ). l ++ behind false bytes) (sym (take-append-drop 12 head) ∙ ap (λ (l : List ℕ). front ++ l) (sym size)) ∙ append_assoc front (bytes_of 4 k) (behind false bytes)

  may : is_some (record_at (front ++ (bytes_of 4 k ++ behind false bytes))) ≡ may_begin bytes
  may = ap (λ (l : List ℕ). is_some (record_at l)) (sym whole) ∙ may_filled bytes false other

  there : LONGEST_BODY ≤ length (behind false bytes)
  there = many (drop 16 bytes)

  -- with a size that isn't too great
  pub accept_may : (empty : List ℕ) → k ≤ LONGEST_BODY → empty ≡ put_mid 12 4 head (bytes_of 4 0) → is_some (record_at empty) ≡ may_begin bytes
  accept_may empty short is =
      ap (λ (l : List ℕ). is_some (record_at l)) (is ∙ emptied head (bytes_of 4 0) (length-or_else (least false) bytes) refl)
      ∙ go (record_at (front ++ bytes_of 4 0)) refl (record_at (front ++ (bytes_of 4 k ++ behind false bytes))) refl ∙ may
    where
      go : (o : Option Record) → record_at (front ++ bytes_of 4 0) ≡ o → (u : Option Record) → record_at (front ++ (bytes_of 4 k ++ behind false bytes)) ≡ u → is_some o ≡ is_some u
      go None none None e = refl
      go (Some r) is (Some q) e = refl
      go (Some r) is None none =
          let no : false ≡ true = sym (ap (λ (o : Option Record). is_some o) none) ∙ gives front k (behind false bytes) (found front 0 [] r long other_front (omega arith) is).0 short (omega (arith, short, there)) in absurd (cc no)
      go None none (Some q) is =
          let no : false ≡ true = sym (ap (λ (o : Option Record). is_some o) none) ∙ gives front 0 [] (found front k (behind false bytes) q long other_front small is).0 (omega arith) (omega arith) in absurd (cc no)

  -- with one that is
  pub accept_long : LONGEST_BODY < k → false ≡ may_begin bytes
  accept_long great = go (record_at (front ++ (bytes_of 4 k ++ behind false bytes))) refl ∙ may
    where
      go : (u : Option Record) → record_at (front ++ (bytes_of 4 k ++ behind false bytes)) ≡ u → false ≡ is_some u
      go None is = refl
      go (Some q) is = absurd (omega (arith, great, (found front k (behind false bytes) q long other_front small is).1))
