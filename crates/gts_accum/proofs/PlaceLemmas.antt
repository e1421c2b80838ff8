-- What a file is read as is what the grammar says of it, and so is its bad place.
use Rattle.gts_accum.proofs.Cited.{◌≡◌, ℕ, zero, suc, ◌+◌, ◌-◌, ◌<◌, ◌≤◌, ◌⊎◌, min, Bool, true, false, not, ◌==◌, nat_lt, List, [], ◌∷◌, ◌++◌, length, take, drop, Option, Some, None, inl, inr, refl, sym, ap, subst, ◌∙◌, append_assoc, arith, flat_map, Begins, ENTRY_HEAD, Ends, Entry, Format, IsBadAt, IsEntry, IsFile, IsHead, IsSize, LONGEST_FILE, Reading, bad_in, badplace, begins_head, entry_text, format_in, head_seen, head_text, part_seen, place_of, read_from, reading, reading_from, size_in, with_entry, cases_lt, eq-eqb, eqb-true, ltb-true, not-true, not-false, cases_Bool, ltb-false as less, append-nil, length-append, take_all, length-take, length-drop, take-append-drop, take-take, drop-drop, nil_from_length, take-append-add, common_steps}
use Rattle.gts_accum.proofs.FileLemmas.{first_is, good-whole, step, read-step, step-empty, step-bad, step-short, step-end, step-entry, entry_step, entry_step-cut, entry_step-whole, bad_in-within}
use Rattle.gts_accum.proofs.WrittenLemmas.{given-head, length-head, size-head, format-head, reads-end, reads-entry}
use Rattle.gts_accum.proofs.StreamLemmas.{head-front, front-head}
use Rattle.gts_accum.proofs.GrammarLemmas.{regroup, same_head, uncons, cons, begins-cons, begins-uncons, nothing-begins, part-begins, front-begins, begins-front, length-entry}

-- ---- a file is read as its entries

pub reads-entries : (at : ℕ) (file : List ℕ) (written : List Entry) → at ≤ LONGEST_FILE → IsFile (LONGEST_FILE - at) file written
    → reading_from at file ≡ record { entries = written; ending = Ends }
reads-entries at file [] place f = grind (arith, common_steps, reads-end, length-head)
reads-entries at file (e ∷ rest) place f =
    let size : ℕ = length e.bytes in
    let h : List ℕ = head_text e.format size in
    let later : List ℕ = flat_map entry_text rest in
    let behind : List ℕ = later ++ f.end ++ f.unread in
    let all : length ((entry_text e ++ later) ++ f.end) ≡ ENTRY_HEAD + size + length (later ++ f.end) =
    omega (arith, ap length (append_assoc (entry_text e) later f.end), length-append (entry_text e) (later ++ f.end), length-entry e) in
    let room : at + ENTRY_HEAD + size ≤ LONGEST_FILE = omega (arith, all, f.short, place, f.each.0.least) in
    let next : IsFile (LONGEST_FILE - (at + ENTRY_HEAD + size)) behind rest = record {
      each = f.each.1;
      end = f.end;
      unread = f.unread;
      ends = f.ends;
      text = refl;
      short = omega (arith, all, f.short, place, f.each.0.least);
    } in
    ap (reading_from at) (f.text ∙ regroup h e.bytes later f.end f.unread)
    ∙ reads-entry at e.format e.bytes behind f.each.0 room
    ∙ ap (with_entry e.format e.bytes) (reads-entries (at + ENTRY_HEAD + size) behind rest room next)

-- ---- the first byte that no head has there

-- what begins a head that is there
some-begins : (bytes : List ℕ) → (0 < length bytes → begins_head bytes ≡ true) → Begins bytes
some-begins [] head = nothing-begins
some-begins (b ∷ bytes) head = front-begins (b ∷ bytes) (head-front (b ∷ bytes) (head (omega arith)))

-- what begins no head begins no file
none-begins : (bytes : List ℕ) → 0 < length bytes → length bytes ≤ ENTRY_HEAD → begins_head bytes ≡ false → Begins bytes → ⊥
none-begins bytes some few other begins = let is : begins_head bytes ≡ true = front-head bytes (begins-front bytes some few begins) in cc

front-of-begins : (n : ℕ) (x : List ℕ) → Begins x → Begins (take n x)
front-of-begins n x (more, entries, most, file) =
    let text : x ++ more ≡ take n x ++ (drop n x ++ more) = ap (λ (l : List ℕ). l ++ more) (sym (take-append-drop n x)) ∙ append_assoc (take n x) (drop n x) more in
    let P : List ℕ → Type 0 = λ l. IsFile most l entries in
    (drop n x ++ more, entries, most, subst P text file)

-- a file begins with each of its fronts
file-begins : (most n : ℕ) (file : List ℕ) (entries : List Entry) → IsFile most file entries → Begins (take n file)
file-begins most n file entries f =
    let P : List ℕ → Type 0 = λ l. IsFile most l entries in (drop n file, entries, most, subst P (sym (take-append-drop n file)) f)

bad-byte : (most : ℕ) (bytes : List ℕ) (k : ℕ) → bad_in (take (min ENTRY_HEAD most) bytes) ≡ Some k → (1 ≤ k) × IsBadAt most bytes (k - 1)
bad-byte most bytes k found =
    let limit : ℕ = min ENTRY_HEAD most in
    let head : List ℕ = take limit bytes in
    let p : ℕ → Bool = λ n. not (begins_head (take n head)) in
    let range = bad_in-within head k found in
    let first = first_is p 1 (length head) k found in
    let few = length-take limit bytes in
    let front : (n : ℕ) → n ≤ k → take n head ≡ take n bytes = λ n small. take-take n limit bytes (omega (arith, small, range.1, few)) in
    let long : (n : ℕ) → n ≤ k → length (take n bytes) ≡ n = λ n small. omega (arith, length-take n bytes, small, range.1, few) in
    let not_here : begins_head (take k bytes) ≡ false =
    ap begins_head (sym (front k (omega arith))) ∙ not-true (begins_head (take k head)) first.passes in
    let byte : Begins (take k bytes) → ⊥ = none-begins (take k bytes) (omega (arith, long k (omega arith), range.0)) (omega (arith, long k (omega arith), range.1, few)) not_here in
    let P : ℕ → Type 0 = λ n. Begins (take n bytes) in (
      range.0,
      record {
        within = omega (arith, range, few);
        allowed = omega (arith, range, few);
        before = some-begins (take (k - 1) bytes) (λ some.
            ap begins_head (sym (front (k - 1) (omega arith)))
            ∙ not-false (begins_head (take (k - 1) head)) (first.first (k - 1) (omega (arith, some, long (k - 1) (omega arith))) (omega (arith, range.0))));
        no_file = λ entries f. byte (file-begins most k bytes entries f);
        byte = λ inside allowed begins. byte (subst P (let e : k - 1 + 1 ≡ k = omega (arith, range.0) in e) begins);
      },
    )

-- ---- bytes that end, or may not go on, inside a head

-- a file with bytes has a whole head
head-least : (most : ℕ) (bytes : List ℕ) (entries : List Entry) → IsFile most bytes entries → 0 < length bytes
    → (ENTRY_HEAD ≤ length bytes) × (ENTRY_HEAD ≤ most)
head-least most bytes [] f some = grind (arith, common_steps, length-append, length-head)
head-least most bytes (e ∷ rest) f some = grind (arith, common_steps, length-append, length-entry)

cut-head : (most : ℕ) (bytes : List ℕ) → let head = take (min ENTRY_HEAD most) bytes in
    0 < length bytes → bad_in head ≡ None → length head < ENTRY_HEAD → IsBadAt most bytes (length head)
cut-head most bytes some good short =
    let limit : ℕ = min ENTRY_HEAD most in
    let head : List ℕ = take limit bytes in
    let few = length-take limit bytes in
    let front : take (length head) bytes ≡ head = sym (take-take (length head) limit bytes (omega (arith, few))) ∙ take_all (length head) head (omega arith) in
    let P : List ℕ → Type 0 = Begins in
    record {
      within = omega (arith, few);
      allowed = omega (arith, few);
      before = subst P (sym front) (some-begins head (λ any. good-whole head good any));
      no_file = λ entries f. let least = head-least most bytes entries f some in omega (arith, least, few, short);
      byte = λ inside allowed begins. omega (arith, inside, allowed, few, short);
    }

-- ---- a whole head

-- the head of a format and a size
record IsHeadOf (w : List ℕ) (format : Format) (size : ℕ) : Type 0 where
  is : IsHead format size
  text : w ≡ head_text format size

head-is : (w : List ℕ) → length w ≡ ENTRY_HEAD → bad_in w ≡ None → IsHeadOf w (format_in w) (size_in w)
head-is w ten good = go (head-front w (good-whole w good (omega (arith, ten))))
  where
    go : (format : Format) × (size : ℕ) × (more : List ℕ) × IsHead format size × (head_text format size ≡ w ++ more) → IsHeadOf w (format_in w) (size_in w)
    go (format, size, more, is, text) =
        let none : more ≡ [] = nil_from_length more (omega (arith, ap length text, length-append w more, length-head format size, ten)) in
        let whole : w ≡ head_text format size = sym (append-nil w) ∙ ap (λ (l : List ℕ). w ++ l) (sym none) ∙ sym text in
        let same_size : size_in w ≡ size = ap size_in whole ∙ size-head format size (given-head format size is) in
        let same_format : format_in w ≡ format = ap format_in whole ∙ format-head format size in
        let P : Format → Type 0 = λ f. IsHeadOf w f (size_in w) in
        let Q : ℕ → Type 0 = λ n. IsHeadOf w format n in
        subst P (sym same_format) (subst Q (sym same_size) (record { is = is; text = whole }))

sized : (format : Format) (size : ℕ) → IsHead format size → (size ≡ 0 → ⊥) → IsSize format size
sized format size (inl none) some = absurd (some none)
sized format size (inr is) some = is

-- with a head of length 0 a file ends
ended : (most : ℕ) (bytes : List ℕ) (format : Format) → ENTRY_HEAD ≤ most → take ENTRY_HEAD bytes ≡ head_text format 0 → IsFile most bytes []
ended most bytes format room head = record {
  each = tt;
  end = head_text format 0;
  unread = drop ENTRY_HEAD bytes;
  ends = inr (format, refl);
  text = sym (take-append-drop ENTRY_HEAD bytes) ∙ ap (λ (l : List ℕ). l ++ drop ENTRY_HEAD bytes) head;
  short = omega (arith, room, length-head format 0);
}

-- ---- bytes that end, or may not go on, inside an entry

entry-least : (most : ℕ) (h rest : List ℕ) (format : Format) (size : ℕ) (entries : List Entry) → IsSize format size → h ≡ head_text format size
    → IsFile most (h ++ rest) entries → (size ≤ length rest) × (ENTRY_HEAD + size ≤ most)
entry-least most h rest format size [] is same f = grind (arith, common_steps, length-append, length-head, same_head)
entry-least most h rest format size (e ∷ more) is same f = grind (arith, common_steps, regroup, same_head, length-append, length-entry)

cut-entry : (most : ℕ) (bytes : List ℕ) (format : Format) (size : ℕ) → ENTRY_HEAD ≤ most → ENTRY_HEAD ≤ length bytes → IsSize format size
    → take ENTRY_HEAD bytes ≡ head_text format size
    → let part = take (min size (most - ENTRY_HEAD)) (drop ENTRY_HEAD bytes) in
    length part < size → IsBadAt most bytes (ENTRY_HEAD + length part)
cut-entry most bytes format size room long is head short =
    let rest : List ℕ = drop ENTRY_HEAD bytes in
    let limit : ℕ = min size (most - ENTRY_HEAD) in
    let part : List ℕ = take limit rest in
    let few = length-take limit rest in
    let left = length-drop ENTRY_HEAD bytes in
    let h : List ℕ = take ENTRY_HEAD bytes in
    let whole : h ++ rest ≡ bytes = take-append-drop ENTRY_HEAD bytes in
    let ten : ENTRY_HEAD + length part ≡ length h + length part = omega (arith, ap length head, length-head format size) in
    let front : take (ENTRY_HEAD + length part) bytes ≡ head_text format size ++ part =
    ap (λ (l : List ℕ). take (ENTRY_HEAD + length part) l) (sym whole) ∙ ap (λ (n : ℕ). take n (h ++ rest)) ten ∙ take-append-add h rest (length part)
    ∙ ap (λ (l : List ℕ). h ++ l) (sym (take-take (length part) limit rest (omega (arith, few))) ∙ take_all (length part) part (omega arith)) ∙ ap (λ (l : List ℕ). l ++ part) head in
    record {
      within = omega (arith, few, left, long);
      allowed = omega (arith, few, room);
      before = subst Begins (sym front) (part-begins format size part is (omega (arith, short)));
      no_file = λ entries f.
          let P : List ℕ → Type 0 = λ l. IsFile most l entries in
          let least = entry-least most h rest format size entries is head (subst P (sym whole) f) in omega (arith, least, few, short);
      byte = λ inside allowed begins. omega (arith, inside, allowed, few, left, short);
    }

-- ---- behind an entry

bad-behind : (most : ℕ) (e : Entry) (x : List ℕ) (k : ℕ) → IsEntry e → length (entry_text e) ≤ most
    → IsBadAt (most - length (entry_text e)) x k → IsBadAt most (entry_text e ++ x) (length (entry_text e) + k)
bad-behind most e x k is room bad =
    let n : ℕ = length (entry_text e) in
    let text : List ℕ = entry_text e in
    record {
      within = omega (arith, bad.within, length-append text x);
      allowed = omega (arith, bad.allowed, room);
      before = subst Begins (sym (take-append-add text x k)) (begins-cons e (take k x) is bad.before);
      no_file = λ entries f. let u = uncons most e x entries is f in bad.no_file u.rest u.file;
      byte = λ inside allowed begins.
          let sum : n + k + 1 ≡ n + (k + 1) = omega arith in
          let front : take (n + k + 1) (text ++ x) ≡ text ++ take (k + 1) x = ap (λ (m : ℕ). take m (text ++ x)) sum ∙ take-append-add text x (k + 1) in
          bad.byte (omega (arith, inside, length-append text x)) (omega (arith, allowed, room)) (begins-uncons e (take (k + 1) x) is (subst Begins front begins));
    }

-- ---- what is read

abbrev pub Claim : ℕ → List ℕ → Reading → Type 0
Claim at bytes r =
    ((place_of r.ending ≡ None) × IsFile (LONGEST_FILE - at) bytes r.entries)
    ⊎ ((k : ℕ) × (place_of r.ending ≡ Some (at + k)) × IsBadAt (LONGEST_FILE - at) bytes k)

empty-file : (most : ℕ) → IsFile most [] []
empty-file most = record { each = tt; end = []; unread = []; ends = inl (refl, refl); text = refl; short = omega arith }

pub maybe : (r : Option ℕ) → ((k : ℕ) × (r ≡ Some k)) ⊎ (r ≡ None)
maybe None = inr refl
maybe (Some k) = inl (k, refl)

-- behind a whole head
at-entry : (at : ℕ) (bytes part : List ℕ) (format : Format) (size : ℕ) (more : Reading) → at + ENTRY_HEAD ≤ LONGEST_FILE → ENTRY_HEAD ≤ length bytes
    → IsSize format size → take ENTRY_HEAD bytes ≡ head_text format size → part ≡ part_seen (at + ENTRY_HEAD) size (drop ENTRY_HEAD bytes)
    → (at + ENTRY_HEAD + size ≤ LONGEST_FILE → Claim (at + ENTRY_HEAD + size) (drop (ENTRY_HEAD + size) bytes) more)
    → Claim at bytes (entry_step format size (at + ENTRY_HEAD) part more)
at-entry at bytes part format size more room long is head same later =
    let most : ℕ = LONGEST_FILE - at in
    let rest : List ℕ = drop ENTRY_HEAD bytes in
    let limit : min size (LONGEST_FILE - (at + ENTRY_HEAD)) ≡ min size (most - ENTRY_HEAD) = omega (arith, room) in
    let few = length-take (min size (most - ENTRY_HEAD)) rest in
    let seen : part ≡ take (min size (most - ENTRY_HEAD)) rest = same ∙ ap (λ (n : ℕ). take n rest) limit in
    let C : Reading → Type 0 = Claim at bytes in
    elim (cases_Bool (nat_lt (length part) size)) [
      | inl short ↦
          let B : List ℕ → Type 0 = λ p. length p < size → IsBadAt most bytes (ENTRY_HEAD + length p) in
          let bad : IsBadAt most bytes (ENTRY_HEAD + length part) = subst B (sym seen) (cut-entry most bytes format size (omega (arith, room)) long is head) (ltb-true (length part) size short) in
          subst C (sym (entry_step-cut format size (at + ENTRY_HEAD) part more short))
          (inr (ENTRY_HEAD + length part, ap (λ (n : ℕ). Some n) (let e : at + ENTRY_HEAD + length part ≡ at + (ENTRY_HEAD + length part) = omega arith in e), bad))
      | inr whole ↦
          let full : length part ≡ size = omega (arith, less (length part) size whole, ap length seen, few) in
          let e : Entry = record { format = format; bytes = part } in
          let S : ℕ → Type 0 = λ n. IsSize format n in
          let entry : IsEntry e = subst S (sym full) is in
          let n : length (entry_text e) ≡ ENTRY_HEAD + size = omega (arith, length-entry e, full) in
          let x : List ℕ = drop (ENTRY_HEAD + size) bytes in
          let inside : at + ENTRY_HEAD + size ≤ LONGEST_FILE = omega (arith, full, ap length seen, few, room) in
          let left : LONGEST_FILE - (at + ENTRY_HEAD + size) ≡ most - length (entry_text e) = omega (arith, n, inside) in
          let filled : min size (most - ENTRY_HEAD) ≡ size = omega (arith, full, ap length seen, few) in
          let behind : part ++ x ≡ rest =
          ap (λ (l : List ℕ). l ++ x) (seen ∙ ap (λ (k : ℕ). take k rest) filled) ∙ ap (λ (l : List ℕ). take size rest ++ l) (sym (drop-drop size ENTRY_HEAD bytes)) ∙ take-append-drop size rest in
          let text : entry_text e ++ x ≡ bytes =
          append_assoc (head_text format (length part)) part x ∙ ap (λ (k : ℕ). head_text format k ++ (part ++ x)) full
          ∙ ap (λ (l : List ℕ). head_text format size ++ l) behind ∙ ap (λ (l : List ℕ). l ++ rest) (sym head) ∙ take-append-drop ENTRY_HEAD bytes in
          subst C (sym (entry_step-whole format size (at + ENTRY_HEAD) part more whole)) (elim (later inside) [
            | inl good ↦
                let P : ℕ → Type 0 = λ m. IsFile m x more.entries in
                let Q : List ℕ → Type 0 = λ l. IsFile most l (e ∷ more.entries) in
                inl (good.0, subst Q text (cons most e x more.entries entry (omega (arith, n, inside)) (subst P left good.1)))
            | inr bad ↦
                let P : ℕ → Type 0 = λ m. IsBadAt m x bad.0 in
                let Q : List ℕ → Type 0 = λ l. IsBadAt most l (length (entry_text e) + bad.0) in
                inr (
                  length (entry_text e) + bad.0,
                  bad.1 ∙ ap (λ (k : ℕ). Some k) (let sum : at + ENTRY_HEAD + size + bad.0 ≡ at + (length (entry_text e) + bad.0) = omega (arith, n) in sum),
                  subst Q text (bad-behind most e x bad.0 entry (omega (arith, n, inside)) (subst P left bad.2)),
                )
          ])
    ]

-- one step
at-step : (at : ℕ) (bytes : List ℕ) (more : Reading) → at ≤ LONGEST_FILE
    → (let size = size_in (head_seen at bytes) in 0 < length bytes → at + ENTRY_HEAD + size ≤ LONGEST_FILE
    → Claim (at + ENTRY_HEAD + size) (drop (ENTRY_HEAD + size) bytes) more)
    → Claim at bytes (step at bytes more)
at-step at bytes more place later =
    let most : ℕ = LONGEST_FILE - at in
    let head : List ℕ = head_seen at bytes in
    let size : ℕ = size_in head in
    let few = length-take (min ENTRY_HEAD most) bytes in
    let C : Reading → Type 0 = Claim at bytes in
    elim (cases_Bool (length bytes == 0)) [
      | inl none ↦
          let empty : bytes ≡ [] = nil_from_length bytes (eqb-true (length bytes) 0 none) in
          let P : List ℕ → Type 0 = λ l. IsFile most l [] in
          subst C (sym (step-empty at bytes more none)) (inl (refl, subst P (sym empty) (empty-file most)))
      | inr some ↦
          let any : 0 < length bytes = elim (cases_lt 0 (length bytes)) [ inl here ↦ here | inr over ↦ absurd (let e : (length bytes == 0) ≡ true = eq-eqb (length bytes) 0 (omega (arith, over)) in cc) ] in
          elim (maybe (bad_in head)) [
            | inl bad ↦
                let b = bad-byte most bytes bad.0 bad.1 in
                subst C (sym (step-bad at bytes more bad.0 any bad.1))
                (inr (bad.0 - 1, ap (λ (n : ℕ). Some n) (let e : at + bad.0 - 1 ≡ at + (bad.0 - 1) = omega (arith, b.0) in e), b.1))
            | inr good ↦ elim (cases_Bool (nat_lt (length head) ENTRY_HEAD)) [
              | inl short ↦
                  subst C (sym (step-short at bytes more any good short))
                  (inr (length head, refl, cut-head most bytes any good (ltb-true (length head) ENTRY_HEAD short)))
              | inr long ↦
                  let ten : length head ≡ ENTRY_HEAD = omega (arith, few, less (length head) ENTRY_HEAD long) in
                  let limit : min ENTRY_HEAD most ≡ ENTRY_HEAD = omega (arith, few, ten) in
                  let w = head-is head ten good in
                  let is_head : take ENTRY_HEAD bytes ≡ head_text (format_in head) size = ap (λ (n : ℕ). take n bytes) (sym limit) ∙ w.text in
                  elim (cases_Bool (size == 0)) [
                    | inl none ↦
                        let z : size ≡ 0 = eqb-true size 0 none in
                        subst C (sym (step-end at bytes more any good long none))
                        (inl (refl, ended most bytes (format_in head) (omega (arith, few, ten)) (is_head ∙ ap (λ (n : ℕ). head_text (format_in head) n) z)))
                    | inr other ↦
                        subst C (sym (step-entry at bytes more any good long other))
                        (at-entry at bytes (part_seen (at + ENTRY_HEAD) size (drop ENTRY_HEAD bytes)) (format_in head) size more (omega (arith, few, ten, place)) (omega (arith, few, ten))
                        (sized (format_in head) size w.is (λ z. absurd (let e : (size == 0) ≡ true = eq-eqb size 0 z in cc))) is_head refl (later any))
                  ]
            ]
          ]
    ]

pub claim : (n at : ℕ) (bytes : List ℕ) → length bytes ≤ n → at ≤ LONGEST_FILE → Claim at bytes (read_from n at bytes)
claim zero at bytes few place = grind (arith, common_steps, nil_from_length, empty-file)
claim (suc n) at bytes few place =
    let size : ℕ = size_in (head_seen at bytes) in
    let rest : List ℕ = drop (ENTRY_HEAD + size) bytes in
    let C : Reading → Type 0 = Claim at bytes in
    subst C (sym (read-step n at bytes))
    (at-step at bytes (read_from n (at + ENTRY_HEAD + size) rest) place
    (λ any room. claim n (at + ENTRY_HEAD + size) rest (omega (arith, length-drop (ENTRY_HEAD + size) bytes, few)) room))

-- ---- files

pub good-file : (file : List ℕ) → badplace file ≡ None → IsFile LONGEST_FILE file (reading file).entries
good-file file none = grind (arith, common_steps, claim)

-- a place is the only one
no-later : (most : ℕ) (file : List ℕ) (a b : ℕ) → IsBadAt most file a → IsBadAt most file b → a < b → ⊥
no-later most file a b one other less =
    let front : take (a + 1) (take b file) ≡ take (a + 1) file = take-take (a + 1) b file (omega (arith, less)) in
    one.byte (omega (arith, less, other.within)) (omega (arith, less, other.allowed)) (subst Begins front (front-of-begins (a + 1) (take b file) other.before))

-- what holds of no two numbers, one below the other, holds of one
pub one-number : (P : ℕ → Type 0) → ((a b : ℕ) → P a → P b → a < b → ⊥) → (a b : ℕ) → P a → P b → a ≡ b
one-number P apart a b one other = grind (arith, common_steps, cases_lt, less)

pub bad-file : (file : List ℕ) (at : ℕ) → badplace file ≡ Some at → IsBadAt LONGEST_FILE file at
bad-file file at some = elim (claim (length file) 0 file (omega arith) (omega arith)) [
  | inl good ↦ absurd (let e = good.0 in cc)
  | inr bad ↦
      let same : 0 + bad.0 ≡ at = (let e : Some (0 + bad.0) ≡ Some at = sym bad.1 ∙ some in cc) in
      let P : ℕ → Type 0 = λ n. IsBadAt LONGEST_FILE file n in subst P (let e : bad.0 ≡ at = omega (arith, same) in e) bad.2
]

pub file-bad : (file : List ℕ) (at : ℕ) → IsBadAt LONGEST_FILE file at → badplace file ≡ Some at
file-bad file at is = elim (claim (length file) 0 file (omega arith) (omega arith)) [
  | inl good ↦ absurd (is.no_file (reading file).entries good.1)
  | inr bad ↦ bad.1 ∙ ap (λ (n : ℕ). Some n) (let e : 0 + bad.0 ≡ at = omega (arith, one-number (IsBadAt LONGEST_FILE file) (no-later LONGEST_FILE file) bad.0 at bad.2 is) in e)
]
