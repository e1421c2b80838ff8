-- What stands in front of the parts of a checkpoint.
use Rattle.gts_checkpoint.proofs.Cited.{common_steps, ◌≡◌, ℕ, zero, suc, ◌+◌, ◌*◌, ◌^◌, ◌<◌, ◌≤◌, ◌==◌, Bool, true, cond, nat_eq, List, [], ◌∷◌, ◌++◌, length, take, drop, Some, None, refl, sym, ap, ◌∙◌, arith, false_from_ne_true, append-nil, drop_all, length-drop, length-replicate, length-take, length-take-le, take-append-le, take_all, An, BeginsWith, Bi, Bulletin, CircuitNeed, FitsCircuit, FitsNeed, Fx, IsNoFront, IsNoHead, Kind, LONGEST_BODY, bulletin_by, bulletin_head, bulletin_in, bulletin_text, bytes_of, checkpoint_text, circuit_by, circuit_head, circuit_in, circuit_text, front_by, front_of, head_text, if_there, kind_of, letters, many_in, need_in, number_in, or_else, same_text, starts_with, front_counts, listed_size, zeros, Listed, same_letter, number_in-bytes_of, starts_with-append, bulletin_in-text, length-numbers, same_parts, length-map-range_with_len}
use Rattle.std.proofs.lemmas.List.{append_assoc, length-append, take-append-drop}
use Rattle.gts_checkpoint.specs.Cited.{Need}
use Rattle.gts_checkpoint.specs.declared.heads.Listed.TheVariants as listed

-- ---- what is read stands there

pub same_number : (w m n : ℕ) → m < 256 ^ w → n < 256 ^ w → bytes_of w m ≡ bytes_of w n → m ≡ n
same_number w m n low high same = sym (number_in-bytes_of w m low) ∙ ap number_in same ∙ number_in-bytes_of w n high

letter_stands : (letter : ℕ) (kind : Kind) → kind_of letter ≡ Some kind → take 1 (letters kind) ≡ letter ∷ []
letter_stands letter kind is = same_letter letter kind (letter == 65) (letter == 66) (letter == 70) refl refl refl is

pub front_stands : (text : List ℕ) (circuits accepted bulletins : ℕ) → length text ≡ 20 → take 4 text ≡ 67 ∷ 0 ∷ 0 ∷ 0 ∷ [] → take 4 (drop 4 text) ≡ bytes_of 4 circuits
    → take 8 (drop 4 (drop 4 text)) ≡ bytes_of 8 accepted → take 4 (drop 8 (drop 4 (drop 4 text))) ≡ bytes_of 4 bulletins → text ≡ head_text circuits accepted bulletins
front_stands text circuits accepted bulletins long l c a b = grind (arith, common_steps, take_all, length-drop)

pub bulletin_head_stands : (text : List ℕ) (position from letter size : ℕ) (kind : Kind) → length text ≡ 16 → take 8 text ≡ bytes_of 8 position
    → take 4 (drop 8 text) ≡ from ∷ letter ∷ 0 ∷ 0 ∷ [] → kind_of letter ≡ Some kind → take 4 (drop 4 (drop 8 text)) ≡ bytes_of 4 size → text ≡ bulletin_head position from kind size
bulletin_head_stands text position from letter size kind long p l found s = grind (arith, common_steps, letter_stands, take_all, length-drop)

pub circuit_head_stands : (text : List ℕ) (draws waiting kept : ℕ) → length text ≡ 16 → take 8 text ≡ bytes_of 8 draws → take 4 (drop 8 text) ≡ bytes_of 4 waiting
    → take 4 (drop 4 (drop 8 text)) ≡ bytes_of 4 kept → text ≡ circuit_head draws waiting kept
circuit_head_stands text draws waiting kept long d w k = grind (arith, common_steps, take_all, length-drop)

-- ---- bytes that may end within it

-- as many bytes as it has are all that count
pub or_else_front : (text bytes more : List ℕ) → length text ≤ length bytes → or_else text (bytes ++ more) ≡ or_else text bytes
or_else_front text bytes more long = grind (arith, common_steps, take-append-le)

pub or_else_whole : (text bytes : List ℕ) → length bytes ≡ length text → or_else text bytes ≡ bytes
or_else_whole text bytes long = grind (arith, common_steps, take_all, drop_all, append-nil)

pub length-or_else : (text bytes : List ℕ) → length (or_else text bytes) ≡ length text
length-or_else text bytes = omega (arith, length-append (take (length text) bytes) (drop (length (take (length text) bytes)) text), length-take {A = ℕ}, length-drop {A = ℕ})

length-zeros : length zeros ≡ LONGEST_BODY
unfolding zeros
length-zeros = length-replicate {A = ℕ} LONGEST_BODY 0

-- ---- a text that stands there

pub starts_there : (bytes text : List ℕ) → starts_with nat_eq bytes text ≡ true → BeginsWith bytes text
starts_there bytes text is =
    (drop (length text) bytes, sym (take-append-drop (length text) bytes) ∙ ap (λ (l : List ℕ). l ++ drop (length text) bytes) (sym (same_text text (take (length text) bytes) (sym is))))

there : {A B : Type 0} (text : A → List ℕ) (known : A → B) (bytes : List ℕ) (x : A) → BeginsWith bytes (text x) → if_there text known bytes x ≡ Some (known x)
there text known bytes x begins =
    ap (λ (b : Bool). cond b (Some (known x)) None) (ap (λ (l : List ℕ). starts_with nat_eq l (text x)) begins.1 ∙ starts_with-append (text x) begins.0)

not_there : {A B : Type 0} (text : A → List ℕ) (known : A → B) (bytes : List ℕ) (x : A) → (BeginsWith bytes (text x) → ⊥) → if_there text known bytes x ≡ None
not_there text known bytes x none =
    ap (λ (b : Bool). cond b (Some (known x)) None) (false_from_ne_true (starts_with nat_eq bytes (text x)) (λ is. none (starts_there bytes (text x) is)))

pub head_long : (position from : ℕ) (kind : Kind) (size : ℕ) → length (bulletin_head position from kind size) ≡ 16
head_long position from An size = refl
head_long position from _ size = refl

-- ---- a bulletin's size

pub length-bulletin_text : (b : Bulletin) → length (bulletin_text b) ≡ 16 + length b.body
length-bulletin_text b = grind (arith, common_steps)

pub no_bulletin : (bytes head : List ℕ) (b : Bulletin) → BeginsWith bytes head → length head ≡ 16 → IsNoHead head → length b.body ≤ LONGEST_BODY
    → BeginsWith bytes (bulletin_text b) → ⊥
no_bulletin bytes head b stands long none short begins =
    let text : List ℕ = bulletin_head b.position b.from b.kind (length b.body) in
    let same : head ++ stands.0 ≡ text ++ (b.body ++ begins.0) = sym stands.1 ∙ begins.1 ∙ append_assoc text b.body begins.0 in
    none b.position b.from b.kind (length b.body) short (same_parts head text stands.0 (b.body ++ begins.0) (long ∙ sym (head_long b.position b.from b.kind (length b.body))) same).0

pub bulletin_found : (bytes : List ℕ) (position from : ℕ) (kind : Kind) (size : ℕ) → bulletin_by bytes ≡ bulletin_head position from kind size → position < 256 ^ 8 → size ≤ LONGEST_BODY
    → listed_size listed.Bulletin bytes ≡ Some (16 + size)
unfolding listed_size
bulletin_found bytes position from kind size is low short =
    let b : Bulletin = record { position = position; from = from; kind = kind; body = take size zeros } in
    let rest : List ℕ = drop size zeros in
    let long : length b.body ≡ size = length-take-le size zeros (omega (arith, short, length-zeros)) in
    let text : List ℕ = bulletin_head position from kind (length b.body) in
    let whole : bulletin_by bytes ++ zeros ≡ bulletin_text b ++ rest =
    (λ k. (is ∙ ap (bulletin_head position from kind) (sym long)) k ++ sym (take-append-drop size zeros) k) ∙ sym (append_assoc text b.body rest) in
    let read : bulletin_in (bulletin_by bytes ++ zeros) ≡ b = ap bulletin_in whole ∙ bulletin_in-text b rest (omega (arith, low), omega (arith, long, short)) in
    ap (if_there bulletin_text (λ (x : Bulletin). length (bulletin_text x)) (bulletin_by bytes ++ zeros)) read
    ∙ there bulletin_text (λ (x : Bulletin). length (bulletin_text x)) (bulletin_by bytes ++ zeros) b (rest, whole) ∙ ap (λ (n : ℕ). Some n) (length-bulletin_text b ∙ ap (λ (n : ℕ). 16 + n) long)

pub bulletin_none : (bytes : List ℕ) → IsNoHead (bulletin_by bytes) → listed_size listed.Bulletin bytes ≡ None
unfolding listed_size
bulletin_none bytes none =
    let head : List ℕ = bulletin_by bytes in
    let b : Bulletin = bulletin_in (head ++ zeros) in
    let long : length head ≡ 16 = length-or_else (bulletin_head 0 0 An 0) bytes in
    let short : length b.body ≤ LONGEST_BODY = omega (arith, long, length-zeros, length-append head zeros, length-drop 16 (head ++ zeros), length-take {A = ℕ}) in
    not_there bulletin_text (λ (x : Bulletin). length (bulletin_text x)) (head ++ zeros) b (no_bulletin (head ++ zeros) head b (zeros, refl) long none short)

known_low : (bytes : List ℕ) (b : Bulletin) (size : ℕ) → if_there bulletin_text (λ x. length (bulletin_text x)) bytes b ≡ Some size → 16 ≤ size
known_low bytes b size is = grind (arith, common_steps, length-bulletin_text)

-- ---- a circuit's size

pub length-circuit_text : (c : CircuitNeed) → length (circuit_text c) ≡ 16 + 8 * (length c.waiting + length c.kept)
length-circuit_text c = omega (arith, length-numbers (c.waiting ++ c.kept), length-append c.waiting c.kept)

pub circuit_found : (bytes : List ℕ) (draws waiting kept : ℕ) → circuit_by bytes ≡ circuit_head draws waiting kept → waiting < 256 ^ 4 → kept < 256 ^ 4
    → listed_size listed.Circuit bytes ≡ Some (16 + 8 * (waiting + kept))
unfolding listed_size
circuit_found bytes draws waiting kept is low high =
    let c : CircuitNeed = circuit_in (circuit_by bytes) in
    let w : length c.waiting ≡ waiting = length-map-range_with_len {X = ℕ} _ 0 _ ∙ ap (λ (l : List ℕ). number_in (take 4 (drop 8 l))) is ∙ number_in-bytes_of 4 waiting low in
    let k : length c.kept ≡ kept = length-map-range_with_len {X = ℕ} _ 0 _ ∙ ap (λ (l : List ℕ). number_in (take 4 (drop 12 l))) is ∙ number_in-bytes_of 4 kept high in
    ap (λ (n : ℕ). Some n) (let e : length (circuit_text c) ≡ 16 + 8 * (waiting + kept) = omega (arith, length-circuit_text c, w, k) in e)

-- ---- the counts of a front

length-many_in : {A : Type 0} (one : List ℕ → A) (text : A → List ℕ) (n : ℕ) (bytes : List ℕ) → length (many_in one text n bytes) ≡ n
length-many_in one text zero bytes = refl
length-many_in one text (suc n) bytes = omega (arith, length-many_in one text n (drop (length (text (one bytes))) bytes))

pub front_found : (bytes : List ℕ) (circuits accepted bulletins : ℕ) → front_by bytes ≡ head_text circuits accepted bulletins → circuits < 256 ^ 4 → accepted < 256 ^ 8 → bulletins < 256 ^ 4
    → front_counts bytes ≡ Some (circuits, bulletins)
unfolding front_counts
front_found bytes circuits accepted bulletins is low some high =
    let n : Need = need_in (front_by bytes) in
    let c : length n.circuits ≡ circuits =
    length-many_in circuit_in circuit_text _ _ ∙ ap (λ (l : List ℕ). number_in (take 4 (drop 4 l))) is ∙ number_in-bytes_of 4 circuits low in
    let a : n.accepted ≡ accepted = ap (λ (l : List ℕ). number_in (take 8 (drop 8 l))) is ∙ number_in-bytes_of 8 accepted some in
    let b : length n.bulletins ≡ bulletins =
    length-many_in bulletin_in bulletin_text _ _ ∙ ap (λ (l : List ℕ). number_in (take 4 (drop 16 l))) is ∙ number_in-bytes_of 4 bulletins high in
    there front_of (λ (m : Need). (length m.circuits, length m.bulletins)) (front_by bytes) n
    ([], is ∙ (λ k. head_text (sym c k) (sym a k) (sym b k)) ∙ sym (append-nil (front_of n))) ∙ (λ k. Some (c k, b k))

pub front_none : (bytes : List ℕ) → IsNoFront (front_by bytes) → front_counts bytes ≡ None
unfolding front_counts
front_none bytes none =
    let head : List ℕ = front_by bytes in
    let n : Need = need_in head in
    not_there front_of (λ (m : Need). (length m.circuits, length m.bulletins)) head n (λ begins.
    none (length n.circuits) n.accepted (length n.bulletins) (same_parts head (front_of n) [] begins.0 (length-or_else (head_text 0 0 0) bytes) (append-nil head ∙ begins.1)).0)

-- ---- what these are by their first bytes

-- by as many as these are
pub front_more : (bytes more : List ℕ) → 20 ≤ length bytes → front_counts (bytes ++ more) ≡ front_counts bytes
unfolding front_counts
front_more bytes more long = ap (λ (l : List ℕ). if_there front_of (λ (n : Need). (length n.circuits, length n.bulletins)) l (need_in l)) (or_else_front (head_text 0 0 0) bytes more long)

pub listed_more : (l : Listed) (bytes more : List ℕ) → 16 ≤ length bytes → listed_size l (bytes ++ more) ≡ listed_size l bytes
unfolding listed_size
listed_more listed.Bulletin bytes more long =
    ap (λ (l : List ℕ). if_there bulletin_text (λ (b : Bulletin). length (bulletin_text b)) (l ++ zeros) (bulletin_in (l ++ zeros))) (or_else_front (bulletin_head 0 0 An 0) bytes more long)
listed_more listed.Circuit bytes more long = ap (λ (l : List ℕ). Some (length (circuit_text (circuit_in l)))) (or_else_front (circuit_head 0 0 0) bytes more long)

pub listed_low : (l : Listed) (bytes : List ℕ) (size : ℕ) → listed_size l bytes ≡ Some size → 16 ≤ size
unfolding listed_size
listed_low listed.Bulletin bytes size is = known_low (bulletin_by bytes ++ zeros) (bulletin_in (bulletin_by bytes ++ zeros)) size is
listed_low listed.Circuit bytes size is = let same : length (circuit_text (circuit_in (circuit_by bytes))) ≡ size = cc is in omega (arith, same, length-circuit_text (circuit_in (circuit_by bytes)))

-- where they stand there
pub need_front : (n : Need) (more : List ℕ) → FitsNeed n → front_counts (checkpoint_text n ++ more) ≡ Some (length n.circuits, length n.bulletins)
need_front n more fits = front_found (checkpoint_text n ++ more) (length n.circuits) n.accepted (length n.bulletins) refl fits.few_circuits fits.accepted fits.few_bulletins

pub bulletin_listed : (b : Bulletin) (more : List ℕ) → b.position < 256 ^ 8 → length b.body ≤ LONGEST_BODY → listed_size listed.Bulletin (bulletin_text b ++ more) ≡ Some (length (bulletin_text b))
bulletin_listed b more low short =
    let same : bulletin_by (bulletin_text b ++ more) ≡ bulletin_head b.position b.from b.kind (length b.body) = grind (arith, common_steps, or_else_front, or_else_whole, append_assoc, head_long) in
    bulletin_found (bulletin_text b ++ more) b.position b.from b.kind (length b.body) same low short ∙ ap (λ (n : ℕ). Some n) (sym (length-bulletin_text b))

pub circuit_listed : (c : CircuitNeed) (more : List ℕ) → FitsCircuit c → listed_size listed.Circuit (circuit_text c ++ more) ≡ Some (length (circuit_text c))
circuit_listed c more fits =
    circuit_found (circuit_text c ++ more) c.draws (length c.waiting) (length c.kept) refl fits.1 fits.2 ∙ ap (λ (n : ℕ). Some n) (sym (length-circuit_text c))
