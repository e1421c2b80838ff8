-- What a file is read as, and the grammar of files.
use Rattle.gts_accum.proofs.Cited.{◌≡◌, ℕ, ◌+◌, ◌-◌, ◌<◌, ◌≤◌, List, [], ◌∷◌, ◌++◌, length, take, replicate, inl, inr, refl, sym, ap, subst, ◌∙◌, append_assoc, arith, flat_map, append-nil, length-append, length-replicate, take_at, take-append-add, Begins, ENTRY_HEAD, Entry, Format, IsEntry, IsFile, IsHead, IsHeadFront, IsSize, entry_text, format_in, head_text, size_in, same_parts, common_steps}
use Rattle.gts_accum.proofs.WrittenLemmas.{given-head, length-head, size-head, format-head}

-- ---- heads and entries in front

-- two heads in front are the same
pub record AreAlike (f g : Format) (s t : ℕ) (x y : List ℕ) : Type 0 where
  pub format : f ≡ g
  pub size : s ≡ t
  pub rest : x ≡ y

pub same_head : (f g : Format) (s t : ℕ) (x y : List ℕ) → IsHead f s → IsHead g t → head_text f s ++ x ≡ head_text g t ++ y → AreAlike f g s t x y
same_head f g s t x y one other e =
    let both = same_parts (head_text f s) (head_text g t) x y (length-head f s ∙ sym (length-head g t)) e in
    record {
      format = sym (format-head f s) ∙ ap format_in both.0 ∙ format-head g t;
      size = sym (size-head f s (given-head f s one)) ∙ ap size_in both.0 ∙ size-head g t (given-head g t other);
      rest = both.1;
    }

pub length-entry : (entry : Entry) → length (entry_text entry) ≡ ENTRY_HEAD + length entry.bytes
length-entry entry = omega (arith, length-append (head_text entry.format (length entry.bytes)) entry.bytes, length-head entry.format (length entry.bytes))

pub regroup : (k b l e u : List ℕ) → ((k ++ b) ++ l) ++ e ++ u ≡ k ++ (b ++ (l ++ e ++ u))
regroup k b l e u = simp append_assoc

-- a file that an entry begins
pub record Uncons (most : ℕ) (e : Entry) (x : List ℕ) (entries : List Entry) : Type 0 where
  pub rest : List Entry
  pub are : entries ≡ e ∷ rest
  pub file : IsFile (most - length (entry_text e)) x rest

same_entry : (e f : Entry) → e.format ≡ f.format → e.bytes ≡ f.bytes → e ≡ f
same_entry e f a b = ap (λ (x : Format). record { format = x; bytes = e.bytes }) a ∙ ap (λ (xs : List ℕ). record { format = f.format; bytes = xs }) b

pub uncons : (most : ℕ) (e : Entry) (x : List ℕ) (entries : List Entry) → IsEntry e → IsFile most (entry_text e ++ x) entries → Uncons most e x entries
uncons most e x [] is file = grind (arith, common_steps, length-append, length-entry, same_head)
uncons most e x (f ∷ rest) is file = grind (arith, common_steps, regroup, same_head, same_parts, same_entry, length-append)

-- an entry in front of a file
pub cons : (most : ℕ) (e : Entry) (x : List ℕ) (rest : List Entry) → IsEntry e → length (entry_text e) ≤ most
    → IsFile (most - length (entry_text e)) x rest → IsFile most (entry_text e ++ x) (e ∷ rest)
cons most e x rest is room file = grind (arith, common_steps, regroup, length-append)

pub begins-cons : (e : Entry) (x : List ℕ) → IsEntry e → Begins x → Begins (entry_text e ++ x)
begins-cons e x is (more, entries, most, file) =
    let n : ℕ = length (entry_text e) in
    let P : ℕ → Type 0 = λ m. IsFile m (x ++ more) entries in
    let Q : List ℕ → Type 0 = λ l. IsFile (most + n) l (e ∷ entries) in (
      more,
      e ∷ entries,
      most + n,
      subst Q (sym (append_assoc (entry_text e) x more)) (cons (most + n) e (x ++ more) entries is (omega arith) (subst P (let s : most ≡ most + n - n = omega arith in s) file)),
    )

pub begins-uncons : (e : Entry) (x : List ℕ) → IsEntry e → Begins (entry_text e ++ x) → Begins x
begins-uncons e x is (more, entries, most, file) =
    let Q : List ℕ → Type 0 = λ l. IsFile most l entries in
    let u = uncons most e (x ++ more) entries is (subst Q (append_assoc (entry_text e) x more) file) in
    (more, u.rest, most - length (entry_text e), u.file)

-- ---- heads that begin

pub nothing-begins : Begins []
nothing-begins = ([], [], 0, record { each = tt; end = []; unread = []; ends = inl (refl, refl); text = refl; short = omega arith })

length-filled : (format : Format) (part : List ℕ) (size : ℕ) → length part ≤ size → length (part ++ replicate (size - length part) 0) ≡ size
length-filled format part size few = omega (arith, few, length-append part (replicate (size - length part) 0), length-replicate {A = ℕ} (size - length part) 0)

-- a head, and a part of its entry
pub part-begins : (format : Format) (size : ℕ) (part : List ℕ) → IsSize format size → length part ≤ size → Begins (head_text format size ++ part)
part-begins format size part sized few =
    let fill : List ℕ = replicate (size - length part) 0 in
    let e : Entry = record { format = format; bytes = part ++ fill } in
    let long : length (part ++ fill) ≡ size = length-filled format part size few in
    let P : ℕ → Type 0 = λ n. IsSize format n in
    let text : (head_text format size ++ part) ++ fill ≡ (entry_text e ++ []) ++ [] ++ [] =
    append_assoc (head_text format size) part fill ∙ ap (λ (n : ℕ). head_text format n ++ (part ++ fill)) (sym long) ∙ sym (append-nil (entry_text e)) ∙ sym (append-nil (entry_text e ++ []))
    ∙ sym (append-nil ((entry_text e ++ []) ++ [])) in (
      fill,
      e ∷ [],
      length ((entry_text e ++ []) ++ []),
      record {
        each = (subst P (sym long) sized, tt);
        end = [];
        unread = [];
        ends = inl (refl, refl);
        text = text;
        short = omega arith;
      },
    )

pub front-begins : (bytes : List ℕ) → IsHeadFront bytes → Begins bytes
front-begins bytes (format, size, more, inl none, text) = (
  more,
  [],
  ENTRY_HEAD,
  record {
    each = tt;
    end = head_text format 0;
    unread = [];
    ends = inr (format, refl);
    text = sym text ∙ ap (head_text format) none ∙ sym (append-nil (head_text format 0));
    short = omega (arith, length-head format 0);
  },
)
front-begins bytes (format, size, more, inr sized, text) =
    let b = part-begins format size [] sized (omega arith) in
    let all : head_text format size ++ [] ≡ bytes ++ more = append-nil (head_text format size) ∙ text in
    let file : bytes ++ (more ++ b.0) ≡ (head_text format size ++ []) ++ b.0 =
    sym (append_assoc bytes more b.0) ∙ ap (λ (l : List ℕ). l ++ b.0) (sym all) in
    let P : List ℕ → Type 0 = λ l. IsFile b.2 l b.1 in
    (more ++ b.0, b.1, b.2, subst P (sym file) b.3)

-- what begins a file and is no longer than a head begins one
pub begins-front : (bytes : List ℕ) → 0 < length bytes → length bytes ≤ ENTRY_HEAD → Begins bytes → IsHeadFront bytes
begins-front bytes some few (more, [], most, file) = elim file.ends [
  | inl none ↦ absurd (omega (arith, some, ap length file.text, length-append bytes more, length-append file.end file.unread, ap length none.0, ap length none.1))
  | inr head ↦ in_front bytes more (head_text head.0 0) file.unread head.0 0 (inl refl) refl few (file.text ∙ ap (λ (l : List ℕ). l ++ file.unread) head.1)
]
  where
    in_front : (bytes more head rest : List ℕ) (format : Format) (size : ℕ) → IsHead format size → head ≡ head_text format size
        → length bytes ≤ ENTRY_HEAD → bytes ++ more ≡ head ++ rest → IsHeadFront bytes
    in_front bytes more head rest format size is same few text =
        let n : ℕ = ENTRY_HEAD - length bytes in
        let ten : length head ≡ ENTRY_HEAD = ap length same ∙ length-head format size in
        let sum : ENTRY_HEAD ≡ length bytes + n = omega (arith, few) in
        (format, size, take n more, is, sym same ∙ sym (take_at head rest ENTRY_HEAD ten) ∙ ap (take ENTRY_HEAD) (sym text) ∙ ap (λ (k : ℕ). take k (bytes ++ more)) sum ∙ take-append-add bytes more n)
begins-front bytes some few (more, f ∷ rest, most, file) =
    let h : List ℕ = head_text f.format (length f.bytes) in
    let behind : List ℕ = f.bytes ++ (flat_map entry_text rest ++ file.end ++ file.unread) in
    let text : bytes ++ more ≡ h ++ behind = file.text ∙ regroup h f.bytes (flat_map entry_text rest) file.end file.unread in
    let n : ℕ = ENTRY_HEAD - length bytes in
    let ten : length h ≡ ENTRY_HEAD = length-head f.format (length f.bytes) in
    let sum : ENTRY_HEAD ≡ length bytes + n = omega (arith, few) in
    (f.format, length f.bytes, take n more, inr file.each.0, sym (take_at h behind ENTRY_HEAD ten) ∙ ap (take ENTRY_HEAD) (sym text) ∙ ap (λ (k : ℕ). take k (bytes ++ more)) sum ∙ take-append-add bytes more n)
