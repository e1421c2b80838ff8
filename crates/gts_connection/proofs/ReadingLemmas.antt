-- Any bytes are read as a capture in just one way.
use Rattle.gts_connection.proofs.Cited.{◌≡◌, ℕ, zero, suc, ◌+◌, ◌<◌, ◌≤◌, ◌⊎◌, List, [], ◌∷◌, ◌++◌, length, take, drop, inl, inr, refl, sym, ap, subst, ◌∙◌, arith, AreStepsOf, Bad, CaptureKind, Compact, CompactHead, Directory, Drain, DrainHead, EndHead, EndsInFeed, EndsInHead, Feed, FeedHead, Head, IsEarly, IsHeadFront, IsHeadOf, IsPartialHead, ReadingIn, Reopen, ReopenHead, Restart, RestartHead, Step, Take, TakeHead, Whole, bytes_of_step, dec, flat_map, head_of, head_text, step_text, cases_lt, length-append, length-take-le, take-append-drop, append-nil, append_assoc}
use Rattle.gts_connection.proofs.HeadLemmas.{shorter_front, same_fronts, same_heads, HeadAt, head_or_none, front_or_none}

module _ (kind : CaptureKind) where
  -- ---- how a capture ends, behind its whole steps

  data Ending (d : Directory) (bytes : List ℕ) (extra : List Step) (at : ℕ) : Type 0 where
    AtEnd : (unread : List ℕ) → extra ≡ [] → bytes ≡ head_text EndHead ++ unread → at + length unread ≡ length bytes → Ending d bytes extra at
    AtBad : (front : List ℕ) (byte : ℕ) (unread : List ℕ) → extra ≡ [] → IsPartialHead kind d front → (IsHeadFront kind d (front ++ byte ∷ []) → ⊥)
        → bytes ≡ front ++ byte ∷ unread → at + 1 + length unread ≡ length bytes → Ending d bytes extra at
    InHead : extra ≡ [] → IsPartialHead kind d bytes → at ≡ length bytes → Ending d bytes extra at
    InFeed : (circuit size : ℕ) (piece : List ℕ) → extra ≡ Feed circuit piece ∷ [] → IsHeadOf kind d (FeedHead circuit size) → length piece < size
        → bytes ≡ head_text (FeedHead circuit size) ++ piece → at ≡ length bytes → Ending d bytes extra at

  record Parts (d : Directory) (bytes : List ℕ) (steps : List Step) (at : ℕ) : Type 0 where
    before : List Step
    tail : List ℕ
    extra : List Step
    left : ℕ
    are : AreStepsOf kind d before
    text : bytes ≡ flat_map step_text before ++ tail
    ending : Ending d tail extra left
    steps_are : steps ≡ before ++ extra
    place : at ≡ length (flat_map step_text before) + left

  parts_of : (d : Directory) (bytes : List ℕ) (steps : List Step) (at : ℕ) → ReadingIn kind d bytes steps at → Parts d bytes steps at
  parts_of d bytes steps at (Whole unread are e p) =
      let tail : List ℕ = head_text EndHead ++ unread in
      let left : ℕ = length (head_text EndHead) in
      let text : bytes ≡ flat_map step_text steps ++ tail = e ∙ append_assoc (flat_map step_text steps) (head_text EndHead) unread in
      record {
        before = steps;
        tail = tail;
        extra = [];
        left = left;
        are = are;
        text = text;
        ending = AtEnd unread refl refl (omega (arith, length-append (head_text EndHead) unread));
        steps_are = sym (append-nil steps);
        place = omega (arith, p, ap length text, length-append (flat_map step_text steps) tail, length-append (head_text EndHead) unread);
      }
  parts_of d bytes steps at (Bad front byte unread are part none e p) =
      let tail : List ℕ = front ++ byte ∷ unread in
      let text : bytes ≡ flat_map step_text steps ++ tail = e ∙ append_assoc (flat_map step_text steps) front (byte ∷ unread) in
      record {
        before = steps;
        tail = tail;
        extra = [];
        left = length front;
        are = are;
        text = text;
        ending = AtBad front byte unread refl part none refl (omega (arith, length-append front (byte ∷ unread)));
        steps_are = sym (append-nil steps);
        place = omega (arith, p, ap length text, length-append (flat_map step_text steps) tail, length-append front (byte ∷ unread));
      }
  parts_of d bytes steps at (EndsInHead front are part e p) = record {
    before = steps;
    tail = front;
    extra = [];
    left = length front;
    are = are;
    text = e;
    ending = InHead refl part refl;
    steps_are = sym (append-nil steps);
    place = omega (arith, p, ap length e, length-append (flat_map step_text steps) front);
  }
  parts_of d bytes steps at (EndsInFeed before circuit size piece are valid few s e p) =
      let tail : List ℕ = head_text (FeedHead circuit size) ++ piece in
      let text : bytes ≡ flat_map step_text before ++ tail = e ∙ append_assoc (flat_map step_text before) (head_text (FeedHead circuit size)) piece in
      record {
        before = before;
        tail = tail;
        extra = Feed circuit piece ∷ [];
        left = length tail;
        are = are;
        text = text;
        ending = InFeed circuit size piece refl valid few refl refl;
        steps_are = s;
        place = omega (arith, p, ap length text, length-append (flat_map step_text before) tail);
      }

  reading_of : (d : Directory) (bytes : List ℕ) (steps : List Step) (at : ℕ) → Parts d bytes steps at → ReadingIn kind d bytes steps at
  reading_of d bytes steps at k = go k.ending
    where
      text : List ℕ → List ℕ
      text tail = flat_map step_text k.before ++ tail

      same : k.extra ≡ [] → k.before ≡ steps
      same e = sym (append-nil k.before) ∙ ap (λ (xs : List Step). k.before ++ xs) (sym e) ∙ sym k.steps_are

      go : Ending d k.tail k.extra k.left → ReadingIn kind d bytes steps at
      go (AtEnd unread e t p) =
          Whole unread (subst (AreStepsOf kind d) (same e) k.are)
          (k.text ∙ ap (λ (xs : List ℕ). flat_map step_text k.before ++ xs) t ∙ sym (append_assoc (flat_map step_text k.before) (head_text EndHead) unread)
          ∙ ap (λ (ss : List Step). flat_map step_text ss ++ head_text EndHead ++ unread) (same e))
          (omega (arith, k.place, p, ap length k.text, length-append (flat_map step_text k.before) k.tail))
      go (AtBad front byte unread e part none t p) =
          Bad front byte unread (subst (AreStepsOf kind d) (same e) k.are) part none
          (k.text ∙ ap (λ (xs : List ℕ). flat_map step_text k.before ++ xs) t ∙ sym (append_assoc (flat_map step_text k.before) front (byte ∷ unread))
          ∙ ap (λ (ss : List Step). flat_map step_text ss ++ front ++ byte ∷ unread) (same e))
          (omega (arith, k.place, p, ap length k.text, length-append (flat_map step_text k.before) k.tail))
      go (InHead e part p) =
          EndsInHead k.tail (subst (AreStepsOf kind d) (same e) k.are) part (k.text ∙ ap (λ (ss : List Step). flat_map step_text ss ++ k.tail) (same e))
          (omega (arith, k.place, p, ap length k.text, length-append (flat_map step_text k.before) k.tail))
      go (InFeed circuit size piece e valid few t p) =
          EndsInFeed k.before circuit size piece k.are valid few (k.steps_are ∙ ap (λ (ss : List Step). k.before ++ ss) e)
          (k.text ∙ ap (λ (xs : List ℕ). flat_map step_text k.before ++ xs) t ∙ sym (append_assoc (flat_map step_text k.before) (head_text (FeedHead circuit size)) piece))
          (omega (arith, k.place, p, ap length k.text, length-append (flat_map step_text k.before) k.tail))

  -- ---- each list of bytes has a reading

  partial_of : (d : Directory) (front rest : List ℕ) → IsHeadFront kind d front → (HeadAt kind d (front ++ rest) → ⊥) → IsPartialHead kind d front
  partial_of d front rest f none = go f.0 f.1 f.2 f.3
    where
      go : (h : Head) (more : List ℕ) → IsHeadOf kind d h → head_text h ≡ front ++ more → IsPartialHead kind d front
      go h [] valid e = absurd (none (h, rest, valid, ap (λ (xs : List ℕ). xs ++ rest) (sym (append-nil front) ∙ sym e)))
      go h (next ∷ more) valid e = (h, next, more, valid, e)

  -- no whole head stands at the front: the bytes end in one, or one of them is bad
  ends_badly : (d : Directory) (front rest : List ℕ) → IsHeadFront kind d front → (HeadAt kind d (front ++ rest) → ⊥) → (at : ℕ) × Ending d (front ++ rest) [] at
  ends_badly d front [] f none = (length (front ++ []), InHead refl (subst (IsPartialHead kind d) (sym (append-nil front)) (partial_of d front [] f none)) refl)
  ends_badly d front (byte ∷ rest) f none =
      let whole : front ++ byte ∷ [] ++ rest ≡ front ++ byte ∷ rest = append_assoc front (byte ∷ []) rest in
      elim (front_or_none kind d (front ++ byte ∷ [])) as (λ _. (at : ℕ) × Ending d (front ++ byte ∷ rest) [] at) [
        | inl more ↦ subst (λ (xs : List ℕ). (at : ℕ) × Ending d xs [] at) whole (ends_badly d (front ++ byte ∷ []) rest more (λ h. none (subst (HeadAt kind d) whole h)))
        | inr bad ↦ (length front, AtBad front byte rest refl (partial_of d front (byte ∷ rest) f none) bad refl (omega (arith, length-append front (byte ∷ rest))))
      ]

  more_steps : (d : Directory) (step : Step) (bytes rest : List ℕ) (steps : List Step) (at : ℕ) → IsHeadOf kind d (head_of step) → bytes ≡ step_text step ++ rest → Parts d rest steps at
      → Parts d bytes (step ∷ steps) (length (step_text step) + at)
  more_steps d step bytes rest steps at valid e k = record {
    before = step ∷ k.before;
    tail = k.tail;
    extra = k.extra;
    left = k.left;
    are = (valid, k.are);
    text = e ∙ ap (λ (xs : List ℕ). step_text step ++ xs) k.text ∙ sym (append_assoc (step_text step) (flat_map step_text k.before) k.tail);
    ending = k.ending;
    steps_are = ap (λ (ss : List Step). step ∷ ss) k.steps_are;
    place = omega (arith, k.place, length-append (step_text step) (flat_map step_text k.before));
  }

  last_part : (d : Directory) (bytes : List ℕ) (extra : List Step) (at : ℕ) → Ending d bytes extra at → Parts d bytes extra at
  last_part d bytes extra at e = record { before = []; tail = bytes; extra = extra; left = at; are = tt; text = refl; ending = e; steps_are = refl; place = omega arith }

  abbrev Readable : Directory → List ℕ → Type 0
  Readable d bytes = (steps : List Step) × (at : ℕ) × Parts d bytes steps at

  some_text : (h : Head) → 0 < length (head_text h)
  unfolding dec
  some_text (FeedHead c n) = omega arith
  some_text _ = omega arith

  -- a step without bytes of its own
  read_step : (d : Directory) (n : ℕ) (step : Step) (bytes rest : List ℕ) → length bytes ≤ n → ((more : List ℕ) → length more < n → Readable d more) → IsHeadOf kind d (head_of step) → bytes ≡ step_text step ++ rest → Readable d bytes
  read_step d n step bytes rest few again valid e =
      let more = again rest (omega (arith, ap length e, length-append (step_text step) rest, length-append (head_text (head_of step)) (bytes_of_step step), some_text (head_of step))) in
      (step ∷ more.0, length (step_text step) + more.1, more_steps d step bytes rest more.0 more.1 valid e more.2)

  bare : (h rest bytes : List ℕ) → bytes ≡ h ++ rest → bytes ≡ h ++ [] ++ rest
  bare h rest bytes e = e ∙ ap (λ (xs : List ℕ). xs ++ rest) (sym (append-nil h))

  read_head : (d : Directory) (n : ℕ) (bytes : List ℕ) → length bytes ≤ n → ((rest : List ℕ) → length rest < n → Readable d rest) → (h : Head) (rest : List ℕ) → IsHeadOf kind d h → bytes ≡ head_text h ++ rest → Readable d bytes
  read_head d n bytes few again (FeedHead c size) rest valid e = elim (cases_lt (length rest) size) as (λ _. Readable d bytes) [
    | inl short ↦ (Feed c rest ∷ [], length bytes, last_part d bytes (Feed c rest ∷ []) (length bytes) (InFeed c size rest refl valid short e refl))
    | inr all ↦
        let piece : List ℕ = take size rest in
        let len : length piece ≡ size = length-take-le size rest all in
        read_step d n (Feed c piece) bytes (drop size rest) few again (valid.0, omega (arith, len, valid.1))
        (e ∙ ap (λ (xs : List ℕ). head_text (FeedHead c size) ++ xs) (sym (take-append-drop size rest)) ∙ sym (append_assoc (head_text (FeedHead c size)) piece (drop size rest))
        ∙ ap (λ (k : ℕ). head_text (FeedHead c k) ++ piece ++ drop size rest) (sym len))
  ]
  read_head d n bytes few again (TakeHead c) rest valid e = read_step d n (Take c) bytes rest few again valid (bare (head_text (TakeHead c)) rest bytes e)
  read_head d n bytes few again (ReopenHead c) rest valid e = read_step d n (Reopen c) bytes rest few again valid (bare (head_text (ReopenHead c)) rest bytes e)
  read_head d n bytes few again (DrainHead c) rest valid e = read_step d n (Drain c) bytes rest few again valid (bare (head_text (DrainHead c)) rest bytes e)
  read_head d n bytes few again RestartHead rest valid e = read_step d n Restart bytes rest few again valid (bare (head_text RestartHead) rest bytes e)
  read_head d n bytes few again CompactHead rest valid e = read_step d n Compact bytes rest few again valid (bare (head_text CompactHead) rest bytes e)
  read_head d n bytes few again EndHead rest valid e =
      ([], length (head_text EndHead), last_part d bytes [] (length (head_text EndHead)) (AtEnd rest refl e (omega (arith, ap length e, length-append (head_text EndHead) rest))))

  read_any : (d : Directory) (n : ℕ) (bytes : List ℕ) → length bytes ≤ n → ((rest : List ℕ) → length rest < n → Readable d rest) → Readable d bytes
  read_any d n bytes few again = elim (head_or_none kind d bytes) as (λ _. Readable d bytes) [
    | inl h ↦ read_head d n bytes few again h.0 h.1 h.2 h.3
    | inr none ↦ let e = ends_badly d [] bytes (EndHead, head_text EndHead, tt, refl) none in ([], e.0, last_part d bytes [] e.0 e.1)
  ]

  read_on : (d : Directory) (n : ℕ) (bytes : List ℕ) → length bytes ≤ n → Readable d bytes
  read_on d zero bytes few = read_any d zero bytes few (λ rest lt. absurd (omega arith))
  read_on d (suc n) bytes few = read_any d (suc n) bytes few (λ rest lt. read_on d n rest (omega arith))

  -- any bytes are read as some steps, up to some place
  pub reads : (d : Directory) (bytes : List ℕ) → (steps : List Step) × (at : ℕ) × ReadingIn kind d bytes steps at
  reads d bytes = let r = read_on d (length bytes) bytes (omega arith) in (r.0, r.1, reading_of d bytes r.0 r.1 r.2)

  -- ---- and in one way

  length-more : (x y : List ℕ) (n : ℕ) → [] ≡ x ++ n ∷ y → ⊥
  length-more x y n e = omega (arith, ap length e, length-append x (n ∷ y))

  -- no whole head stands where one was begun and not ended
  not_begun : (d : Directory) (front : List ℕ) (h : Head) (x : List ℕ) → length d.circuits ≤ 100 → IsPartialHead kind d front → IsHeadOf kind d h → head_text h ++ x ≡ front → ⊥
  not_begun d front h x few p valid e =
      let same : head_text p.0 ++ [] ≡ head_text h ++ (x ++ p.1 ∷ p.2) =
      append-nil (head_text p.0) ∙ p.4 ∙ ap (λ (xs : List ℕ). xs ++ p.1 ∷ p.2) (sym e) ∙ append_assoc (head_text h) x (p.1 ∷ p.2) in
      length-more x p.2 p.1 (same_heads kind d p.0 h [] (x ++ p.1 ∷ p.2) few p.3 valid same).1

  -- a longer beginning of a head is none where a byte was bad
  not_longer : (d : Directory) (front : List ℕ) (byte : ℕ) (unread longer rest : List ℕ) → (IsHeadFront kind d (front ++ byte ∷ []) → ⊥) → IsHeadFront kind d longer
      → front ++ byte ∷ unread ≡ longer ++ rest → length front < length longer → ⊥
  not_longer d front byte unread longer rest bad f e lt =
      let s = shorter_front (front ++ byte ∷ []) unread longer rest (append_assoc front (byte ∷ []) unread ∙ e) (omega (arith, length-append front (byte ∷ []))) in
      bad (f.0, s.0 ++ f.1, f.2, f.3 ∙ ap (λ (xs : List ℕ). xs ++ f.1) s.1 ∙ append_assoc (front ++ byte ∷ []) s.0 f.1)

  no_head_before_bad : (d : Directory) (front : List ℕ) (byte : ℕ) (unread : List ℕ) (h : Head) (x : List ℕ) → length d.circuits ≤ 100 → IsPartialHead kind d front
      → (IsHeadFront kind d (front ++ byte ∷ []) → ⊥) → IsHeadOf kind d h → head_text h ++ x ≡ front ++ byte ∷ unread → ⊥
  no_head_before_bad d front byte unread h x few p bad valid e = elim (cases_lt (length front) (length (head_text h))) as (λ _. ⊥) [
    | inl longer ↦ not_longer d front byte unread (head_text h) x bad (h, [], valid, sym (append-nil (head_text h))) (sym e) longer
    | inr within ↦ let s = shorter_front (head_text h) x front (byte ∷ unread) e within in not_begun d front h s.0 few p valid (sym s.1)
  ]

  -- where a whole head stands behind the whole steps, it is the end, or a feed that is cut short
  abbrev LastHead : Head → List ℕ → Type 0
  LastHead h rest = (h ≡ EndHead) ⊎ ((c : ℕ) × (size : ℕ) × (h ≡ FeedHead c size) × (length rest < size))

  last_head : (d : Directory) (tail : List ℕ) (extra : List Step) (left : ℕ) (h : Head) (rest : List ℕ) → length d.circuits ≤ 100 → Ending d tail extra left → IsHeadOf kind d h → tail ≡ head_text h ++ rest → LastHead h rest
  last_head d tail extra left h rest few (AtEnd unread e t p) valid f = inl (same_heads kind d h EndHead rest unread few valid tt (sym f ∙ t)).0
  last_head d tail extra left h rest few (AtBad front byte unread e part bad t p) valid f = absurd (no_head_before_bad d front byte unread h rest few part bad valid (sym f ∙ t))
  last_head d tail extra left h rest few (InHead e part p) valid f = absurd (not_begun d tail h rest few part valid (sym f))
  last_head d tail extra left h rest few (InFeed c size piece e ok short t p) valid f =
      let same = same_heads kind d h (FeedHead c size) rest piece few valid ok (sym f ∙ t) in
      inr (c, size, same.0, let len = ap length same.1 in omega (arith, len, short))

  not_last : (step : Step) (rest : List ℕ) → LastHead (head_of step) (bytes_of_step step ++ rest) → ⊥
  not_last (Feed c bytes) rest (inl e) = cc
  not_last _ rest (inl e) = cc
  not_last (Feed c bytes) rest (inr e) = let same : length bytes ≡ e.1 = let f = e.2 in cc in omega (arith, same, e.3, length-append bytes rest)
  not_last _ rest (inr e) = let f = e.2 in cc

  no_step : (d : Directory) (step : Step) (rest : List ℕ) (extra : List Step) (left : ℕ) → length d.circuits ≤ 100 → IsHeadOf kind d (head_of step) → Ending d (step_text step ++ rest) extra left → ⊥
  no_step d step rest extra left few valid ending =
      not_last step rest (last_head d (step_text step ++ rest) extra left (head_of step) (bytes_of_step step ++ rest) few ending valid (append_assoc (head_text (head_of step)) (bytes_of_step step) rest))

  -- a step is told by its text
  same_bytes_step : (s t : Step) (x y : List ℕ) → head_of s ≡ head_of t → bytes_of_step s ++ x ≡ bytes_of_step t ++ y → (s ≡ t) × (x ≡ y)
  same_bytes_step (Feed c b) (Feed e f) x y h g =
      let circuit : c ≡ e = cc in
      let len : length b ≡ length f = cc in
      let same = same_fronts b x f y g len in
      (ap (λ (n : ℕ). Feed n b) circuit ∙ ap (Feed e) same.0, same.1)
  same_bytes_step (Take c) (Take e) x y h g = let circuit : c ≡ e = cc in (ap Take circuit, g)
  same_bytes_step (Reopen c) (Reopen e) x y h g = let circuit : c ≡ e = cc in (ap Reopen circuit, g)
  same_bytes_step (Drain c) (Drain e) x y h g = let circuit : c ≡ e = cc in (ap Drain circuit, g)
  same_bytes_step Restart Restart x y h g = (refl, g)
  same_bytes_step Compact Compact x y h g = (refl, g)
  same_bytes_step s t x y h g = absurd (cc)

  same_step : (d : Directory) (s t : Step) (x y : List ℕ) → length d.circuits ≤ 100 → IsHeadOf kind d (head_of s) → IsHeadOf kind d (head_of t) → step_text s ++ x ≡ step_text t ++ y → (s ≡ t) × (x ≡ y)
  same_step d s t x y few hs ht e =
      let same = same_heads kind d (head_of s) (head_of t) (bytes_of_step s ++ x) (bytes_of_step t ++ y) few hs ht
      (sym (append_assoc (head_text (head_of s)) (bytes_of_step s) x) ∙ e ∙ append_assoc (head_text (head_of t)) (bytes_of_step t) y) in
      same_bytes_step s t x y same.0 same.1

  same_steps : (d : Directory) (ss ts : List Step) (x y : List ℕ) (es fs : List Step) (m n : ℕ) → length d.circuits ≤ 100 → AreStepsOf kind d ss → AreStepsOf kind d ts → Ending d x es m → Ending d y fs n
      → flat_map step_text ss ++ x ≡ flat_map step_text ts ++ y → (ss ≡ ts) × (x ≡ y)
  same_steps d [] [] x y es fs m n few hs ks ex ey e = (refl, e)
  same_steps d [] (t ∷ ts) x y es fs m n few hs ks ex ey e =
      absurd (no_step d t (flat_map step_text ts ++ y) es m few ks.0 (subst (λ (xs : List ℕ). Ending d xs es m) (e ∙ append_assoc (step_text t) (flat_map step_text ts) y) ex))
  same_steps d (s ∷ ss) [] x y es fs m n few hs ks ex ey e =
      absurd (no_step d s (flat_map step_text ss ++ x) fs n few hs.0 (subst (λ (xs : List ℕ). Ending d xs fs n) (sym e ∙ append_assoc (step_text s) (flat_map step_text ss) x) ey))
  same_steps d (s ∷ ss) (t ∷ ts) x y es fs m n few hs ks ex ey e =
      let one = same_step d s t (flat_map step_text ss ++ x) (flat_map step_text ts ++ y) few hs.0 ks.0
      (sym (append_assoc (step_text s) (flat_map step_text ss) x) ∙ e ∙ append_assoc (step_text t) (flat_map step_text ts) y) in
      let more = same_steps d ss ts x y es fs m n few hs.1 ks.1 ex ey one.1 in
      (ap (λ (z : Step). z ∷ ss) one.0 ∙ ap (λ (zs : List Step). t ∷ zs) more.0, more.1)

  abbrev OneEnding : List Step → List Step → ℕ → ℕ → Type 0
  OneEnding es fs m n = (es ≡ fs) × (m ≡ n)

  turned : (es fs : List Step) (m n : ℕ) → OneEnding es fs m n → OneEnding fs es n m
  turned es fs m n h = (sym h.0, sym h.1)

  same_ending : (d : Directory) (x : List ℕ) (es fs : List Step) (m n : ℕ) → length d.circuits ≤ 100 → Ending d x es m → Ending d x fs n → OneEnding es fs m n
  same_ending d x es fs m n few (AtEnd u e t p) (AtEnd v f w q) =
      let same = same_heads kind d EndHead EndHead u v few tt tt (sym t ∙ w) in (e ∙ sym f, omega (arith, p, q, ap length same.1))
  same_ending d x es fs m n few (AtEnd u e t p) (AtBad front byte v f part bad w q) = absurd (no_head_before_bad d front byte v EndHead u few part bad tt (sym t ∙ w))
  same_ending d x es fs m n few (AtEnd u e t p) (InHead f part q) = absurd (not_begun d x EndHead u few part tt (sym t))
  same_ending d x es fs m n few (AtEnd u e t p) (InFeed c size piece f valid short w q) =
      absurd (let same : EndHead ≡ FeedHead c size = (same_heads kind d EndHead (FeedHead c size) u piece few tt valid (sym t ∙ w)).0 in cc)
  same_ending d x es fs m n few (AtBad front byte u e part bad t p) (AtEnd v f w q) = absurd (no_head_before_bad d front byte u EndHead v few part bad tt (sym w ∙ t))
  same_ending d x es fs m n few (AtBad front byte u e part bad t p) (AtBad front' byte' v f part' bad' w q) =
      let g : front ++ byte ∷ u ≡ front' ++ byte' ∷ v = sym t ∙ w in (
        e ∙ sym f,
        elim (cases_lt (length front) (length front')) as (λ _. m ≡ n) [
          | inl lt ↦ absurd (not_longer d front byte u front' (byte' ∷ v) bad (part'.0, part'.1 ∷ part'.2, part'.3, part'.4) g lt)
          | inr ge ↦ elim (cases_lt (length front') (length front)) as (λ _. m ≡ n) [
            | inl lt ↦ absurd (not_longer d front' byte' v front (byte ∷ u) bad' (part.0, part.1 ∷ part.2, part.3, part.4) (sym g) lt)
            | inr le ↦ omega (arith, p, q, ap length g, length-append front (byte ∷ u), length-append front' (byte' ∷ v))
          ]
        ],
      )
  same_ending d x es fs m n few (AtBad front byte u e part bad t p) (InHead f part' q) =
      absurd (not_longer d front byte u x [] bad (part'.0, part'.1 ∷ part'.2, part'.3, part'.4) (sym t ∙ sym (append-nil x)) (omega (arith, ap length t, length-append front (byte ∷ u))))
  same_ending d x es fs m n few (AtBad front byte u e part bad t p) (InFeed c size piece f valid short w q) =
      absurd (no_head_before_bad d front byte u (FeedHead c size) piece few part bad valid (sym w ∙ t))
  same_ending d x es fs m n few (InHead e part p) (AtEnd v f w q) = absurd (not_begun d x EndHead v few part tt (sym w))
  same_ending d x es fs m n few (InHead e part p) (AtBad front byte u f part' bad t q) =
      absurd (not_longer d front byte u x [] bad (part.0, part.1 ∷ part.2, part.3, part.4) (sym t ∙ sym (append-nil x)) (omega (arith, ap length t, length-append front (byte ∷ u))))
  same_ending d x es fs m n few (InHead e part p) (InHead f part' q) = (e ∙ sym f, p ∙ sym q)
  same_ending d x es fs m n few (InHead e part p) (InFeed c size piece f valid short w q) = absurd (not_begun d x (FeedHead c size) piece few part valid (sym w))
  same_ending d x es fs m n few (InFeed c size piece e valid short t p) (AtEnd v f w q) =
      absurd (let same : EndHead ≡ FeedHead c size = (same_heads kind d EndHead (FeedHead c size) v piece few tt valid (sym w ∙ t)).0 in cc)
  same_ending d x es fs m n few (InFeed c size piece e valid short t p) (AtBad front byte u f part bad w q) =
      absurd (no_head_before_bad d front byte u (FeedHead c size) piece few part bad valid (sym t ∙ w))
  same_ending d x es fs m n few (InFeed c size piece e valid short t p) (InHead f part q) = absurd (not_begun d x (FeedHead c size) piece few part valid (sym t))
  same_ending d x es fs m n few (InFeed c size piece e valid short t p) (InFeed k size' piece' f valid' short' w q) =
      let same = same_heads kind d (FeedHead c size) (FeedHead k size') piece piece' few valid valid' (sym t ∙ w) in
      let circuit : c ≡ k = let g = same.0 in cc in
      (e ∙ ap (λ (i : ℕ). Feed i piece ∷ []) circuit ∙ ap (λ (b : List ℕ). Feed k b ∷ []) same.1 ∙ sym f, p ∙ sym q)

  -- any two readings of the same bytes have the same steps, up to the same place
  pub reads_once : (d : Directory) (bytes : List ℕ) (steps others : List Step) (at place : ℕ) → length d.circuits ≤ 100 → ReadingIn kind d bytes steps at → ReadingIn kind d bytes others place
      → (steps ≡ others) × (at ≡ place)
  reads_once d bytes steps others at place few r s =
      let a = parts_of d bytes steps at r in
      let b = parts_of d bytes others place s in
      let same = same_steps d a.before b.before a.tail b.tail a.extra b.extra a.left b.left few a.are b.are a.ending b.ending (sym a.text ∙ b.text) in
      let end = same_ending d b.tail a.extra b.extra a.left b.left few (subst (λ (xs : List ℕ). Ending d xs a.extra a.left) same.1 a.ending) b.ending in (
        a.steps_are ∙ ap (λ (ss : List Step). ss ++ a.extra) same.0 ∙ ap (λ (ss : List Step). b.before ++ ss) end.0 ∙ sym b.steps_are,
        omega (arith, a.place, b.place, end.1, ap (λ (ss : List Step). length (flat_map step_text ss)) same.0),
      )

  -- where the bytes are bad, or end too early, no capture stands at their front
  pub early_is_none : (d : Directory) (bytes : List ℕ) (steps others : List Step) (at : ℕ) (unread : List ℕ) → length d.circuits ≤ 100
      → (read : ReadingIn kind d bytes steps at) × IsEarly read → AreStepsOf kind d others
      → bytes ≡ flat_map step_text others ++ head_text EndHead ++ unread → ⊥
  early_is_none d bytes steps others at behind few early are_others is = go early.0 early.1
    where
      end : List ℕ
      end = head_text EndHead ++ behind

      ends : Ending d end [] (length (head_text EndHead))
      ends = AtEnd behind refl refl (omega (arith, length-append (head_text EndHead) behind))

      text : bytes ≡ flat_map step_text others ++ end
      text = is ∙ append_assoc (flat_map step_text others) (head_text EndHead) behind

      same : (before : List Step) (tail : List ℕ) (extra : List Step) (left : ℕ) → AreStepsOf kind d before → Ending d tail extra left → bytes ≡ flat_map step_text before ++ tail → tail ≡ end
      same before tail extra left are ending e = (same_steps d before others tail end extra [] left (length (head_text EndHead)) few are are_others ending ends (sym e ∙ text)).1

      go : (read : ReadingIn kind d bytes steps at) → IsEarly read → ⊥
      go (Whole unread are e p) none = none
      go (Bad front byte unread are part bad e p) _ =
          let tail : List ℕ = front ++ byte ∷ unread in
          let ending : Ending d tail [] (length front) = AtBad front byte unread refl part bad refl (omega (arith, length-append front (byte ∷ unread))) in
          no_head_before_bad d front byte unread EndHead behind few part bad tt (sym (same steps tail [] (length front) are ending (e ∙ append_assoc (flat_map step_text steps) front (byte ∷ unread))))
      go (EndsInHead front are part e p) _ = not_begun d front EndHead behind few part tt (sym (same steps front [] (length front) are (InHead refl part refl) e))
      go (EndsInFeed before c size piece are valid short s e p) _ =
          let tail : List ℕ = head_text (FeedHead c size) ++ piece in
          let ending : Ending d tail (Feed c piece ∷ []) (length tail) = InFeed c size piece refl valid short refl refl in
          let found : tail ≡ end = same before tail (Feed c piece ∷ []) (length tail) are ending (e ∙ append_assoc (flat_map step_text before) (head_text (FeedHead c size)) piece) in
          let heads : FeedHead c size ≡ EndHead = (same_heads kind d (FeedHead c size) EndHead piece behind few valid tt found).0 in
          cc
