-- A capture begins with what was read of it.
use Rattle.gts_replay.proofs.Cited.{◌≡◌, ℕ, ◌+◌, ◌-◌, ◌<◌, List, [], ◌∷◌, ◌++◌, length, take, drop, inl, inr, refl, sym, ap, subst, ◌∙◌, append_assoc, arith, length-append, AreStepsOf, CaptureKind, Directory, EndHead, FeedGoesOn, FeedHead, GoesOn, Held, IsBadAt, IsHeadOf, IsInFeed, IsPartIn, IsReadTo, IsSameCapture, IsTaken, LONGEST_CAPTURE, ReadingIn, ReadingOf, Step, StopsInHead, Whole, flat_map, head_text, readable, readable_from, step_text, EndsInHead, EndsInFeed, cases_lt, length-take-le, take-append-drop, take_all, flat_map-append, reads, readable-all, common_steps}
use Rattle.gts_connection.specs.Capture.{Feed, head_of, Bad}
use Rattle.gts_replay.specs.Held as stopped
use Rattle.gts_replay.proofs.ProgressLemmas.{are_more, text_more, read_on, feed_on, at_bad}

are_all : (kind : CaptureKind) (d : Directory) (steps more : List Step) → AreStepsOf kind d steps → AreStepsOf kind d more → AreStepsOf kind d (steps ++ more)
are_all kind d [] more are rest = rest
are_all kind d (s ∷ steps) more are rest = (are.0, are_all kind d steps more are.1 rest)

-- so many bytes in front of a text
moved : (steps more : List Step) (bytes left tail : List ℕ) → bytes ≡ flat_map step_text steps ++ left → left ≡ flat_map step_text more ++ tail → bytes ≡ flat_map step_text (steps ++ more) ++ tail
moved steps more bytes left tail e f = grind (arith, common_steps, flat_map-append)

-- steps in front of a reading
before_reading : (kind : CaptureKind) (d : Directory) (bytes left : List ℕ) (steps more : List Step) (at : ℕ) → AreStepsOf kind d steps → bytes ≡ flat_map step_text steps ++ left → ReadingIn kind d left more at
    → ReadingIn kind d bytes (steps ++ more) (length (flat_map step_text steps) + at)
before_reading kind d bytes left steps more at are e (Whole unread rest f place) =
    let tail : List ℕ = head_text EndHead ++ unread in
    let all : bytes ≡ flat_map step_text (steps ++ more) ++ tail = moved steps more bytes left tail e (f ∙ append_assoc (flat_map step_text more) (head_text EndHead) unread) in
    Whole unread (are_all kind d steps more are rest) (all ∙ sym (append_assoc (flat_map step_text (steps ++ more)) (head_text EndHead) unread))
    (omega (arith, place, ap length e, length-append (flat_map step_text steps) left))
before_reading kind d bytes left steps more at are e (Bad front byte unread rest part bad f place) =
    let tail : List ℕ = front ++ byte ∷ unread in
    let all : bytes ≡ flat_map step_text (steps ++ more) ++ tail = moved steps more bytes left tail e (f ∙ append_assoc (flat_map step_text more) front (byte ∷ unread)) in
    Bad front byte unread (are_all kind d steps more are rest) part bad (all ∙ sym (append_assoc (flat_map step_text (steps ++ more)) front (byte ∷ unread)))
    (omega (arith, place, ap length e, length-append (flat_map step_text steps) left))
before_reading kind d bytes left steps more at are e (EndsInHead front rest part f place) =
    EndsInHead front (are_all kind d steps more are rest) part (moved steps more bytes left front e f)
    (omega (arith, place, ap length e, length-append (flat_map step_text steps) left))
before_reading kind d bytes left steps more at are e (EndsInFeed before c size piece rest valid short f g place) =
    let tail : List ℕ = head_text (FeedHead c size) ++ piece in
    let all : bytes ≡ flat_map step_text (steps ++ before) ++ tail = moved steps before bytes left tail e (g ∙ append_assoc (flat_map step_text before) (head_text (FeedHead c size)) piece) in
    EndsInFeed (steps ++ before) c size piece (are_all kind d steps before are rest) valid short
    (ap (λ (xs : List Step). steps ++ xs) f ∙ sym (append_assoc steps before (Feed c piece ∷ [])))
    (all ∙ sym (append_assoc (flat_map step_text (steps ++ before)) (head_text (FeedHead c size)) piece))
    (omega (arith, place, ap length e, length-append (flat_map step_text steps) left))

-- the capture goes on behind the steps that were read
pub head_goes_on : (kind : CaptureKind) (d : Directory) (place : ℕ) (left : List ℕ) → GoesOn kind d place left
head_goes_on kind d place left =
    let rest : List ℕ = readable_from place left in
    let r = reads kind d rest in
    record {
      more = r.0;
      read = λ bytes steps held h is.
          let text : readable bytes ≡ flat_map step_text steps ++ rest =
          read_on kind d bytes left steps held h ∙ ap (λ (n : ℕ). flat_map step_text steps ++ readable_from n left) is in
          (length (flat_map step_text steps) + r.1, before_reading kind d (readable bytes) rest steps r.0 r.1 h.are text r.2);
    }

-- and behind a part of a feed
pub feed_goes_on : (kind : CaptureKind) (d : Directory) (c n place : ℕ) (x left : List ℕ) → FeedGoesOn kind d c n place x left
feed_goes_on kind d c n place x left = elim (cases_lt (length rest) (n - length x)) as (λ _. FeedGoesOn kind d c n place x left) [
  | inl short ↦ record {
    rest = rest;
    more = [];
    read = λ bytes steps held f is.
        let text : readable bytes ≡ flat_map step_text steps ++ (head ++ (x ++ rest)) = all bytes steps held f is in (
          length (readable bytes),
          EndsInFeed steps c n (x ++ rest) f.read.are f.head (omega (arith, length-append x rest, f.most, short)) refl
              (text ∙ sym (append_assoc (flat_map step_text steps) head (x ++ rest))) refl,
        );
  }
  | inr enough ↦
      let y : List ℕ = take (n - length x) rest in
      let behind : List ℕ = drop (n - length x) rest in
      let feed : Step = Feed c (x ++ y) in
      let r = reads kind d behind in
      record {
        rest = y;
        more = r.0;
        read = λ bytes steps held f is.
            let size : length (x ++ y) ≡ n = omega (arith, length-append x y, length-take-le (n - length x) rest enough, f.most) in
            let parts : x ++ rest ≡ x ++ y ++ behind = ap (λ (xs : List ℕ). x ++ xs) (sym (take-append-drop (n - length x) rest)) ∙ sym (append_assoc x y behind) in
            let one : head ++ (x ++ rest) ≡ step_text feed ++ behind =
            ap (λ (xs : List ℕ). head ++ xs) parts ∙ sym (append_assoc head (x ++ y) behind) ∙ ap (λ (k : ℕ). head_text (FeedHead c k) ++ (x ++ y) ++ behind) (sym size) in
            let ok : IsHeadOf kind d (head_of feed) = (f.head.0, omega (arith, size, f.head.1)) in
            let read : readable bytes ≡ flat_map step_text (steps ++ feed ∷ []) ++ behind =
            all bytes steps held f is ∙ ap (λ (xs : List ℕ). flat_map step_text steps ++ xs) one ∙ sym (append_assoc (flat_map step_text steps) (step_text feed) behind)
            ∙ ap (λ (xs : List ℕ). xs ++ behind) (sym (text_more steps feed)) in
            let at : ℕ = length (flat_map step_text (steps ++ feed ∷ [])) + r.1 in (
              at,
              subst (λ (ss : List Step). ReadingOf kind d bytes ss at) (append_assoc steps (feed ∷ []) r.0)
                  (before_reading kind d (readable bytes) behind (steps ++ feed ∷ []) r.0 r.1 (are_more kind d steps feed f.read.are ok) read r.2),
            );
      }
]
  where
    head : List ℕ
    head = head_text (FeedHead c n)

    rest : List ℕ
    rest = readable_from place left

    all : (bytes : List ℕ) (steps : List Step) (held : Held) → IsInFeed kind d bytes steps held c n x left → place ≡ held.at + length (head ++ x)
        → readable bytes ≡ flat_map step_text steps ++ (head ++ (x ++ rest))
    all bytes steps held f is =
        feed_on kind d bytes x left steps held c n f ∙ ap (λ (k : ℕ). flat_map step_text steps ++ (head ++ x ++ readable_from k left)) (sym is)
        ∙ ap (λ (xs : List ℕ). flat_map step_text steps ++ xs) (append_assoc head x rest)

-- what was taken before the source failed in a head
pub taken_head : (kind : CaptureKind) (d : Directory) (bytes before after : List ℕ) (steps : List Step) (old new : Held) → IsReadTo kind d bytes steps old (old.ahead ++ before) → IsSameCapture old new
    → StopsInHead old new before after → IsTaken kind d bytes steps after
taken_head kind d bytes before after steps old new h same stop =
    let front : List ℕ = flat_map step_text steps in
    let taken : List ℕ = front ++ new.ahead in
    let text : bytes ≡ taken ++ after = h.text ∙ ap (λ (xs : List ℕ). front ++ xs) (sym stop.kept) ∙ sym (append_assoc front new.ahead after) in
    let size : length taken ≡ old.at + length new.ahead = omega (arith, h.place, length-append front new.ahead) in
    let rest : readable_from old.at new.ahead ≡ new.ahead = take_all (LONGEST_CAPTURE - old.at) new.ahead (omega (arith, stop.within, stop.place)) in
    let read : IsReadTo kind d taken steps old new.ahead = record { circuits = h.circuits; of_kind = h.of_kind; are = h.are; text = refl; place = h.place; within = h.within } in
    let P : ℕ → Type 0 = λ k. ReadingOf kind d taken steps k in
    let begun : IsPartIn old.circuits old.kind new.ahead =
    subst (λ (p : CaptureKind). IsPartIn old.circuits p new.ahead) same.kind (subst (λ (k : ℕ). IsPartIn k new.kind new.ahead) same.circuits stop.begun) in
    let B : List ℕ → Type 0 = λ xs. IsBadAt old xs (old.at + length new.ahead) in
    let bad = at_bad kind d taken new.ahead steps old (old.at + length new.ahead) read (subst B (sym rest) (stopped.EndsInHead begun refl)) in
    record { taken = taken; text = text; read = subst P (sym size) bad.0 }

-- what was taken before the source failed in a feed
pub taken_feed : (kind : CaptureKind) (d : Directory) (bytes x left : List ℕ) (steps : List Step) (held : Held) (c n : ℕ) → IsInFeed kind d bytes steps held c n x left
    → length x < n → IsTaken kind d bytes (steps ++ Feed c x ∷ []) left
taken_feed kind d bytes x left steps held c n f short =
    let front : List ℕ = flat_map step_text steps in
    let taken : List ℕ = front ++ head_text (FeedHead c n) ++ x in
    let size : length taken ≡ held.at + length (head_text (FeedHead c n) ++ x) =
    ap length (append_assoc front (head_text (FeedHead c n)) x) ∙ length-append front (head_text (FeedHead c n) ++ x) ∙ ap (λ (k : ℕ). k + length (head_text (FeedHead c n) ++ x)) (sym f.read.place) in
    let whole : readable taken ≡ taken = readable-all taken (omega (arith, size, f.within)) in
    record {
      taken = taken;
      text = f.read.text ∙ sym (append_assoc front (head_text (FeedHead c n) ++ x) left)
          ∙ ap (λ (xs : List ℕ). xs ++ left) (sym (append_assoc front (head_text (FeedHead c n)) x));
      read = EndsInFeed steps c n x f.read.are f.head short refl whole (ap length (sym whole));
    }
