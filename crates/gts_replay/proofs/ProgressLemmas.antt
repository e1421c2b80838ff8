-- The steps that were read are those of the capture.
use Rattle.gts_replay.proofs.Cited.{◌≡◌, ℕ, ◌+◌, ◌<◌, ◌≤◌, List, [], ◌∷◌, ◌++◌, length, refl, sym, ap, subst, ◌∙◌, append_assoc, arith, length-append, AreStepsOf, BadByte, CaptureKind, Directory, EndHead, EndsEarlyOf, EndsThere, FeedHead, Held, IsBadAt, IsFrontIn, IsHeadFront, IsHeadIn, IsHeadOf, IsInFeed, IsPartIn, IsPartialHead, IsReadTo, IsSameCapture, IsWholeOf, LONGEST_CAPTURE, ReadingOf, Step, flat_map, head_text, readable, readable_from, step_text, EndsInHead, EndsInFeed, append-nil, readable-behind, common_steps}
use Rattle.gts_connection.specs.Capture.{Feed, Head, head_of, Bad}
use Rattle.gts_replay.specs.Held as stopped

-- ---- heads of a directory

module _ (kind : CaptureKind) (d : Directory) (circuits : ℕ) (k : CaptureKind) (e : circuits ≡ length d.circuits) (f : k ≡ kind) where
  head_in : (h : Head) → IsHeadIn circuits k h → IsHeadOf kind d h
  head_in h w = subst (λ (x : CaptureKind). IsHeadIn (length d.circuits) x h) f (subst (λ (n : ℕ). IsHeadIn n k h) e w)

  in_head : (h : Head) → IsHeadOf kind d h → IsHeadIn circuits k h
  in_head h w = subst (λ (n : ℕ). IsHeadIn n k h) (sym e) (subst (λ (x : CaptureKind). IsHeadIn (length d.circuits) x h) (sym f) w)

  part_of : (bytes : List ℕ) → IsPartIn circuits k bytes → IsPartialHead kind d bytes
  part_of bytes h = (h.0, h.1, h.2, head_in h.0 h.3, h.4)

  front_of : (bytes : List ℕ) → IsHeadFront kind d bytes → IsFrontIn circuits k bytes
  front_of bytes h = (h.0, h.1, in_head h.0 h.2, h.3)

-- ---- one step more

pub are_more : (kind : CaptureKind) (d : Directory) (steps : List Step) (step : Step) → AreStepsOf kind d steps → IsHeadOf kind d (head_of step) → AreStepsOf kind d (steps ++ step ∷ [])
are_more kind d [] step are valid = (valid, tt)
are_more kind d (s ∷ steps) step are valid = (are.0, are_more kind d steps step are.1 valid)

pub text_more : (steps : List Step) (step : Step) → flat_map step_text (steps ++ step ∷ []) ≡ flat_map step_text steps ++ step_text step
text_more [] step = append-nil (step_text step)
text_more (s ∷ steps) step = ap (λ (xs : List ℕ). step_text s ++ xs) (text_more steps step) ∙ sym (append_assoc (step_text s) (flat_map step_text steps) (step_text step))

pub begins : (kind : CaptureKind) (d : Directory) (bytes : List ℕ) (held : Held)
    → held ≡ record { circuits = length d.circuits; kind = kind; ahead = []; at = 0; feed = 0 } → IsReadTo kind d bytes [] held bytes
begins kind d bytes held e = grind (arith, common_steps)

pub one_step : (kind : CaptureKind) (d : Directory) (bytes before after : List ℕ) (steps : List Step) (step : Step) (old new : Held) → IsReadTo kind d bytes steps old before
    → IsHeadIn old.circuits old.kind (head_of step) → before ≡ step_text step ++ after → IsSameCapture old new
    → new.at ≡ old.at + length (step_text step) → new.at ≤ LONGEST_CAPTURE → IsReadTo kind d bytes (steps ++ step ∷ []) new after
one_step kind d bytes before after steps step old new h valid e same place within = grind (arith, common_steps, text_more, are_more)

-- ---- how it ends

-- what is read of the bytes: the steps, and what is read of what is left
pub read_on : (kind : CaptureKind) (d : Directory) (bytes left : List ℕ) (steps : List Step) (held : Held) → IsReadTo kind d bytes steps held left
    → readable bytes ≡ flat_map step_text steps ++ readable_from held.at left
read_on kind d bytes left steps held h = grind (arith, common_steps, readable-behind)

pub at_end : (kind : CaptureKind) (d : Directory) (bytes after : List ℕ) (steps : List Step) (held : Held) → IsReadTo kind d bytes steps held (head_text EndHead ++ after)
    → held.at + length (head_text EndHead) ≤ LONGEST_CAPTURE → IsWholeOf kind d bytes steps
at_end kind d bytes after steps held h within = record {
  are = h.are;
  within = omega (arith, within, h.place, length-append (flat_map step_text steps) (head_text EndHead));
  unread = after;
  text = h.text ∙ sym (append_assoc (flat_map step_text steps) (head_text EndHead) after);
}

pub at_bad : (kind : CaptureKind) (d : Directory) (bytes left : List ℕ) (steps : List Step) (held : Held) (at : ℕ) → IsReadTo kind d bytes steps held left
    → IsBadAt held (readable_from held.at left) at → EndsEarlyOf kind d bytes steps at
at_bad kind d bytes left steps held at h (BadByte front byte unread part none is place) =
    let done : List ℕ = flat_map step_text steps in
    let text : readable bytes ≡ done ++ front ++ byte ∷ unread = read_on kind d bytes left steps held h ∙ ap (λ (xs : List ℕ). done ++ xs) is ∙ sym (append_assoc done front (byte ∷ unread)) in
    let read : ReadingOf kind d bytes steps at = Bad front byte unread h.are (part_of kind d held.circuits held.kind h.circuits h.of_kind front part)
    (λ w. none (front_of kind d held.circuits held.kind h.circuits h.of_kind (front ++ byte ∷ []) w)) text
    (omega (arith, place, h.place, ap length text, length-append (done ++ front) (byte ∷ unread), length-append done front)) in
    (read, tt)
at_bad kind d bytes left steps held at h (stopped.EndsInHead part place) =
    let rest : List ℕ = readable_from held.at left in
    let text : readable bytes ≡ flat_map step_text steps ++ rest = read_on kind d bytes left steps held h in
    let read : ReadingOf kind d bytes steps at = EndsInHead rest h.are (part_of kind d held.circuits held.kind h.circuits h.of_kind rest part) text
    (omega (arith, place, h.place, ap length text, length-append (flat_map step_text steps) rest)) in
    (read, tt)

-- what is read of a feed and of what is left behind it
pub feed_on : (kind : CaptureKind) (d : Directory) (bytes x left : List ℕ) (steps : List Step) (held : Held) (c n : ℕ) → IsInFeed kind d bytes steps held c n x left
    → readable bytes ≡ flat_map step_text steps ++ (head_text (FeedHead c n) ++ x ++ readable_from (held.at + length (head_text (FeedHead c n) ++ x)) left)
feed_on kind d bytes x left steps held c n f =
    let front : List ℕ = flat_map step_text steps in
    let text : List ℕ = head_text (FeedHead c n) ++ x in
    let whole : length (front ++ text) ≡ held.at + length text = omega (arith, length-append front text, f.read.place) in
    ap readable (f.read.text ∙ sym (append_assoc front text left)) ∙ readable-behind (front ++ text) left (omega (arith, whole, f.within))
    ∙ ap (λ (k : ℕ). front ++ text ++ readable_from k left) whole ∙ append_assoc front text (readable_from (held.at + length text) left)

pub in_feed : (kind : CaptureKind) (d : Directory) (bytes x left : List ℕ) (steps : List Step) (held : Held) (c n : ℕ) → IsInFeed kind d bytes steps held c n x left
    → length x < n → EndsThere kind d bytes steps held c n x left
in_feed kind d bytes x left steps held c n f short nothing =
    let front : List ℕ = flat_map step_text steps in
    let text : List ℕ = head_text (FeedHead c n) ++ x in
    let all : readable bytes ≡ front ++ text =
    feed_on kind d bytes x left steps held c n f ∙ ap (λ (xs : List ℕ). front ++ (text ++ xs)) nothing ∙ ap (λ (xs : List ℕ). front ++ xs) (append-nil text) in
    let read : ReadingOf kind d bytes (steps ++ Feed c x ∷ []) (held.at + length text) =
    EndsInFeed steps c n x f.read.are f.head short refl (all ∙ sym (append_assoc front (head_text (FeedHead c n)) x)) (omega (arith, ap length all, length-append front text, f.read.place)) in
    (read, tt)
