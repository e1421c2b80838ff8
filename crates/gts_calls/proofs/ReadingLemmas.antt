-- The steps of a decoder up to the next event.
use Rattle.gts_calls.proofs.Cited.{◌≡◌, ℕ, ◌+◌, ◌-◌, ◌<◌, ◌≤◌, Bool, true, false, ◌&&◌, not, List, [], ◌∷◌, ◌++◌, length, take, drop, Option, Some, None, refl, sym, ap, ◌∙◌, subst, arith, length-drop, IsSome, IfSome, IfNone, append-nil, take_all, length-take-le, take-add, Decoding, EndsAt, FrameField, IsPartial, IsStreamFront, KeepsOver, LosesLast, Makes, Reads, ReadsOn, Step, after_step, events_of_signs, held_in, is_event, is_front, is_part, piece_text, signs_of_step, reads-open, front-open, part-is, added-twice, added-signs, common_steps}
use Rattle.std.proofs.Common.{append_assoc}
use Rattle.gts_frame.specs.declared.step.Step.TheVariants as steps

and_first : (a b : Bool) → a && b ≡ true → a ≡ true
and_first true b h = refl
and_first false b h = h

-- a list that isn't empty ends with something
ends_with : (xs : List ℕ) → 0 < length xs → (init : List ℕ) × (last : ℕ) × (xs ≡ init ++ last ∷ [])
ends_with [] some = absurd (omega arith)
ends_with (x ∷ []) some = ([], x, refl)
ends_with (x ∷ y ∷ ys) some = let e = ends_with (y ∷ ys) (omega arith) in (x ∷ e.0, e.1, ap (λ (l : List ℕ). x ∷ l) e.2)

but_last : (init : List ℕ) (last : ℕ) → take (length (init ++ last ∷ []) - 1) (init ++ last ∷ []) ≡ init
but_last init last = grind (arith, common_steps)

-- what some frame or keep-alive begins with, some stream begins with
front_of_part : (bytes : List ℕ) → IsPartial bytes → IsStreamFront bytes
front_of_part bytes p = (piece_text p.0, p.1 ∷ p.2, (p.0 ∷ [], (p.3, tt), sym (append-nil (piece_text p.0))), p.4)

-- the bytes up to the one at which synchronisation is lost keep it
kept_before : (given h init : List ℕ) (last : ℕ) (field : FrameField) → held_in given ≡ Some h → Makes (h ++ (init ++ last ∷ [])) (steps.Lost field) → IsSome (held_in (given ++ init))
kept_before given h init last field is makes =
    let all : List ℕ = h ++ (init ++ last ∷ []) in
    let part : is_part (take (length all - 1) all) ≡ true = and_first (is_part (take (length all - 1) all)) (not (is_front all)) makes.0 in
    let same : take (length all - 1) all ≡ h ++ init = ap (λ (l : List ℕ). take (length l - 1) l) (sym (append_assoc h init (last ∷ []))) ∙ but_last (h ++ init) last in
    let front : IsStreamFront (h ++ init) = front_of_part (h ++ init) (part-is (h ++ init) (subst (λ (l : List ℕ). is_part l ≡ true) same part)) in
    subst IsSome (sym (reads-open given init h is).1) (front-open (h ++ init) front)

-- ---- one step

module _ (before x : List ℕ) (step : Step) (decoder next : Decoding) (held : decoder.held ≡ held_in before) (some : 0 < length x)
    (makes : IfSome decoder.held (λ held. Makes (held ++ x) step)) (after : IfSome decoder.held (λ held. next ≡ after_step (held ++ x) step))
    (dropped : IfNone decoder.held (step ≡ steps.Dropped)) (reads : ReadsOn before x step next) where
  -- where the decoder held something
  opened : (h : List ℕ) → decoder.held ≡ Some h → EndsAt before x step
  opened h is = go step refl makes_so after_so
    where
      makes_so : Makes (h ++ x) step
      makes_so = subst (λ (o : Option (List ℕ)). IfSome o (λ held. Makes (held ++ x) step)) is makes

      after_so : next ≡ after_step (h ++ x) step
      after_so = subst (λ (o : Option (List ℕ)). IfSome o (λ held. next ≡ after_step (held ++ x) step)) is after

      keeps : (d : Decoding) → next ≡ d → IsSome d.held → KeepsOver before x
      keeps d same kept = λ s. subst IsSome (ap (λ (e : Decoding). e.held) (sym same) ∙ reads.held) kept

      loses : (field : FrameField) → Makes (h ++ x) (steps.Lost field) → next.held ≡ None → LosesLast before x
      loses field m none =
          let cut = ends_with x some in
          let M : List ℕ → Type 0 = λ l. Makes (h ++ l) (steps.Lost field) in
          record {
            front = cut.0;
            last = cut.1;
            is = cut.2;
            kept = kept_before before h cut.0 cut.1 field (sym held ∙ is) (subst M cut.2 m);
            lost = sym reads.held ∙ none;
          }

      go : (s : Step) → step ≡ s → Makes (h ++ x) s → next ≡ after_step (h ++ x) s → EndsAt before x s
      go steps.More e m a = keeps (after_step (h ++ x) steps.More) a refl
      go (steps.Frame kind) e m a = keeps (after_step (h ++ x) (steps.Frame kind)) a refl
      go steps.KeepAlive e m a = keeps (after_step (h ++ x) steps.KeepAlive) a refl
      go (steps.Lost field) e m a = loses field m (ap (λ (d : Decoding). d.held) a)
      go steps.Dropped e m a = absurd m

  -- where it held nothing any more
  closed : decoder.held ≡ None → EndsAt before x step
  closed is =
      let drops : step ≡ steps.Dropped = subst (λ (o : Option (List ℕ)). IfNone o (step ≡ steps.Dropped)) is dropped in
      subst (EndsAt before x) (sym drops) (λ s. absurd (let none : IsSome {T = List ℕ} None = subst IsSome (sym held ∙ is) s in cc none))

  pub reads_one : Reads before x step next
  reads_one = record {
    held = reads.held;
    ends = by decoder.held refl;
    events = λ c. added-signs c before x step next reads;
  }
    where
      by : (o : Option (List ℕ)) → decoder.held ≡ o → EndsAt before x step
      by None is = closed is
      by (Some h) is = opened h is

-- the answer of a decoder that takes some bytes of a piece
pub reads_taken : (before piece : List ℕ) (r : ℕ × Step) (decoder next : Decoding) → decoder.held ≡ held_in before → r.0 ≤ length piece → 0 < r.0
    → IfSome decoder.held (λ held. Makes (held ++ take r.0 piece) r.1) → IfSome decoder.held (λ held. next ≡ after_step (held ++ take r.0 piece) r.1)
    → IfNone decoder.held (r ≡ record { 0 = length piece; 1 = steps.Dropped }) → ReadsOn before (take r.0 piece) r.1 next → Reads before (take r.0 piece) r.1 next
reads_taken before piece r decoder next held most some makes after dropped reads =
    reads_one before (take r.0 piece) r.1 decoder next held (omega (arith, some, length-take-le r.0 piece most)) makes after (drops decoder.held dropped) reads
  where
    drops : (o : Option (List ℕ)) → IfNone o (r ≡ record { 0 = length piece; 1 = steps.Dropped }) → IfNone o (r.1 ≡ steps.Dropped)
    drops None is = ap (λ (x : ℕ × Step). x.1) is
    drops (Some h) is = tt

-- ---- more steps

-- a step that is no event keeps synchronisation, and has no events
no_loss : (before x : List ℕ) (step : Step) → is_event step ≡ false → EndsAt before x step → KeepsOver before x
no_loss before x steps.More none e = e
no_loss before x (steps.Frame kind) none e = absurd (cc none)
no_loss before x steps.KeepAlive none e = e
no_loss before x (steps.Lost field) none e = absurd (cc none)
no_loss before x steps.Dropped none e = e

no_events : (c : ℕ) (step : Step) (message : List ℕ) → is_event step ≡ false → events_of_signs c (signs_of_step step message) ≡ []
no_events c steps.More message none = refl
no_events c (steps.Frame kind) message none = absurd (cc none)
no_events c steps.KeepAlive message none = refl
no_events c (steps.Lost field) message none = absurd (cc none)
no_events c steps.Dropped message none = refl

-- synchronisation was kept over these bytes, and then this step came
pub ends_behind : (before x y : List ℕ) (step : Step) → KeepsOver before x → EndsAt (before ++ x) y step → EndsAt before (x ++ y) step
ends_behind before x y step kept ends = grind (arith, common_steps)

-- a step more behind one that is no event
pub reads_more : (before x y : List ℕ) (first step : Step) (mid next : Decoding) → is_event first ≡ false → Reads before x first mid → Reads (before ++ x) y step next → Reads before (x ++ y) step next
reads_more before x y first step mid next none a b = grind (arith, common_steps, ends_behind, no_loss, added-twice, no_events)

-- ---- places in a piece

-- a slice from a place on
pub slice_from : (n : ℕ) (xs : List ℕ) → take (length xs - n) (drop n xs) ≡ drop n xs
slice_from n xs = take_all (length xs - n) (drop n xs) (omega (arith, length-drop n xs))

-- so many bytes, and then some of the rest
pub taken_more : (n m : ℕ) (piece : List ℕ) → take n piece ++ take m (take (length piece - n) (drop n piece)) ≡ take (n + m) piece
taken_more n m piece = ap (λ (l : List ℕ). take n piece ++ take m l) (slice_from n piece) ∙ sym (take-add n m piece)
