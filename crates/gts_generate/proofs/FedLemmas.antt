-- The messages of a day: each is heard as it stands, and has one end.
use Rattle.gts_generate.proofs.Cited.{◌≡◌, ◌≢◌, ℕ, suc, zero, ◌+◌, ◌-◌, ◌/◌, ◌%◌, ◌≤◌, Bool, true, false, ◌==◌, None, List, [], ◌∷◌, ◌++◌, length, drop, get_or, map, inl, inr, refl, sym, ap, subst, ◌∙◌, append_assoc, arith, codes, flat_map, replicate, if◌then◌else◌, AllByRecursion, An, Circuit, Compact, Connections, Directory, Drain, EOL, ETX, EndsWithEtx, Entry, Event, Feed, Frame, HeadingFields, IsFramed, IsPiece, KeepAlive, Part, Piece, Reopen, Rest, Restart, State, Step, Take, Taken, after_all, after_step, all_done, body, connection, dec, drains, entries, entries_from, entries_of_step, events_added, events_of, frame, frames_in, heading_at, heading_text, list_all, message, no_bytes, on_circuit, piece_text, range_with_len, report, request, steps, steps_of, waiting, set, eqb-true, eq-eqb, cases_lt, and_parts, and_from, append-nil, set_past, get_or-set_same, get_or-set_other, list_all-append, flat_map-append, IsFramed-message_of, connection-unique, common_steps}
use Rattle.gts_generate.specs.Cited.{body_of}
use Rattle.gts_generate.proofs.ByteLemmas.{lacks, one_more, lacks-append, lacks-dec, lacks-heading_text}
use Rattle.gts_generate.proofs.FramesLemmas.{ends-append, ends-message, no-end}
use Rattle.gts_generate.proofs.EndLemmas.{hears_one_end, has_one_end}

-- ---- what comes on a connection

-- a frame whose message has one end
abbrev HasOneEnd : Piece → Type 0
HasOneEnd (Frame kind message) = IsFramed message × (frames_in message ≡ 1)
HasOneEnd (KeepAlive kind) = Unit {0}

-- bytes are whole frames, of which each message has one end
abbrev AreFrames : List ℕ → Type 0
AreFrames bytes = (pieces : List Piece) × AllByRecursion HasOneEnd pieces × (bytes ≡ flat_map piece_text pieces)

are-pieces : (pieces : List Piece) → AllByRecursion HasOneEnd pieces → AllByRecursion IsPiece pieces
are-pieces [] each = tt
are-pieces (Frame kind message ∷ pieces) each = (each.0.0, are-pieces pieces each.1)
are-pieces (KeepAlive kind ∷ pieces) each = (tt, are-pieces pieces each.1)

nothing-left : Rest [] None
unfolding dec
nothing-left = Part (KeepAlive An, 48, codes "0000000AN", tt, refl)

-- each of them is heard
heard : (c : ℕ) (pieces : List Piece) → AllByRecursion HasOneEnd pieces → events_of c pieces ≡ connection c (flat_map piece_text pieces)
heard c pieces each =
    connection-unique c (flat_map piece_text pieces) (events_of c pieces) (record {
      pieces = pieces;
      each = are-pieces pieces each;
      rest = [];
      text = sym (append-nil (flat_map piece_text pieces));
      field = None;
      ending = nothing-left;
      events_are = sym (append-nil (events_of c pieces));
    })

heard-ends : (c : ℕ) (pieces : List Piece) → AllByRecursion HasOneEnd pieces → list_all hears_one_end (events_of c pieces) ≡ true
heard-ends c [] each = refl
heard-ends c (Frame kind message ∷ pieces) each = grind (arith, common_steps, and_from, hears_one_end, eq-eqb, heard-ends c pieces each.1)
heard-ends c (KeepAlive kind ∷ pieces) each = heard-ends c pieces each.1

all-drop : (n : ℕ) (events : List Event) → list_all hears_one_end events ≡ true → list_all hears_one_end (drop n events) ≡ true
all-drop zero events all = all
all-drop (suc n) [] all = refl
all-drop (suc n) (event ∷ events) all = all-drop n events (and_parts (hears_one_end event) (list_all hears_one_end events) all).1

all-done : (events : List Event) → list_all hears_one_end events ≡ true → list_all has_one_end (all_done events) ≡ true
all-done [] all = refl
all-done (event ∷ events) all =
    let both = and_parts (hears_one_end event) (list_all hears_one_end events) all in
    and_from (hears_one_end event) (list_all has_one_end (all_done events)) both.0 (all-done events both.1)

each-more : (pieces : List Piece) (piece : Piece) → AllByRecursion HasOneEnd pieces → HasOneEnd piece → AllByRecursion HasOneEnd (pieces ++ piece ∷ [])
each-more [] piece each more = (more, tt)
each-more (first ∷ pieces) piece each more = (each.0, each-more pieces piece each.1 more)

one-more : (before : List ℕ) (message : List ℕ) → AreFrames before → IsFramed message → frames_in message ≡ 1 → AreFrames (before ++ frame An message)
one-more before message are framed one =
    let pieces : List Piece = are.0 in
    let last : flat_map piece_text (Frame An message ∷ []) ≡ frame An message = append-nil (frame An message) in (
      pieces ++ Frame An message ∷ [],
      each-more pieces (Frame An message) are.1 (framed, one),
      ap (λ (l : List ℕ). l ++ frame An message) are.2
          ∙ ap (λ (l : List ℕ). flat_map piece_text pieces ++ l) (sym last)
          ∙ sym (flat_map-append piece_text pieces (Frame An message ∷ [])),
    )

added-ends : (c : ℕ) (before bytes : List ℕ) → AreFrames (before ++ bytes) → list_all hears_one_end (events_added c before bytes) ≡ true
added-ends c before bytes are =
    let now : events_of c are.0 ≡ connection c (before ++ bytes) = heard c are.0 are.1 ∙ ap (connection c) (sym are.2) in
    all-drop (length (connection c before)) (connection c (before ++ bytes))
    (subst (λ (events : List Event). list_all hears_one_end events ≡ true) now (heard-ends c are.0 are.1))

-- ---- what steps bring

-- bytes that come are one frame, whose message has one end; and no step begins a connection anew
abbrev IsFed : Step → Type 0
IsFed (Feed circuit bytes) = (message : List ℕ) × IsFramed message × (frames_in message ≡ 1) × (bytes ≡ frame An message)
IsFed (Take circuit) = Unit {0}
IsFed (Drain circuit) = Unit {0}
IsFed _ = ⊥

abbrev AllFed : Connections → Type 0
AllFed bs = (c : ℕ) → AreFrames (get_or bs c [])

fed-more : (bs : Connections) (c : ℕ) (bytes : List ℕ) → AreFrames bytes → AllFed bs → AllFed (set bs c bytes)
fed-more bs c bytes are fed e = go (e == c) refl
  where
    go : (b : Bool) → (e == c) ≡ b → AreFrames (get_or (set bs c bytes) e [])
    go true same = elim (cases_lt c (length bs)) [
      | inl within ↦
          let at : get_or (set bs c bytes) e [] ≡ bytes =
          ap (λ (k : ℕ). get_or (set bs c bytes) k []) (eqb-true e c same) ∙ get_or-set_same bs c bytes [] within in
          subst AreFrames (sym at) are
      | inr beyond ↦ subst (λ (l : Connections). AreFrames (get_or l e [])) (sym (set_past bs c bytes beyond)) (fed e)
    ]
    go false differs =
        let other : e ≢ c = λ h. absurd (let t : (e == c) ≡ true = eq-eqb e c h in cc) in
        subst AreFrames (sym (get_or-set_other bs c e bytes [] other)) (fed e)

after-fed : (d : Directory) (bs : Connections) (step : Step) → IsFed step → AllFed bs → AllFed (after_step d bs step)
after-fed d bs (Feed c bytes) is fed =
    let before : List ℕ = get_or bs c [] in
    fed-more bs c (before ++ bytes)
    (subst (λ (l : List ℕ). AreFrames (before ++ l)) (sym is.3) (one-more before is.0 (fed c) is.1 is.2)) fed
after-fed d bs (Take c) is fed = fed
after-fed d bs (Drain c) is fed = fed
after-fed d bs _ is fed = absurd is

takes-end : (n c : ℕ) → list_all has_one_end (all_done (replicate n (Taken c))) ≡ true
takes-end zero c = refl
takes-end (suc n) c = takes-end n c

step-ends : (s : State) (bs : Connections) (step : Step) → IsFed step → AllFed bs → list_all has_one_end (entries_of_step s bs step) ≡ true
step-ends s bs (Feed c bytes) is fed =
    let before : List ℕ = get_or bs c [] in
    all-done (events_added c before bytes) (added-ends c before bytes
    (subst (λ (l : List ℕ). AreFrames (before ++ l)) (sym is.3) (one-more before is.0 (fed c) is.1 is.2)))
step-ends s bs (Take c) is fed = refl
step-ends s bs (Drain c) is fed = takes-end (length (on_circuit s c).owed + length (waiting (on_circuit s c)) + 1) c
step-ends s bs _ is fed = absurd is

entries-end : (d : Directory) (s : State) (bs : Connections) (steps : List Step) → AllByRecursion IsFed steps → AllFed bs
    → list_all has_one_end (entries_from d s bs steps) ≡ true
entries-end d s bs [] each fed = refl
entries-end d s bs (step ∷ steps) each fed =
    let added : List Entry = entries_of_step s bs step in
    let rest : List Entry = entries_from d (after_all d s added) (after_step d bs step) steps in
    list_all-append has_one_end added rest
    ∙ and_from (list_all has_one_end added) (list_all has_one_end rest) (step-ends s bs step each.0 fed)
    (entries-end d (after_all d s added) (after_step d bs step) steps each.1 (after-fed d bs step each.0 fed))

-- nothing came on any connection yet
nothing-yet : (rows : List Circuit) (c : ℕ) → AreFrames (get_or (map (λ row. []) rows) c [])
nothing-yet [] c = ([], tt, refl)
nothing-yet (row ∷ rows) zero = ([], tt, refl)
nothing-yet (row ∷ rows) (suc c) = nothing-yet rows c

-- ---- the messages of a day

-- the bodies of a report and of a request
report-size : (i : ℕ) → length (report i) ≡ 39
unfolding dec heading_text
report-size i = refl

request-size : (i : ℕ) → length (request i) ≡ 40
unfolding dec heading_text
request-size i = refl

ends-with-etx : (heading : HeadingFields) (text : List ℕ) → EndsWithEtx (body_of heading text)
ends-with-etx heading text =
    (heading_text heading ++ EOL ++ text ++ EOL, sym (append_assoc (heading_text heading ++ EOL ++ text) EOL (ETX ∷ [])))

-- a body has one end where its heading and its text have none
body-end : (heading : HeadingFields) (text : List ℕ) → lacks ETX (heading_text heading) ≡ true → lacks ETX text ≡ true
    → frames_in (body_of heading text) ≡ 1
body-end heading text first rest = grind (arith, common_steps, ends-append, no-end)

lacks-day_heading : (i : ℕ) (tt_of aa : List ℕ) (ii : ℕ) → lacks ETX tt_of ≡ true → lacks ETX aa ≡ true
    → lacks ETX (heading_text (heading_at i tt_of aa ii)) ≡ true
lacks-day_heading i tt_of aa ii first second = grind (arith, common_steps, lacks-heading_text)

letter : (n : ℕ) → lacks ETX (83 ∷ (65 + n) ∷ []) ≡ true
letter n = one_more ETX 83 ((65 + n) ∷ []) (λ e. absurd (omega arith)) (one_more ETX (65 + n) [] (λ e. absurd (omega arith)) refl)

report-end : (i : ℕ) → frames_in (report i) ≡ 1
report-end i = grind (arith, common_steps, lacks, lacks-append, lacks-dec, body-end, lacks-day_heading, letter)

request-end : (i : ℕ) → frames_in (request i) ≡ 1
request-end i = grind (arith, common_steps, body-end, lacks-day_heading)

-- what each body has
pub record IsDayBody (bytes : List ℕ) : Type 0 where
  pub short : length bytes ≤ 40
  pub ends : EndsWithEtx bytes
  pub one : frames_in bytes ≡ 1

report-body : (i : ℕ) → IsDayBody (report i)
report-body i = grind (arith, common_steps, report-size, ends-with-etx, report-end)

request-body : (i : ℕ) → IsDayBody (request i)
request-body i = grind (arith, common_steps, request-size, ends-with-etx, request-end)

one-of : (asks again : Bool) (i j : ℕ) → IsDayBody (if asks then request i else if again then report j else report i)
one-of true again i j = request-body i
one-of false true i j = report-body j
one-of false false i j = report-body i

pub day-body : (i : ℕ) → IsDayBody (body i)
day-body i = one-of (i % 100 == 99) (i % 100 == 49) i (i - 1)

message-fed : (i : ℕ) → IsFramed (message i) × (frames_in (message i) ≡ 1)
message-fed i =
    let is : IsDayBody (body i) = day-body i in
    let number : ℕ = (i / 8 + 1) % 1000 in (
      IsFramed-message_of 3 number (body i) (omega arith) (omega (arith, is.short)) is.ends,
      ends-message (dec 3 number) (body i) (lacks-dec ETX 3 number (omega arith)) ∙ is.one,
    )

day-fed : (numbers : List ℕ) → AllByRecursion IsFed (flat_map steps_of numbers ++ drains)
day-fed [] = (tt, (tt, (tt, (tt, (tt, (tt, (tt, (tt, tt))))))))
day-fed (i ∷ numbers) = let fed = message-fed i in ((message i, fed.0, fed.1, refl), (tt, day-fed numbers))

-- each message of a day is heard with one end
pub day-ends : (d : Directory) (s : State) (count : ℕ) → list_all has_one_end (entries d s (steps count)) ≡ true
day-ends d s count = entries-end d s (no_bytes d) (steps count) (day-fed (range_with_len 0 count)) (nothing-yet d.circuits)
