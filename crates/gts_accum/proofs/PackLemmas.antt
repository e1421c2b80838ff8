-- Streams that are packed as they are read.
use Rattle.gts_accum.proofs.Cited.{◌≡◌, ℕ, ◌+◌, ◌-◌, ◌<◌, ◌≤◌, min, Bool, false, cond, List, [], ◌∷◌, ◌++◌, length, take, drop, Option, Some, None, refl, sym, ap, subst, ◌∙◌, append_assoc, arith, is_none, option_map, IfSome, Result, Ok, Err, le-ltb, lt-ltb, append-nil, length-append, length-drop, length-take-le, take_all, take_at, take-append-drop, take-append-le, take-append-add, none-some, Breaks, Call, Decoding, FrameField, FrameStep as Step, Holds, IsBad, LONGEST_STREAM, Lost, Makes, Outside, PackEnd, Packs, PieceEnds, ReadsOn, SameFiles, SaysFront, SaysOnly, Sign, Stands, Stop, Tells, Unsaid, Whole, after_step, bad_in_stream, cut_at, entries_in, entries_text, head_text, held_in, loss_in, messages_of, on, packed, signs_in, signs_of_step, stream_seen, on-append, said_more, front_behind, front_more, reads-open, reads-lost, reads-part, IsBreak, IsBreak-from, IsFirst, find-first, take_split, common_steps}
use Rattle.gts_frame.specs.declared.step.Step.TheVariants as step
use Rattle.gts_accum.specs.declared.pack_end.PackEnd.TheVariants as end
use Rattle.gts_accum.proofs.StreamLemmas.{messages-both}

-- ---- entries

pub entries-both : (xs ys : List (List ℕ)) → entries_text (xs ++ ys) ≡ entries_text xs ++ entries_text ys
entries-both [] ys = refl
entries-both (m ∷ xs) ys = grind (arith, common_steps, entries-both xs ys)

-- the entries of some signs and more
abbrev of : List Sign → List ℕ
of signs = entries_text (messages_of signs)

of-both : (xs ys : List Sign) → of (xs ++ ys) ≡ of xs ++ of ys
of-both xs ys = ap entries_text (messages-both xs ys) ∙ entries-both (messages_of xs) (messages_of ys)

-- ---- what is held

-- what goes on with more shows the same first
signs-front : (u v : List ℕ) → (s : List Sign) × (signs_in (u ++ v) ≡ signs_in u ++ s)
signs-front u v = go (held_in u) refl
  where
    go : (o : Option (List ℕ)) → held_in u ≡ o → (s : List Sign) × (signs_in (u ++ v) ≡ signs_in u ++ s)
    go None e = ([], (reads-lost u v e).0 ∙ sym (append-nil (signs_in u)))
    go (Some h) e = (signs_in (h ++ v), (reads-open u v h e).0)

-- what is kept, was kept before
kept-front : (u v h : List ℕ) → held_in (u ++ v) ≡ Some h → is_none (held_in u) ≡ false
kept-front u v h e = go (held_in u) refl
  where
    go : (o : Option (List ℕ)) → held_in u ≡ o → is_none (held_in u) ≡ false
    go None f = absurd (none-some h (sym (reads-lost u v f).1 ∙ e))
    go (Some k) f = ap is_none f

-- the bytes that are looked at, where the stream begins with some
seen-front : (u v : List ℕ) → length u ≤ LONGEST_STREAM → stream_seen (u ++ v) ≡ u ++ take (min LONGEST_STREAM (length (u ++ v)) - length u) v
seen-front u v few = grind (arith, common_steps, length-append, take_split, take_all)

-- ---- as bytes are taken

-- a step that loses nothing leaves something open
pub step_kept : (b : List ℕ) (s : Step) → ((field : FrameField) → s ≡ step.Lost field → ⊥) → Makes b s → (h : List ℕ) × ((after_step b s).held ≡ Some h)
step_kept b step.More goes makes = (b, refl)
step_kept b (step.Frame kind) goes makes = ([], refl)
step_kept b step.KeepAlive goes makes = ([], refl)
step_kept b (step.Lost field) goes makes = absurd (goes field refl)
step_kept b step.Dropped goes makes = absurd makes

pub stands_more : (observed : Type 0) (first now later : List Call) (before x : List ℕ) (s : Step) (decoder next : Decoding) (h : List ℕ)
    → Stands observed first now before decoder → ReadsOn before x s next → next.held ≡ Some h
    → (observed → SaysOnly now later (on 0 (entries_text (messages_of (signs_of_step s next.message)))))
    → Stands observed first later (before ++ x) next
stands_more observed first now later before x s decoder next h stands reads is said = grind (arith, common_steps, of-both, on-append, said_more)

-- ---- where saying failed

-- what is said of a stream begins with the entries of its front
packed-front : (u v : List ℕ) → length u ≤ LONGEST_STREAM → (z : List ℕ) × (packed (u ++ v) ≡ entries_in u ++ z)
packed-front u v few =
    let w : List ℕ = take (min LONGEST_STREAM (length (u ++ v)) - length u) v in
    let more = signs-front u w in
    let tail : List ℕ = elim (bad_in_stream (u ++ v)) as (λ _. List ℕ) [ None ↦ head_text Whole 0 | Some at ↦ [] ] in (
      of more.0 ++ tail,
      ap (λ (l : List ℕ). of (signs_in l) ++ tail) (seen-front u v few) ∙ ap (λ (l : List ℕ). l ++ tail) (ap of more.1 ∙ of-both (signs_in u) more.0)
          ∙ append_assoc (entries_in u) (of more.0) tail,
    )

pub fails_more : (observed : Type 0) (first now later : List Call) (before x : List ℕ) (s : Step) (decoder next : Decoding)
    → Stands observed first now before decoder → ReadsOn before x s next → length (before ++ x) ≤ LONGEST_STREAM
    → (observed → SaysFront now later (on 0 (entries_text (messages_of (signs_of_step s next.message)))))
    → (more : List ℕ) → observed → SaysFront first later (on 0 (packed ((before ++ x) ++ more)))
fails_more observed first now later before x s decoder next stands reads few said more t =
    let e : List ℕ = of (signs_of_step s next.message) in
    let all : entries_in (before ++ x) ≡ entries_in before ++ e = ap of reads.signs ∙ of-both (signs_in before) (signs_of_step s next.message) in
    let z = packed-front (before ++ x) more few in
    let text : on 0 (packed ((before ++ x) ++ more)) ≡ (on 0 (entries_in before) ++ on 0 e) ++ on 0 z.0 =
    ap (on 0) z.1 ∙ on-append 0 (entries_in (before ++ x)) z.0 ∙ ap (λ (l : List ℕ). on 0 l ++ on 0 z.0) all ∙ ap (λ (o : Outside). o ++ on 0 z.0) (on-append 0 (entries_in before) e) in
    subst (λ (o : Outside). SaysFront first later o) (sym text)
    (front_more first later (on 0 (entries_in before) ++ on 0 e) (on 0 z.0) (front_behind first now later (on 0 (entries_in before)) (on 0 e) (stands.holds.said t) (said t)))

-- ---- where synchronisation is lost

-- the first byte at which nothing is kept
loss-at : (b more : List ℕ) (h : List ℕ) → 1 ≤ length b → held_in b ≡ None → held_in (take (length b - 1) b) ≡ Some h → loss_in (b ++ more) ≡ Some (length b - 1)
loss-at b more h some lost kept =
    let all : List ℕ = b ++ more in
    let first : IsFirst (λ n. is_none (held_in (take n all))) 1 (length all) (length b) = record {
      low = some;
      high = omega (arith, length-append b more);
      passes = ap (λ (l : List ℕ). is_none (held_in l)) (take_at b more (length b) refl) ∙ ap is_none lost;
      first = λ j low high.
          let front : List ℕ = take (length b - 1) b in
          let long : length front ≡ length b - 1 = length-take-le (length b - 1) b (omega arith) in
          let shorter : take j all ≡ take j front =
          take-append-le j b more (omega (arith, high))
          ∙ ap (take j) (sym (take-append-drop (length b - 1) b)) ∙ take-append-le j front (drop (length b - 1) b) (omega (arith, high, long)) in
          ap (λ (l : List ℕ). is_none (held_in l)) shorter ∙ kept-front (take j front) (drop j front) h (ap held_in (take-append-drop j front) ∙ kept);
    } in
    ap (option_map (λ n. n - 1)) (find-first (λ n. is_none (held_in (take n all))) 1 (length all) (length b) first)

bad-lost : (stream : List ℕ) → held_in (stream_seen stream) ≡ None → bad_in_stream stream ≡ loss_in (stream_seen stream)
bad-lost stream e = ap (λ (o : Option (List ℕ)). elim o as (λ _. Option ℕ) [ None ↦ loss_in (stream_seen stream) | Some held ↦ cut_at held stream ]) e

packed-bad : (stream : List ℕ) (at : ℕ) → bad_in_stream stream ≡ Some at → packed stream ≡ entries_in (stream_seen stream)
packed-bad stream at e = grind (arith, common_steps, append-nil)

-- the last of these bytes breaks
break_parts : (h x : List ℕ) (field : FrameField) → 1 ≤ length x → Makes (h ++ x) (step.Lost field) → (k : List ℕ) × (held_in (h ++ take (length x - 1) x) ≡ Some k)
break_parts h x field some makes =
    let b : List ℕ = h ++ x in
    let broken : IsBreak b = IsBreak-from b makes.0 in
    let place : length b - 1 ≡ length h + (length x - 1) = omega (arith, length-append h x) in
    let cut : take (length b - 1) b ≡ h ++ take (length x - 1) x = ap (λ (n : ℕ). take n b) place ∙ take-append-add h x (length x - 1) in
    (take (length b - 1) b, ap held_in (sym cut) ∙ (reads-part (take (length b - 1) b) broken.part).1)

pub lost_here : (observed : Type 0) (first now : List Call) (before x h : List ℕ) (field : FrameField) (decoder next : Decoding)
    → Stands observed first now before decoder → decoder.held ≡ Some h → 1 ≤ length x → length (before ++ x) ≤ LONGEST_STREAM
    → Makes (h ++ x) (step.Lost field) → ReadsOn before x (step.Lost field) next → next.held ≡ None
    → (more : List ℕ) → IsBad observed first now ((before ++ x) ++ more) (length before + (length x - 1))
lost_here observed first now before x h field decoder next stands here some few makes reads none more =
    let b : List ℕ = before ++ x in
    let rest : List ℕ = take (min LONGEST_STREAM (length (b ++ more)) - length b) more in
    let seen : stream_seen (b ++ more) ≡ b ++ rest = seen-front b more few in
    let lost : held_in b ≡ None = sym reads.held ∙ none in
    let later = reads-lost b rest lost in
    let part = break_parts h x field some makes in
    let held : held_in before ≡ Some h = stands.holds.is ∙ sym stands.is ∙ here in
    let last : length b - 1 ≡ length before + (length x - 1) = omega (arith, length-append before x) in
    let shorter : take (length b - 1) b ≡ before ++ take (length x - 1) x = ap (λ (n : ℕ). take n b) last ∙ take-append-add before x (length x - 1) in
    let kept : held_in (take (length b - 1) b) ≡ Some part.0 =
    ap held_in shorter ∙ (reads-open before (take (length x - 1) x) h held).1 ∙ part.1 in
    let place : bad_in_stream (b ++ more) ≡ Some (length b - 1) =
    bad-lost (b ++ more) (ap held_in seen ∙ later.1) ∙ ap loss_in seen ∙ loss-at b rest part.0 (omega (arith, length-append before x)) lost kept in
    record {
      place = place ∙ ap (λ (n : ℕ). Some n) last;
      said = λ t.
          let text : packed (b ++ more) ≡ entries_in before =
          packed-bad (b ++ more) (length b - 1) place ∙ ap (λ (l : List ℕ). entries_in l) seen ∙ ap of (later.0 ∙ reads.signs)
          ∙ of-both (signs_in before) (Breaks field ∷ []) ∙ append-nil (entries_in before) in
          subst (λ (l : List ℕ). SaysOnly first now (on 0 l)) (sym text) (stands.holds.said t);
    }

-- ---- where the stream ends, or goes on past its greatest length

bad-kept : (stream held : List ℕ) → held_in (stream_seen stream) ≡ Some held → bad_in_stream stream ≡ cut_at held stream
bad-kept stream held e = ap (λ (o : Option (List ℕ)). elim o as (λ _. Option ℕ) [ None ↦ loss_in (stream_seen stream) | Some held ↦ cut_at held stream ]) e

past_by : (h stream : List ℕ) → LONGEST_STREAM < length stream → length (stream_seen stream) ≡ LONGEST_STREAM → cut_at h stream ≡ Some LONGEST_STREAM
past_by [] stream past seen = ap (λ (t : Bool). cond t (Some LONGEST_STREAM) None) (lt-ltb LONGEST_STREAM (length stream) past)
past_by (b ∷ h) stream past seen = ap (λ (n : ℕ). Some n) seen

goes_past : (observed : Type 0) (first now : List Call) (u v : List ℕ) (held : List ℕ) → Holds observed first now u held → length u ≡ LONGEST_STREAM → 1 ≤ length v
    → IsBad observed first now (u ++ v) LONGEST_STREAM
goes_past observed first now u v held holds long some =
    grind (arith, common_steps, length-append, seen-front, append-nil, past_by, bad-kept, packed-bad)

-- ---- an entry in two pieces

pub told_behind : {T E : Type 0} (result : Result T E) (a b c : List Call) (x y : List ℕ) → SaysOnly a b (on 0 x) → Tells result (on 0 y) b c → Tells result (on 0 (x ++ y)) a c
told_behind (Ok u) a b c x y first second = subst (λ (o : Outside). SaysOnly a c o) (sym (on-append 0 x y)) (said_more a b c (on 0 x) (on 0 y) first second)
told_behind (Err e) a b c x y first second = subst (λ (o : Outside). SaysFront a c o) (sym (on-append 0 x y)) (front_behind a b c (on 0 x) (on 0 y) first second)

-- ---- the end of a stream in which nothing is left open

none_held : (held : List ℕ) → length held ≡ 0 → held ≡ []
none_held [] e = refl
none_held (x ∷ held) e = absurd (omega (arith, e))

-- all of it is looked at
seen_all : (stream : List ℕ) → length stream ≤ LONGEST_STREAM → stream_seen stream ≡ stream
seen_all stream few = take_all (min LONGEST_STREAM (length stream)) stream (omega (arith, few))

-- it is bad nowhere
pub sound_at_end : (stream held : List ℕ) → length stream ≤ LONGEST_STREAM → held_in stream ≡ Some held → length held ≡ 0 → bad_in_stream stream ≡ None
sound_at_end stream held few is none = grind (arith, common_steps, seen_all, none_held, bad-kept, le-ltb)

-- its file is that of its messages, and the end
pub told_to_end : {T E : Type 0} (result : Result T E) (first now later : List Call) (stream held : List ℕ) → length stream ≤ LONGEST_STREAM
    → held_in stream ≡ Some held → length held ≡ 0 → SaysOnly first now (on 0 (entries_in stream)) → Tells result (on 0 (head_text Whole 0)) now later
    → Tells result (on 0 (packed stream)) first later
told_to_end result first now later stream held few is none said last = grind (arith, common_steps, sound_at_end, seen_all, told_behind)

-- ---- one step of the decoder, of a piece

pub record IsStep (rest : List ℕ) (n : ℕ) (s : Step) (decoder next : Decoding) : Type 0 where
  pub count : n ≤ length rest
  pub some : 1 ≤ n
  pub makes : IfSome decoder.held (λ held. Makes (held ++ take n rest) s)
  pub after : IfSome decoder.held (λ held. next ≡ after_step (held ++ take n rest) s)
  pub reads : (before : List ℕ) → decoder.held ≡ held_in before → ReadsOn before (take n rest) s next

if_some : (o : Option (List ℕ)) (h : List ℕ) (P : List ℕ → Type 0) → o ≡ Some h → IfSome o P → P h
if_some o h P e x = subst (λ (o : Option (List ℕ)). IfSome o P) e x

reads_here : (observed : Type 0) (first now : List Call) (b rest : List ℕ) (n : ℕ) (s : Step) (decoder next : Decoding) → Stands observed first now b decoder → IsStep rest n s decoder next
    → ReadsOn b (take n rest) s next
reads_here observed first now b rest n s decoder next stands step = step.reads b (stands.is ∙ sym stands.holds.is)

pub piece_more : (observed : Type 0) (first now later : List Call) (b rest : List ℕ) (n : ℕ) (s : Step) (decoder next : Decoding)
    → Stands observed first now b decoder → IsStep rest n s decoder next → ((field : FrameField) → s ≡ step.Lost field → ⊥)
    → (observed → SaysOnly now later (on 0 (entries_text (messages_of (signs_of_step s next.message)))))
    → Stands observed first later (b ++ take n rest) next
piece_more observed first now later b rest n s decoder next stands is goes said =
    let h : List ℕ = stands.held in
    let makes = if_some decoder.held h (λ held. Makes (held ++ take n rest) s) stands.is is.makes in
    let after = if_some decoder.held h (λ held. next ≡ after_step (held ++ take n rest) s) stands.is is.after in
    let kept = step_kept (h ++ take n rest) s goes makes in
    stands_more observed first now later b (take n rest) s decoder next kept.0 stands (reads_here observed first now b rest n s decoder next stands is) (ap (λ (d : Decoding). d.held) after ∙ kept.1) said

-- the bytes of a piece, as they were taken
split_piece : (before done rest piece more : List ℕ) (n : ℕ) → piece ≡ done ++ rest → ((before ++ done) ++ take n rest) ++ (drop n rest ++ more) ≡ (before ++ piece) ++ more
split_piece before done rest piece more n text =
    append_assoc (before ++ done) (take n rest) (drop n rest ++ more)
    ∙ ap (λ (l : List ℕ). (before ++ done) ++ l) (sym (append_assoc (take n rest) (drop n rest) more) ∙ ap (λ (l : List ℕ). l ++ more) (take-append-drop n rest))
    ∙ append_assoc before done (rest ++ more) ∙ ap (λ (l : List ℕ). before ++ l) (sym (append_assoc done rest more) ∙ ap (λ (l : List ℕ). l ++ more) (sym text))
    ∙ sym (append_assoc before piece more)

within : (before done rest piece : List ℕ) (n start : ℕ) → piece ≡ done ++ rest → start ≡ length before → n ≤ length rest → start + length piece ≤ LONGEST_STREAM
    → length ((before ++ done) ++ take n rest) ≤ LONGEST_STREAM
within before done rest piece n start text here count few = grind (arith, common_steps, length-append, length-take-le)

pub piece_lost : (observed : Type 0) (first now : List Call) (before done rest piece more : List ℕ) (start at n : ℕ) (s : Step) (field : FrameField) (decoder next : Decoding)
    → Stands observed first now (before ++ done) decoder → IsStep rest n s decoder next → s ≡ step.Lost field → piece ≡ done ++ rest → at ≡ start + length done → start ≡ length before
    → start + length piece ≤ LONGEST_STREAM → IsBad observed first now ((before ++ piece) ++ more) (at + (n - 1))
piece_lost observed first now before done rest piece more start at n s field decoder next stands is lost text place here few =
    let h : List ℕ = stands.held in
    let b : List ℕ = before ++ done in
    let x : List ℕ = take n rest in
    let makes = subst (λ (s : Step). Makes (h ++ x) s) lost (if_some decoder.held h (λ held. Makes (held ++ x) s) stands.is is.makes) in
    let after = if_some decoder.held h (λ held. next ≡ after_step (held ++ x) s) stands.is is.after ∙ ap (after_step (h ++ x)) lost in
    let reads = subst (λ (s : Step). ReadsOn b x s next) lost (reads_here observed first now b rest n s decoder next stands is) in
    let long : length x ≡ n = length-take-le n rest is.count in
    let bad = lost_here observed first now b x h field decoder next stands stands.is (omega (arith, long, is.some)) (within before done rest piece n start text here is.count few) makes reads
    (ap (λ (d : Decoding). d.held) after) (drop n rest ++ more) in
    let at_is : length b + (length x - 1) ≡ at + (n - 1) = omega (arith, long, length-append before done, place, here, is.some) in
    subst (λ (l : List ℕ). IsBad observed first now l (at + (n - 1))) (split_piece before done rest piece more n text) (subst (λ (k : ℕ). IsBad observed first now ((b ++ x) ++ (drop n rest ++ more)) k) at_is bad)

pub piece_unsaid : (observed : Type 0) (first now later : List Call) (before done rest piece more : List ℕ) (start n : ℕ) (s : Step) (decoder next : Decoding)
    → Stands observed first now (before ++ done) decoder → IsStep rest n s decoder next → piece ≡ done ++ rest → start ≡ length before
    → start + length piece ≤ LONGEST_STREAM → (observed → SaysFront now later (on 0 (entries_text (messages_of (signs_of_step s next.message)))))
    → observed → SaysFront first later (on 0 (packed ((before ++ piece) ++ more)))
piece_unsaid observed first now later before done rest piece more start n s decoder next stands is text here few said t =
    let b : List ℕ = before ++ done in
    let x : List ℕ = take n rest in
    let fails = fails_more observed first now later b x s decoder next stands (reads_here observed first now b rest n s decoder next stands is) (within before done rest piece n start text here is.count few) said
    (drop n rest ++ more) t in
    subst (λ (l : List ℕ). SaysFront first later (on 0 (packed l))) (split_piece before done rest piece more n text) fails

pub rest_of_piece : (done rest piece : List ℕ) (n : ℕ) → piece ≡ done ++ rest → piece ≡ (done ++ take n rest) ++ take (length rest - n) (drop n rest)
rest_of_piece done rest piece n text = grind (arith, common_steps, take-append-drop, take_all, length-drop)

-- ---- a whole stream

pub same_files : (observed : Type 0) (end : PackEnd) (stream left : List ℕ) (old new : List Call) → Packs observed end stream left old new → observed → SameFiles old new
same_files observed end.Done stream left old new packs t = (packs.1 t).files
same_files observed (end.Bad at) stream left old new packs t = (packs.said t).files
same_files observed end.SourceFault stream left old new packs t = (packs.said t).files
same_files observed end.SayFault stream left old new packs t = (packs t).said.files
same_files observed end.NoMemory stream left old new packs t = (packs.1 t).files

-- a read of a stream, of which not more bytes are taken than there is room for
read_text : (stream bytes left into new : List ℕ) (room count : ℕ) → stream ≡ bytes ++ left → left ≡ take count into ++ new → room ≤ count → count ≤ length into
    → stream ≡ (bytes ++ take room into) ++ (drop room (take count into) ++ new)
read_text stream bytes left into new room count text next most there =
    let front : take room (take count into) ≡ take room into =
    sym (take-append-le room (take count into) (drop count into) (omega (arith, most, length-take-le count into there))) ∙ ap (take room) (take-append-drop count into) in
    let all : take count into ++ new ≡ take room into ++ (drop room (take count into) ++ new) =
    ap (λ (l : List ℕ). l ++ new) (sym (take-append-drop room (take count into)) ∙ ap (λ (l : List ℕ). l ++ drop room (take count into)) front)
    ∙ append_assoc (take room into) (drop room (take count into)) new in
    text ∙ ap (λ (l : List ℕ). bytes ++ l) (next ∙ all) ∙ sym (append_assoc bytes (take room into) (drop room (take count into) ++ new))

-- what the end of a piece means for its stream
pub record InStream (observed : Type 0) (first now : List Call) (stream : List ℕ) (r : Result (Unit {0}) Stop) : Type 0 where
  pub lost : (at : ℕ) → r ≡ Err (Lost at) → IsBad observed first now stream at
  pub unsaid : r ≡ Err Unsaid → observed → SaysFront first now (on 0 (packed stream))

pub in_stream : (observed : Type 0) (first now : List Call) (stream bytes left into new : List ℕ) (room count : ℕ) (r : Result (Unit {0}) Stop) (decoder : Decoding)
    → stream ≡ bytes ++ left → left ≡ take count into ++ new → room ≤ count → count ≤ length into → PieceEnds observed first now (bytes ++ take room into) r decoder
    → InStream observed first now stream r
in_stream observed first now stream bytes left into new room count r decoder text next most there ends =
    subst (λ (l : List ℕ). InStream observed first now l r) (sym (read_text stream bytes left into new room count text next most there)) (go r ends)
  where
    more : List ℕ
    more = drop room (take count into) ++ new

    go : (r : Result (Unit {0}) Stop) → PieceEnds observed first now (bytes ++ take room into) r decoder → InStream observed first now ((bytes ++ take room into) ++ more) r
    go (Ok _) ends = record { lost = λ at is. absurd (cc is); unsaid = λ is. absurd (cc is) }
    go (Err (Lost place)) ends = record { lost = λ at is. subst (IsBad observed first now ((bytes ++ take room into) ++ more)) (cc is) (ends more); unsaid = λ is. absurd (cc is) }
    go (Err Unsaid) ends = record { lost = λ at is. absurd (cc is); unsaid = λ is. ends more }

pub piece_files : (observed : Type 0) (first now : List Call) (bytes : List ℕ) (r : Result (Unit {0}) Stop) (decoder : Decoding) → PieceEnds observed first now bytes r decoder → observed
    → SameFiles first now
piece_files observed first now bytes (Ok _) decoder ends t = (ends.holds.said t).files
piece_files observed first now bytes (Err (Lost at)) decoder ends t = ((ends []).said t).files
piece_files observed first now bytes (Err Unsaid) decoder ends t = (ends [] t).said.files

pub past_stream : (observed : Type 0) (first now : List Call) (stream bytes left into new : List ℕ) (room count : ℕ) (decoder : Decoding)
    → stream ≡ bytes ++ left → left ≡ take count into ++ new → room < count → count ≤ length into → length (bytes ++ take room into) ≡ LONGEST_STREAM
    → Stands observed first now (bytes ++ take room into) decoder → IsBad observed first now stream LONGEST_STREAM
past_stream observed first now stream bytes left into new room count decoder text next past there long stands =
    subst (λ (l : List ℕ). IsBad observed first now l LONGEST_STREAM) (sym (read_text stream bytes left into new room count text next (omega (arith, past)) there))
    (goes_past observed first now (bytes ++ take room into) (drop room (take count into) ++ new) stands.held stands.holds long
    (omega (arith, length-append (drop room (take count into)) new, length-drop room (take count into), length-take-le count into there, past)))
