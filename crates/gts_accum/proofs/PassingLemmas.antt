-- What calls make of a file whose source is observed, one after another.
use Rattle.gts_accum.proofs.Cited.{◌≡◌, ◌+◌, ◌-◌, ◌^◌, if◌then◌else◌, ◌≤◌, List, ℕ, [], ◌∷◌, ◌++◌, length, take, Bool, true, false, Result, Ok, Err, refl, sym, ap, subst, ◌∙◌, append_assoc, append-nil, common_steps, arith, length-append, Ahead, Covers, Format, Gives, HasCause, Head, IsLeft, IsNext, KeepsFailed, MOST_DUE, LONGEST_FILE, Next, Passes, Rest, Takes, UnpackedParts, Unpacking, ahead, ahead_of, back_of, behind, capture_left, captured, due, entry_rest, given_by, left_ahead, reading, reading_from, rest_of, unpacking_of}
use borrow.Rule.Slice.PartMut.{put_mid}
use Rattle.std.proofs.lemmas.Slice.{take-put_mid_below}
use Rattle.gts_replay.proofs.HeldLemmas.{filled}
use Rattle.gts_accum.specs.Traced.{IsSince, whether_failed}
use Rattle.gts_traits.specs.Cited.{Rose}
use Rattle.gts_accum.specs.declared.next.Next.TheVariants.{Entry}
use Rattle.gts_accum.proofs.UnpackingLemmas.{ahead-entry, entry_reads, entry-done, given-all, with_bad}

no-front : (xs ys : List ℕ) → xs ++ ys ≡ [] → (xs ≡ []) × (ys ≡ [])
no-front [] ys e = (refl, e)
no-front (x ∷ xs) ys e = absurd (cc)

-- no more is left behind a read than before it
pub takes_shorter : {E : Type 0} (result : Result ℕ E) (old new into : List ℕ) → Takes result old new into → length new ≤ length old
takes_shorter (Ok count) old new into is = omega (arith, ap length is.0, length-append (take count into) new)
takes_shorter (Err e) old new into is = omega (arith, ap length is)

behind-both : (g h : List ℕ) (x : Rest) → behind g (behind h x) ≡ behind (g ++ h) x
behind-both g h x = ap (λ (t : List ℕ). with_bad t x.bad) (sym (append_assoc g h x.text))

-- ---- a source that is read ahead, and may fail

rose_later : (before mid now : ℕ) → before ≤ mid → Rose mid now → Rose before now
rose_later before mid now le rose = grind (arith, common_steps)

rose_last : (before now : ℕ) → now ≡ 2 ^ 64 - 1 → Rose before now
rose_last before now last = grind (arith, common_steps)

at_most : (f : Bool) → (if f then 2 ^ 64 - 1 else 0) ≤ 2 ^ 64 - 1
at_most true = omega arith
at_most false = omega arith

-- behind a read the count of failures is as before, or nothing is held
pub since-on : {S T E : Type 0} (faults : S → ℕ) (before : ℕ) (result : Result T E) (old new : Ahead S) → IsSince faults before old → KeepsFailed result old new
    → HasCause result (faults old.source) (faults new.source) → IsSince faults before new
since-on faults before (Ok x) old new u keeps cause = record {
  later = omega (arith, u.later, cause.later);
  still = λ e. cause.sound ∙ u.still (sym keeps.same ∙ e);
  rose = λ e.
      let rose = u.rose (sym keeps.same ∙ e) in
      omega (arith, rose, cause.later);
}
since-on faults before (Err x) old new u keeps cause = record {
  later = omega (arith, u.later, cause.later);
  still = λ e.
      let failed : new.failed ≡ true = keeps.fails refl in
      absurd (cc);
  rose = λ e. rose_later before (faults old.source) (faults new.source) u.later (cause.failed refl);
}

-- where it failed, all that was taken is in what was given, but for what is due
pub left-behind : {S : Type 0} (left : S → List ℕ) (file : List ℕ) (c : ℕ) (u : Unpacking (Ahead S)) → Covers (left_ahead left) file c u → u.source.held ≡ []
    → length (due u) ≤ MOST_DUE → IsLeft file (left u.source.source) c (capture_left (left_ahead left) u)
left-behind left file c u k none short = record {
  taken = k.taken;
  given = k.given;
  due = due u;
  read = k.text ∙ ap (λ (l : List ℕ). k.taken ++ (l ++ left u.source.source)) none;
  capture = ap (λ (l : List ℕ). captured l c) k.text ∙ ap (λ (x : Rest). x.text) (k.rest (left_ahead left u.source) (λ e. e));
  part = ap (λ (l : List ℕ). captured l c) (sym (append-nil k.taken)) ∙ ap (λ (x : Rest). x.text) (k.rest [] (λ e. refl));
  short = short;
}

-- whether it has failed, as a count
pub cause-whether : {S T E : Type 0} (result : Result T E) (old new : Ahead S) → KeepsFailed result old new → HasCause result (whether_failed old) (whether_failed new)
cause-whether (Ok x) old new keeps =
    let same : whether_failed new ≡ whether_failed old = ap (λ (f : Bool). if f then 2 ^ 64 - 1 else 0) keeps.same in
    record { later = omega (arith, same); failed = λ e. absurd (cc); sound = same }
cause-whether (Err x) old new keeps =
    let last : whether_failed new ≡ 2 ^ 64 - 1 = ap (λ (f : Bool). if f then 2 ^ 64 - 1 else 0) (keeps.fails refl) in
    record { later = omega (arith, last, at_most old.failed); failed = λ e. rose_last (whether_failed old) (whether_failed new) last; sound = tt }

module _ {S : Type 0} (left : S → List ℕ) where
  -- one after another
  pub passes-both : (a b c : Unpacking S) (g h : List ℕ) → Passes left a b g → Passes left b c h → Passes left a c (g ++ h)
  passes-both a b c g h first second = record {
    taken = first.taken ++ second.taken;
    text = first.text ∙ ap (λ (l : List ℕ). first.taken ++ l) second.text ∙ sym (append_assoc first.taken second.taken (left c.source));
    rest = λ more none.
        let later : left b.source ≡ [] → second.taken ++ more ≡ [] = λ e.
        let parts = no-front second.taken (left c.source) (sym second.text ∙ e) in
        ap (λ (l : List ℕ). l ++ more) parts.0 ∙ none parts.1 in
        ap (ahead_of a) (append_assoc first.taken second.taken more) ∙ first.rest (second.taken ++ more) later ∙ ap (behind g) (second.rest more none)
        ∙ behind-both g h (ahead_of c more);
  }

  pub passes-then : (a b c : Unpacking S) (given : List ℕ) → Passes left a b [] → Passes left b c given → Passes left a c given
  passes-then a b c given first second = passes-both a b c [] given first second

  -- at the end of the file
  pub passes-end : (a b : Unpacking S) → left a.source ≡ [] → left b.source ≡ [] → ahead left b ≡ ahead left a → Passes left a b []
  passes-end a b none now same = record {
    taken = [];
    text = none ∙ sym now;
    rest = λ more end.
        let nothing : more ≡ [] = end now in
        ap (ahead_of a) (nothing ∙ sym none) ∙ sym same ∙ ap (ahead_of b) (now ∙ sym nothing);
  }

  -- what was made is given, and nothing is read
  pub passes-given : (a b : Unpacking S) (given : List ℕ) → b.source ≡ a.source → ((more : List ℕ) → ahead_of a more ≡ behind given (ahead_of b more))
      → Passes left a b given
  passes-given a b given same goes = record { taken = []; text = ap left (sym same); rest = λ more _. goes more }

  -- ---- a file from its first byte on

  pub covers-fresh : (file : List ℕ) (c : ℕ) (u : Unpacking S) → left u.source ≡ file
      → ((more : List ℕ) → ahead_of u more ≡ rest_of c (reading more)) → Covers left file c u
  covers-fresh file c u whole fresh = record { taken = []; given = []; text = sym whole; rest = λ more _. sym (fresh more) }

  pub covers-on : (file : List ℕ) (c : ℕ) (a b : Unpacking S) (g : List ℕ) → Covers left file c a → Passes left a b g → Covers left file c b
  covers-on file c a b g k p = record {
    taken = k.taken ++ p.taken;
    given = k.given ++ g;
    text = k.text ∙ ap (λ (l : List ℕ). k.taken ++ l) p.text ∙ sym (append_assoc k.taken p.taken (left b.source));
    rest = λ more none.
        let later : left a.source ≡ [] → p.taken ++ more ≡ [] = λ e.
        let parts = no-front p.taken (left b.source) (sym p.text ∙ e) in
        ap (λ (l : List ℕ). l ++ more) parts.0 ∙ none parts.1 in
        ap (λ (l : List ℕ). rest_of c (reading l)) (append_assoc k.taken p.taken more) ∙ k.rest (p.taken ++ more) later
        ∙ ap (behind k.given) (p.rest more none) ∙ behind-both k.given g (ahead_of b more);
  }

  -- ---- the bytes of an entry

  -- what a call leaves of a capture, and so of one whose source has this left
  pub gives-by : (a b : Unpacking S) (given : List ℕ) → Passes left a b given → ahead left a ≡ behind given (ahead left b)
  gives-by a b given p = ap (ahead_of a) p.text ∙ p.rest (left b.source) (λ e. e)

  -- a piece that is read behind the first bytes of a buffer
  pub passes-filled : (a b c : Unpacking S) (at n k : ℕ) (into more : List ℕ) → Passes left a b (take at into) → Passes left b c (take n more)
      → at ≤ length into → n ≤ length more → Passes left a c (take (at + n) (put_mid at k into more))
  passes-filled a b c at n k into more first second within few =
      let P : List ℕ → Type 0 = λ given. Passes left a c given in
      subst P (sym (filled at k n into more within few)) (passes-both a b c (take at into) (take n more) first second)

  -- and one that is empty
  pub passes-none : (a b c : Unpacking S) (at n k : ℕ) (into more : List ℕ) → Passes left a b (take at into) → Passes left b c (take n more)
      → at ≤ length into → n ≡ 0 → Passes left a c (take at (put_mid at k into more))
  passes-none a b c at n k into more first second within none =
      let P : List ℕ → Type 0 = λ given. Passes left a c given in
      let Q : List ℕ → Type 0 = λ given. Passes left b c given in
      let nothing : take n more ≡ [] = ap (λ (m : ℕ). take m more) none in
      subst P (append-nil (take at into) ∙ sym (take-put_mid_below at k into more at (omega arith) within))
      (passes-both a b c (take at into) [] first (subst Q nothing second))

  pub gives-of : {E : Type 0} (result : Result ℕ E) (a b : Unpacking S) (into : List ℕ) → Passes left a b (given_by result into)
      → Gives result (ahead left a) (ahead left b) into
  gives-of (Ok count) a b into p = gives-by a b (take count into) p
  gives-of (Err e) a b into p = sym (gives-by a b [] p)

  module _ (old : UnpackedParts S) (format : Format) (size count : ℕ) (into tail : List ℕ) (source : S) (next : old.next ≡ Entry format size)
      (given : old.given ≡ length old.made) (there : count ≤ length into) (few : count ≤ size) (place : old.at + count ≤ LONGEST_FILE)
      (text : left old.source ≡ take count into ++ left source) where
    passed : (now : UnpackedParts S) → source ≡ now.source
        → ((more : List ℕ) → entry_rest old.circuit format (size - count) (old.at + count) more ≡ ahead_of (unpacking_of now) more)
        → Passes left (unpacking_of old) (unpacking_of now) (take count (into ++ tail))
    passed now same goes = record {
      taken = take count into;
      text = text ∙ ap (λ (s : S). take count into ++ left s) same;
      rest = λ more _.
          ahead-entry (λ _. take count into ++ more) (unpacking_of old) format size next
          ∙ given-all old.made old.given (entry_rest old.circuit format size old.at (take count into ++ more)) given
          ∙ entry_reads old.circuit format size old.at count into tail (take count into ++ more) more there few place refl
          ∙ ap (behind (take count (into ++ tail))) (goes more);
    }

    -- more of it are to come
    pub passes-more : let now : UnpackedParts S = record old { source = source; at = old.at + count; next = Entry format (size - count) } in
        Passes left (unpacking_of old) (unpacking_of now) (take count (into ++ tail))
    passes-more =
        passed (record old { source = source; at = old.at + count; next = Entry format (size - count) }) refl (λ more. sym (given-all old.made old.given _ given))

    -- they were its last
    pub passes-last : (now : UnpackedParts S) (piece : List ℕ) → size - count ≡ 0 → IsNext old.next old.at (take old.held old.head) → piece ≡ back_of format
        → now ≡ record old { source = source; at = old.at + count; next = Head; made = piece; given = 0 }
        → Passes left (unpacking_of old) (unpacking_of now) (take count (into ++ tail))
    passes-last now piece all sound closes is =
        let held : List ℕ = take old.held old.head in
        let entry : IsNext (Entry format size) old.at held = subst (λ (n : Next). IsNext n old.at held) next sound in
        rw is (passed (record old { source = source; at = old.at + count; next = Head; made = piece; given = 0 }) refl (λ more.
        ap (λ (n : ℕ). entry_rest old.circuit format n (old.at + count) more) all ∙ entry-done old.circuit format (old.at + count) more
        ∙ ap (λ (l : List ℕ). behind (back_of format) (rest_of old.circuit (reading_from (old.at + count) (l ++ more)))) (sym entry.1)
        ∙ ap (λ (l : List ℕ). behind l (rest_of old.circuit (reading_from (old.at + count) (held ++ more)))) (sym closes)))
