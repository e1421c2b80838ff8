-- A head that is read is there, and is refused only where no head stands.
use Rattle.gts_replay.proofs.Cited.{◌≡◌, ℕ, ◌<◌, ◌≤◌, ◌==◌, Bool, true, false, List, [], ◌∷◌, ◌++◌, get_or, drop, Result, Ok, Err, refl, sym, ap, subst, ◌∙◌, arith, if◌then◌else◌, nat_lt, ◌&&◌, ◌||◌, false≢true, eqb-true, lt-ltb, ltb-true, BeginsWithHead, CaptureKind, End, IsHeadIn, IsStop, Journaled, Stop, Traffic, behind_letter, byte_where, circuit_at, dec, end_at, has_journal, head_at, head_text, is_letter, size_at, head_of, ◌>>=◌, common_steps}
use Rattle.gts_replay.specs.declared.head.Head.TheVariants.{Compact, Drain, Feed, Reopen, Restart, Take}
use Rattle.gts_replay.specs.declared.head.Head.{Head}
use Rattle.gts_connection.specs.Capture as capture
use Rattle.gts_replay.proofs.HeadFieldLemmas.{Texts, Meets, meets_same, ByteThen, on_byte, CircuitThen, on_circuit, SizeThen, on_size, Ended, some_ended, on_end}

-- ---- heads by their first byte

abbrev HeadText : ℕ → CaptureKind → Texts
HeadText circuits kind h t = IsHeadIn circuits kind (head_of h) × (head_text (head_of h) ≡ t)

abbrev Behind : ℕ → CaptureKind → ℕ → Texts
Behind circuits kind byte h t = HeadText circuits kind h (byte ∷ t)

feed_to : (circuits : ℕ) (kind : CaptureKind) (h : Head) (t : List ℕ) → CircuitThen circuits (λ c. SizeThen (λ n. Ended (Feed c n))) h t → Behind circuits kind 70 h t
unfolding dec
feed_to circuits kind h t w = grind (arith, common_steps)

feed_from : (circuits : ℕ) (kind : CaptureKind) (h : Head) (t : List ℕ) → Behind circuits kind 70 h t → CircuitThen circuits (λ c. SizeThen (λ n. Ended (Feed c n))) h t
unfolding dec
feed_from circuits kind (Feed c n) t w = (c, 32 ∷ (dec 6 n ++ 10 ∷ []), w.0.0, sym (ap (λ (xs : List ℕ). drop 1 xs) w.1), (n, 10 ∷ [], w.0.1, refl, (refl, refl)))
feed_from circuits kind h t w = absurd (omega (arith, ap (λ (xs : List ℕ). get_or xs 0 0) w.1))

take_to : (circuits : ℕ) (kind : CaptureKind) (h : Head) (t : List ℕ) → CircuitThen circuits (λ c. Ended (Take c)) h t → Behind circuits kind 84 h t
unfolding dec
take_to circuits kind h t w = grind (arith, common_steps)

take_from : (circuits : ℕ) (kind : CaptureKind) (h : Head) (t : List ℕ) → Behind circuits kind 84 h t → CircuitThen circuits (λ c. Ended (Take c)) h t
unfolding dec
take_from circuits kind (Take c) t w = (c, 10 ∷ [], w.0, sym (ap (λ (xs : List ℕ). drop 1 xs) w.1), (refl, refl))
take_from circuits kind h t w = absurd (omega (arith, ap (λ (xs : List ℕ). get_or xs 0 0) w.1))

reopen_to : (circuits : ℕ) (kind : CaptureKind) (h : Head) (t : List ℕ) → CircuitThen circuits (λ c. Ended (Reopen c)) h t → Behind circuits kind 79 h t
unfolding dec
reopen_to circuits kind h t w = grind (arith, common_steps)

reopen_from : (circuits : ℕ) (kind : CaptureKind) (h : Head) (t : List ℕ) → Behind circuits kind 79 h t → CircuitThen circuits (λ c. Ended (Reopen c)) h t
unfolding dec
reopen_from circuits kind (Reopen c) t w = (c, 10 ∷ [], w.0, sym (ap (λ (xs : List ℕ). drop 1 xs) w.1), (refl, refl))
reopen_from circuits kind h t w = absurd (omega (arith, ap (λ (xs : List ℕ). get_or xs 0 0) w.1))

drain_to : (circuits : ℕ) (kind : CaptureKind) (h : Head) (t : List ℕ) → CircuitThen circuits (λ c. Ended (Drain c)) h t → Behind circuits kind 68 h t
unfolding dec
drain_to circuits kind h t w = grind (arith, common_steps)

drain_from : (circuits : ℕ) (kind : CaptureKind) (h : Head) (t : List ℕ) → Behind circuits kind 68 h t → CircuitThen circuits (λ c. Ended (Drain c)) h t
unfolding dec
drain_from circuits kind (Drain c) t w = (c, 10 ∷ [], w.0, sym (ap (λ (xs : List ℕ). drop 1 xs) w.1), (refl, refl))
drain_from circuits kind h t w = absurd (omega (arith, ap (λ (xs : List ℕ). get_or xs 0 0) w.1))

restart_from : (circuits : ℕ) (kind : CaptureKind) (h : Head) (t : List ℕ) → Behind circuits kind 82 h t → Ended Restart h t
unfolding dec
restart_from circuits kind Restart t w = (refl, sym (ap (λ (xs : List ℕ). drop 1 xs) w.1))
restart_from circuits kind h t w = absurd (omega (arith, ap (λ (xs : List ℕ). get_or xs 0 0) w.1))

compact_from : (circuits : ℕ) (kind : CaptureKind) (h : Head) (t : List ℕ) → Behind circuits kind 67 h t → Ended Compact h t
unfolding dec
compact_from circuits kind Compact t w = (refl, sym (ap (λ (xs : List ℕ). drop 1 xs) w.1))
compact_from circuits kind h t w = absurd (omega (arith, ap (λ (xs : List ℕ). get_or xs 0 0) w.1))

end_from : (circuits : ℕ) (kind : CaptureKind) (h : Head) (t : List ℕ) → Behind circuits kind 69 h t → Ended End h t
unfolding dec
end_from circuits kind End t w = (refl, sym (ap (λ (xs : List ℕ). drop 1 xs) w.1))
end_from circuits kind h t w = absurd (omega (arith, ap (λ (xs : List ℕ). get_or xs 0 0) w.1))

-- ---- what a first byte says

abbrev letter_test : Bool → Bool → Bool → Bool → Bool → Bool
letter_test some journal circuit of_journal end = (some && circuit || journal && of_journal) || end

some_circuits : (some journal : Bool) → letter_test some journal true false false ≡ true → some ≡ true
some_circuits true journal e = refl
some_circuits false true e = absurd (false≢true e)
some_circuits false false e = absurd (false≢true e)

journaled : (some : Bool) (kind : CaptureKind) → letter_test some (has_journal kind) false true false ≡ true → kind ≡ Journaled
journaled some Journaled e = refl
journaled true Traffic e = absurd (false≢true e)
journaled false Traffic e = absurd (false≢true e)

no_letter : (some journal : Bool) → letter_test some journal false false false ≡ true → ⊥
no_letter true true e = false≢true e
no_letter true false e = false≢true e
no_letter false true e = false≢true e
no_letter false false e = false≢true e

circuit_letter : (some journal : Bool) → some ≡ true → letter_test some journal true false false ≡ true
circuit_letter true journal e = refl
circuit_letter false journal e = absurd (false≢true e)

journal_letter : (some : Bool) (kind : CaptureKind) → kind ≡ Journaled → letter_test some (has_journal kind) false true false ≡ true
journal_letter true Journaled e = refl
journal_letter false Journaled e = refl
journal_letter some Traffic e = absurd (cc)

end_letter : (some journal : Bool) → letter_test some journal false false true ≡ true
end_letter true true = refl
end_letter true false = refl
end_letter false true = refl
end_letter false false = refl

-- ---- a head

-- what is read behind a first byte
abbrev ReadBehind : ℕ → ℕ × List ℕ → (t70 t84 t79 t68 t82 t67 : Bool) → Result (Head × List ℕ) Stop
ReadBehind circuits first t70 t84 t79 t68 t82 t67 =
    if t70 then circuit_at circuits first.1 >>= (λ c. size_at c.1 >>= (λ size. end_at (Feed c.0 size.0) size.1))
    else if t84 then circuit_at circuits first.1 >>= (λ c. end_at (Take c.0) c.1)
    else if t79 then circuit_at circuits first.1 >>= (λ c. end_at (Reopen c.0) c.1)
    else if t68 then circuit_at circuits first.1 >>= (λ c. end_at (Drain c.0) c.1)
    else if t82 then end_at Restart first.1
    else if t67 then end_at Compact first.1 else end_at End first.1

letter_read : (circuits : ℕ) (kind : CaptureKind) (b : ℕ) (rest : List ℕ) → circuits ≤ 100 → is_letter circuits kind b ≡ true → Meets (Behind circuits kind b) rest (behind_letter circuits (b, rest))
unfolding behind_letter
letter_read circuits kind b rest few letter = go (b == 70) (b == 84) (b == 79) (b == 68) (b == 82) (b == 67) (b == 69) refl refl refl refl refl refl refl letter
  where
    some : Bool
    some = nat_lt 0 circuits

    at_letter : (x : ℕ) → (b == x) ≡ true → is_letter circuits kind x ≡ true
    at_letter x e = subst (λ (y : ℕ). is_letter circuits kind y ≡ true) (eqb-true b x e) letter

    at_byte : (x : ℕ) (r : Result (Head × List ℕ) Stop) → (b == x) ≡ true → Meets (Behind circuits kind x) rest r → Meets (Behind circuits kind b) rest r
    at_byte x r e h = subst (λ (y : ℕ). Meets (Behind circuits kind y) rest r) (sym (eqb-true b x e)) h

    positive : is_letter circuits kind 70 ≡ true → 0 < circuits
    positive e = ltb-true 0 circuits (some_circuits (nat_lt 0 circuits) (has_journal kind) e)

    one_circuit : (x : ℕ) (make : ℕ → Head) → 0 < circuits → ((h : Head) (t : List ℕ) → CircuitThen circuits (λ c. Ended (make c)) h t → Behind circuits kind x h t)
        → ((h : Head) (t : List ℕ) → Behind circuits kind x h t → CircuitThen circuits (λ c. Ended (make c)) h t)
        → Meets (Behind circuits kind x) rest (circuit_at circuits rest >>= λ c. end_at (make c.0) c.1)
    one_circuit x make positive to from =
        meets_same (CircuitThen circuits (λ c. Ended (make c))) (Behind circuits kind x) rest (circuit_at circuits rest >>= λ c. end_at (make c.0) c.1) to from
        (on_circuit circuits (λ c. Ended (make c)) rest (λ c. end_at (make c.0) c.1) positive few (λ c. some_ended (make c)) (λ c more _. on_end (make c) more))

    feed : 0 < circuits → Meets (Behind circuits kind 70) rest (circuit_at circuits rest >>= (λ c. size_at c.1 >>= (λ size. end_at (Feed c.0 size.0) size.1)))
    feed positive =
        let K : ℕ → Texts = λ c. SizeThen (λ n. Ended (Feed c n)) in
        let k : ℕ × List ℕ → Result (Head × List ℕ) Stop = λ c. size_at c.1 >>= (λ size. end_at (Feed c.0 size.0) size.1) in
        meets_same (CircuitThen circuits K) (Behind circuits kind 70) rest (circuit_at circuits rest >>= k) (feed_to circuits kind) (feed_from circuits kind)
        (on_circuit circuits K rest k positive few (λ c. (Feed c 0, 32 ∷ (dec 6 0 ++ 10 ∷ []), (0, 10 ∷ [], omega arith, refl, (refl, refl))))
        (λ c more _. on_size (λ n. Ended (Feed c n)) more (λ size. end_at (Feed c size.0) size.1) (λ n. some_ended (Feed c n)) (λ n last. on_end (Feed c n) last)))

    fixed : (x : ℕ) (head : Head) → HeadText circuits kind head (x ∷ (10 ∷ [])) → ((h : Head) (t : List ℕ) → Behind circuits kind x h t → Ended head h t)
        → Meets (Behind circuits kind x) rest (end_at head rest)
    fixed x head text from =
        let to : (h : Head) (t : List ℕ) → Ended head h t → Behind circuits kind x h t = λ h t w.
        let P : Head → List ℕ → Type 0 = λ y ys. HeadText circuits kind y (x ∷ ys) in
        subst (λ (y : Head). P y t) (sym w.0) (subst (λ (ys : List ℕ). P head ys) (sym w.1) text) in
        meets_same (Ended head) (Behind circuits kind x) rest (end_at head rest) to from (on_end head rest)

    go : (t70 t84 t79 t68 t82 t67 t69 : Bool) → (b == 70) ≡ t70 → (b == 84) ≡ t84 → (b == 79) ≡ t79 → (b == 68) ≡ t68 → (b == 82) ≡ t82 → (b == 67) ≡ t67 → (b == 69) ≡ t69
        → letter_test (nat_lt 0 circuits) (has_journal kind) (((t70 || t84) || t79) || t68) (t82 || t67) t69 ≡ true
        → Meets (Behind circuits kind b) rest (ReadBehind circuits (b, rest) t70 t84 t79 t68 t82 t67)
    go true t84 t79 t68 t82 t67 t69 e _ _ _ _ _ _ _ = at_byte 70 _ e (feed (positive (at_letter 70 e)))
    go false true t79 t68 t82 t67 t69 _ e _ _ _ _ _ _ = at_byte 84 _ e (one_circuit 84 Take (positive (at_letter 84 e)) (take_to circuits kind) (take_from circuits kind))
    go false false true t68 t82 t67 t69 _ _ e _ _ _ _ _ = at_byte 79 _ e (one_circuit 79 Reopen (positive (at_letter 79 e)) (reopen_to circuits kind) (reopen_from circuits kind))
    go false false false true t82 t67 t69 _ _ _ e _ _ _ _ = at_byte 68 _ e (one_circuit 68 Drain (positive (at_letter 68 e)) (drain_to circuits kind) (drain_from circuits kind))
    go false false false false true t67 t69 _ _ _ _ e _ _ _ = at_byte 82 _ e (fixed 82 Restart (journaled (nat_lt 0 circuits) kind (at_letter 82 e), refl) (restart_from circuits kind))
    go false false false false false true t69 _ _ _ _ _ e _ _ = at_byte 67 _ e (fixed 67 Compact (journaled (nat_lt 0 circuits) kind (at_letter 67 e), refl) (compact_from circuits kind))
    go false false false false false false true _ _ _ _ _ _ e _ = at_byte 69 _ e (fixed 69 End (tt, refl) (end_from circuits kind))
    go false false false false false false false _ _ _ _ _ _ _ h = absurd (no_letter (nat_lt 0 circuits) (has_journal kind) h)

abbrev ByLetter : ℕ → CaptureKind → Texts
ByLetter circuits kind = ByteThen (is_letter circuits kind) (λ b. Behind circuits kind b)

letter_to : (circuits : ℕ) (kind : CaptureKind) (h : Head) (t : List ℕ) → ByLetter circuits kind h t → HeadText circuits kind h t
letter_to circuits kind h t w = (w.4.0, w.4.1 ∙ sym w.2)

letter_from : (circuits : ℕ) (kind : CaptureKind) (h : Head) (t : List ℕ) → HeadText circuits kind h t → ByLetter circuits kind h t
unfolding dec
letter_from circuits kind (Feed c n) t w = (70, drop 1 (head_text (head_of (Feed c n))), sym w.1, circuit_letter (nat_lt 0 circuits) (has_journal kind) (lt-ltb 0 circuits (omega (arith, w.0.0))), (w.0, refl))
letter_from circuits kind (Take c) t w = (84, drop 1 (head_text (head_of (Take c))), sym w.1, circuit_letter (nat_lt 0 circuits) (has_journal kind) (lt-ltb 0 circuits (omega (arith, w.0))), (w.0, refl))
letter_from circuits kind (Reopen c) t w = (79, drop 1 (head_text (head_of (Reopen c))), sym w.1, circuit_letter (nat_lt 0 circuits) (has_journal kind) (lt-ltb 0 circuits (omega (arith, w.0))), (w.0, refl))
letter_from circuits kind (Drain c) t w = (68, drop 1 (head_text (head_of (Drain c))), sym w.1, circuit_letter (nat_lt 0 circuits) (has_journal kind) (lt-ltb 0 circuits (omega (arith, w.0))), (w.0, refl))
letter_from circuits kind Restart t w = (82, 10 ∷ [], sym w.1, journal_letter (nat_lt 0 circuits) kind w.0, (w.0, refl))
letter_from circuits kind Compact t w = (67, 10 ∷ [], sym w.1, journal_letter (nat_lt 0 circuits) kind w.0, (w.0, refl))
letter_from circuits kind End t w = (69, 10 ∷ [], sym w.1, end_letter (nat_lt 0 circuits) (has_journal kind), (w.0, refl))

-- what is read at the front of any bytes
head_meets : (circuits : ℕ) (kind : CaptureKind) (bytes : List ℕ) → circuits ≤ 100 → Meets (HeadText circuits kind) bytes (head_at circuits kind bytes)
unfolding head_at
head_meets circuits kind bytes few =
    meets_same (ByLetter circuits kind) (HeadText circuits kind) bytes (byte_where (is_letter circuits kind) bytes >>= behind_letter circuits) (letter_to circuits kind) (letter_from circuits kind)
    (on_byte (is_letter circuits kind) (λ b. Behind circuits kind b) bytes (behind_letter circuits) (End, 69 ∷ 10 ∷ [], (69, 10 ∷ [], refl, end_letter (nat_lt 0 circuits) (has_journal kind), (tt, refl)))
    (λ b rest e. letter_read circuits kind b rest few e))

-- ---- what a reading at the front says

program_head : capture.Head → Head
program_head (capture.FeedHead c n) = Feed c n
program_head (capture.TakeHead c) = Take c
program_head (capture.ReopenHead c) = Reopen c
program_head (capture.DrainHead c) = Drain c
program_head capture.RestartHead = Restart
program_head capture.CompactHead = Compact
program_head capture.EndHead = End

same_head : (circuits : ℕ) (kind : CaptureKind) (h : capture.Head) → IsHeadIn circuits kind h → head_of (program_head h) ≡ h
unfolding program_head
same_head circuits kind (capture.FeedHead c n) valid = refl
same_head circuits kind h valid = refl

pub head_found : (circuits : ℕ) (kind : CaptureKind) (bytes : List ℕ) (head : Head) (rest : List ℕ) → circuits ≤ 100 → head_at circuits kind bytes ≡ Ok (head, rest)
    → BeginsWithHead circuits kind bytes head rest
head_found circuits kind bytes head rest few e = grind (arith, common_steps, head_meets)

pub head_stops : (circuits : ℕ) (kind : CaptureKind) (bytes : List ℕ) (stop : Stop) → circuits ≤ 100 → head_at circuits kind bytes ≡ Err stop → IsStop circuits kind bytes stop
head_stops circuits kind bytes stop few e = grind (arith, common_steps, head_meets, same_head)
