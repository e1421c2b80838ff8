use Rattle.gts_count.proofs.Cited.{◌≡◌, ℕ, ◌+◌, ◌≤◌, List, length, get_or, take, drop, refl, sym, ap, subst, ◌∙◌, arith, true≢false, get_or_from_slice_get, NotesDraw, has_row, key_of_frame}
use Rattle.gts_count.proofs.counting.draw.Goals as goal
use Rattle.gts_count.proofs.counting.draw.Goals.{else-there-via-then-there+else-has_row, else-there-via-else-there}

-- the digits that were read, and the key behind them
same_key : (w v : ℕ) (frame key : List ℕ) → v ≡ w → 28 + w ≤ length frame → (17 + v + 11 ≤ length frame → key ≡ take 11 (drop (17 + v) frame)) → key ≡ key_of_frame w frame
same_key w v frame key same long read = read (omega (arith, same, long)) ∙ ap (λ (x : ℕ). key_of_frame x frame) same

pub returns-then-has_row : goal.returns-then-has_row
returns-then-has_row c = record {
  rest = record { centre = refl; digits = refl; current = refl };
  sound = c.note_drawn.ensures.sound;
  noted = λ w e inside long has.
      let same : c.in-Some.digits.now ≡ w = c.in-Some.ensures.lookup.1 ∙ ap (λ (xs : List ℕ). get_or xs c.args.c c.in-Some.digits.now) c.deref.ensures.value ∙ get_or_from_slice_get c.args.counting.now.digits.items c.args.c w c.in-Some.digits.now e in
      let key : c.key_in-key.result ≡ key_of_frame w c.args.frame.now = same_key w c.in-Some.digits.now c.args.frame.now c.key_in-key.result same long c.key_in-key.ensures in
      let P : List ℕ → Type 0 = λ k. NotesDraw c.args.counting.now.numbers c.note_drawn.new.self c.args.c k in
      subst P key (record { sound = c.note_drawn.ensures.sound; drawn = c.note_drawn.ensures.drawn; recent = c.note_drawn.ensures.recent; rows = c.note_drawn.ensures.rows; came = c.note_drawn.ensures.came });
}

pub returns-else-there : goal.returns-else-there
returns-else-there c = record {
  rest = record { centre = refl; digits = refl; current = refl };
  sound = c.requires;
  noted = λ w e inside long has.
      let same : c.in-Some.digits.now ≡ w = c.in-Some.ensures.lookup.1 ∙ ap (λ (xs : List ℕ). get_or xs c.args.c c.in-Some.digits.now) c.deref.ensures.value ∙ get_or_from_slice_get c.args.counting.now.digits.items c.args.c w c.in-Some.digits.now e in
      let key : c.key_in-key.result ≡ key_of_frame w c.args.frame.now = same_key w c.in-Some.digits.now c.args.frame.now c.key_in-key.result same long c.key_in-key.ensures in
      elim c.else-there.branch [
        | else-there-via-then-there+else-has_row b ↦
            absurd (true≢false (sym has ∙ ap (has_row c.args.counting.now.numbers.rows) (sym key) ∙ sym b.has_row.ensures ∙ b.if-has_row.false))
        | else-there-via-else-there b ↦ absurd (omega (arith, inside, c.len.ensures, b.if-there.false))
      ];
}
