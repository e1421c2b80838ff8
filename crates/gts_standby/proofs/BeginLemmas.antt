-- A journal without records begins with the checkpoint of a feed.
use Rattle.gts_standby.proofs.Cited.{◌≡◌, ◌≢◌, ◌⊎◌, inl, inr, ℕ, ◌+◌, ◌-◌, ◌^◌, ◌<◌, true, List, [], length, Ok, refl, sym, ap, subst, ◌∙◌, arith, cases_eq, append-nil, Call, Directory, EachSince, Files, FitsLimit, HasWritten, HoldsState, InHand, LeavesBoth, LeavesOthers, Need, Outside, ReadsToOneOf, StandsFor, StandsOn, State, Version, WorksBeside, begun, closed_gate, compacted_bytes, file_opens, files_read, is_sound, need_seal, read_anew, read_at, said_by, seen, selected, selecting, unowed, written, weaker, joined, file_opens-checkpoint, selected_few, selected_stands, both_left, same_stands_for, common_steps}

-- ---- what a crash leaves

module _ (d : Directory) (s : State) (n : Need) (calls : List Call) (j : InHand) (f : StandsFor d s calls j) (low : j.file < 2) where
  -- the other file
  abbrev other : ℕ
  other = 1 - j.file

  not_other : j.file ≢ other
  not_other e = omega (arith, e, low)

  not_selector : 2 ≢ other
  not_selector e = omega (arith, e, low)

  file_here : file_opens written d j.file (seen calls j.file) ≡ Ok (s, j.gate + 1, j.seal)
  file_here =
      ap (λ (v : Version). file_opens v d j.file (seen calls j.file)) (sym f.current)
      ∙ ap (λ (k : ℕ). file_opens j.version d k (seen calls k)) (sym f.stands.selected_is) ∙ f.opens_to

  -- files of which one is selected that reads to this
  reads_file : (files : Files) (k : ℕ) (read : State × ℕ × List ℕ) → selected files ≡ k → file_opens written d k (files k) ≡ Ok read → files_read written d files ≡ Ok read
  reads_file files k read at is = ap (λ (i : ℕ). file_opens written d i (files i)) at ∙ is

  -- while the other file is written
  pub writing : (then : State × ℕ × List ℕ) (mid : List Call) → WorksBeside other calls mid → EachSince calls mid (ReadsToOneOf d (read_at s j) then)
  writing then mid beside = weaker (LeavesOthers other calls) (ReadsToOneOf d (read_at s j) then) calls mid
      (λ files outside left. (
        left.silent,
        inl (reads_file files j.file (read_at s j)
            (ap (λ (l : List ℕ). selected (λ _. l)) (left.others 2 not_selector f.stands.selector_synced) ∙ f.stands.selected_is)
            (ap (file_opens written d j.file) (left.others j.file not_other f.stands.file_synced) ∙ file_here)),
      )) beside.moments

  module _ (mid : List Call) (beside : WorksBeside other calls mid) (used : ℕ) (last : List ℕ) (holds : HoldsState written d (begun n) mid other used last) where
    -- while it is selected
    choosing : (new : List Call) → EachSince mid new (LeavesBoth mid) → EachSince mid new (ReadsToOneOf d (read_at s j) (begun n, used, last))
    choosing new each = weaker (LeavesBoth mid) (ReadsToOneOf d (read_at s j) (begun n, used, last)) mid new (λ files outside left. (left.silent, by_choice files outside left)) each
      where
        by_choice : (files : Files) (outside : Outside) → LeavesBoth mid files outside → (files_read written d files ≡ Ok (read_at s j)) ⊎ (files_read written d files ≡ Ok (begun n, used, last))
        by_choice files outside left = elim (cases_eq (selected files) j.file) [
          | inl at ↦ inl (reads_file files j.file (read_at s j) at (ap (file_opens written d j.file) (both_left mid files left j.file low ∙ beside.seen j.file not_other) ∙ file_here))
          | inr elsewhere ↦
              inr (reads_file files other (begun n, used, last) (omega (arith, selected_few files, low, elsewhere))
              (ap (file_opens written d other) (both_left mid files left other (omega (arith, low))) ∙ holds))
        ]

    -- all of it
    pub all_moments : (new : List Call) → used ≡ compacted_bytes written n → last ≡ need_seal d.mark n → EachSince mid new (LeavesBoth mid) → EachSince calls new (ReadsToOneOf d (read_at s j) (read_anew d n))
    all_moments new used_is last_is each =
        let there : EachSince calls new (ReadsToOneOf d (read_at s j) (begun n, used, last)) =
        joined (ReadsToOneOf d (read_at s j) (begun n, used, last)) (ReadsToOneOf d (read_at s j) (begun n, used, last)) calls mid new [] (writing (begun n, used, last) mid beside)
        (beside.silent ∙ sym (append-nil (said_by calls))) (choosing new each) (λ files later left. left) in
        let same : (begun n, used, last) ≡ read_anew d n = ap (λ (k : ℕ). (begun n, k, last)) used_is ∙ ap (λ (l : List ℕ). (begun n, compacted_bytes written n, l)) last_is in
        subst (λ (y : State × ℕ × List ℕ). EachSince calls new (ReadsToOneOf d (read_at s j) y)) same there

-- the checkpoint's file comes to its need
pub holds_begun : (d : Directory) (n : Need) (file : ℕ) (mid : List Call) → HasWritten d.mark n file mid → length d.mark ≡ 32 → d.limit < 256 ^ 4 → is_sound d n ≡ true → unowed n ≡ n → FitsLimit written d n
    → HoldsState written d (begun n) mid file (compacted_bytes written n - 1 + 1) (need_seal d.mark n)
holds_begun d n file mid wrote long limit sound free room =
    ap (file_opens written d file) wrote.text
    ∙ file_opens-checkpoint written d file n [] closed_gate [] long limit sound room tt refl
    ∙ ap (λ (m : Need). Ok (begun m, compacted_bytes written n - 1 + 1, need_seal d.mark n)) free

pub begun_stands : (d : Directory) (s : State) (n : Need) (mid new : List Call) (j next : InHand) (o used : ℕ) (last : List ℕ) → StandsOn mid j → StandsFor d s mid j → HoldsState written d (begun n) mid o used last → 0 < used
    → seen new o ≡ seen mid o → StandsOn new next → next ≡ selecting written o used last j → StandsFor d (begun n) new next
begun_stands d s n mid new j next o used last standing f holds some same stands is = grind (arith, common_steps, selected_stands)

-- the journal stands for what it stood for while the other file is written
pub still_stands_for : (d : Directory) (s : State) (calls mid : List Call) (j : InHand) → StandsFor d s calls j → j.file < 2 → WorksBeside (1 - j.file) calls mid → StandsFor d s mid j
still_stands_for d s calls mid j f low beside = grind (arith, common_steps, same_stands_for)
