-- The journal is compacted: what a crash leaves meanwhile, and where the journal stands then.
use Rattle.gts_engine.proofs.Cited.{◌≡◌, ◌≢◌, inl, inr, ℕ, ◌+◌, ◌-◌, ◌*◌, ◌^◌, ◌<◌, ◌≤◌, nat_lt, Bool, true, cond, List, [], length, Some, None, Ok, refl, sym, ap, subst, ◌∙◌, arith, min, lt-ltb, le-ltb, cases_eq, Call, Core, Directory, EachSince, Files, Full, HasWritten, Holds, InHand, IsClosedAt, IsGoing, LeavesBoth, LeavesOthers, Need, OpensAsBefore, Outside, SameNeed, StandsFor, StandsOn, State, Version, WorksBeside, begun, checkpoint_file, checkpoint_text, closed_gate, compacted_bytes, draw_size, due, file_opens, full_compacted, is_sound, need, need_seal, opened_of, opens, restarted, seal_size, seen, selected, selecting as selecting_at, unowed, unowed_state, written, weaker, started, need-begun, ordered-begun, routed_once-begun, held-begun, sound-held, sound-parts, held-same, compacted_opened, opened_again, file_opens-checkpoint, room_for, due-left, begun-unowed, selected_few, both_left, closed_there, still_stands, common_steps}
use Rattle.gts_engine.proofs.GoingLemmas.{opened_same, images}
use Rattle.gts_engine.proofs.ReopenLemmas.{opens_by}

-- ---- an engine that goes on

module _ (observed : Type 0) (d : Directory) (old : List Call) (core : Core) (j : InHand) (g : IsGoing observed d old core j) (n : Need) (n_is : n ≡ need d g.state) where
  pub sound : is_sound d n ≡ true
  sound = ap (is_sound d) n_is ∙ sound-held d g.state g.few g.held

  pub begins_same : SameNeed d g.state (begun n)
  begins_same = record { first = g.held.ordered; second = ordered-begun d n sound; same = sym n_is ∙ sym (need-begun d n sound) }

  -- the other file
  abbrev other : ℕ
  other = 1 - j.file

  -- what is due is due of what the need begins
  has_room : n ≡ need d g.state → full_compacted d g.state ≡ None → compacted_bytes written n + draw_size written * due (begun n) ≤ d.limit
  has_room is free =
      let l = room_for d g.state free in
      subst (λ (m : Need). compacted_bytes written m + draw_size written * due (begun m) ≤ d.limit) (sym is)
      (omega (arith, l, ap (λ (k : ℕ). draw_size written * k) (due-left d g.state g.held.ordered.circuits)))

  module _ (low : j.file < 2) (tell : observed) where
    stood : StandsFor d (unowed_state g.state) old j
    stood = g.stands tell

    not_other : j.file ≢ other
    not_other e = omega (arith, e, low)

    not_selector : 2 ≢ other
    not_selector e = omega (arith, e, low)

    file_here : file_opens j.version d j.file (seen old j.file) ≡ Ok (unowed_state g.state, j.gate + 1, j.seal)
    file_here = ap (λ (k : ℕ). file_opens j.version d k (seen old k)) (sym stood.stands.selected_is) ∙ stood.opens_to

    opens_old : (files : Files) → selected files ≡ j.file → files j.file ≡ seen old j.file → opens d files ≡ Ok (need d (restarted d (unowed_state g.state)))
    opens_old files at same =
        opens_by d files (unowed_state g.state) (j.gate + 1)
        (ap opened_of (ap (λ (k : ℕ). file_opens written d k (files k)) at ∙ ap (file_opens written d j.file) same
        ∙ ap (λ (v : Version). file_opens v d j.file (seen old j.file)) (sym stood.current) ∙ file_here))

    to_state : (s : State) → Holds d core s → need d (restarted d (unowed_state g.state)) ≡ need d (restarted d s)
    to_state s holds = opened_same d core g.state s g.holds holds

    -- while the other file is written
    pub writing : (mid : List Call) → WorksBeside other old mid → (s : State) → Holds d core s → EachSince old mid (OpensAsBefore d s)
    writing mid beside s holds = weaker (LeavesOthers other old) (OpensAsBefore d s) old mid
        (λ files outside left. (
          left.silent,
          opens_old files
              (ap (λ (l : List ℕ). selected (λ _. l)) (left.others 2 not_selector stood.stands.selector_synced) ∙ stood.stands.selected_is)
              (left.others j.file not_other stood.stands.file_synced)
              ∙ ap {A = Need} (λ m. Ok m) (to_state s holds),
        )) beside.moments

    module _ (mid : List Call) (beside : WorksBeside other old mid) (wrote : HasWritten d.mark n other mid) where
      -- the journal stands where it stood
      pub stands_still : StandsOn mid j
      stands_still = still_stands old mid j stood.stands low beside

      pub is_journal : length d.mark ≡ 32 → (used : ℕ) → used ≡ compacted_bytes written n → IsClosedAt mid j other used
      is_journal long used size = closed_there d.mark n other mid j used wrote long size

      module _ (long : length d.mark ≡ 32) (free : full_compacted d g.state ≡ None) where
        -- files of which the other one is selected
        opens_new : (files : Files) → selected files ≡ other → files other ≡ seen mid other → opens d files ≡ Ok (need d (restarted d g.state))
        opens_new files at same =
            compacted_opened d files g.state closed_gate [] long stood.limit g.holds.keeps g.held.ordered (sound-held d g.state g.few g.held) free refl
            (ap files at ∙ same ∙ wrote.text ∙ ap (checkpoint_file d.mark) n_is)

        -- while it is selected
        pub selecting : (new : List Call) → EachSince mid new (LeavesBoth mid) → (s : State) → Holds d core s → EachSince mid new (OpensAsBefore d s)
        selecting new each s holds = weaker (LeavesBoth mid) (OpensAsBefore d s) mid new
            (λ files outside left. (left.silent, by_choice files left ∙ ap {A = Need} (λ m. Ok m) (to_state s holds))) each
          where
            by_choice : (files : Files) {outside : Outside} → LeavesBoth mid files outside → opens d files ≡ Ok (need d (restarted d (unowed_state g.state)))
            by_choice files left = elim (cases_eq (selected files) j.file) as (λ _. opens d files ≡ Ok (need d (restarted d (unowed_state g.state)))) [
              | inl at ↦ opens_old files at (both_left mid files left j.file low ∙ beside.seen j.file not_other)
              | inr elsewhere ↦
                  opens_new files (omega (arith, selected_few files, low, elsewhere)) (both_left mid files left other (omega (arith, low)))
                  ∙ ap (λ (u : State). Ok (need d u)) (sym (opened_again d g.state).1)
            ]

        module _ (new : List Call) (place : InHand) (used : ℕ) (size : used ≡ compacted_bytes written n) (last : List ℕ) (last_is : last ≡ need_seal d.mark n) (at : place ≡ selecting_at written other used last j) (stands : StandsOn new place)
            (files : (k : ℕ) → k ≢ 2 → seen new k ≡ seen mid k) where
          chosen : selected (seen new) ≡ other
          chosen = stands.selected_is ∙ ap (λ (k : InHand). k.file) at

          other_not : other ≢ 2
          other_not e = omega (arith, e)

          pub text : seen new (selected (seen new)) ≡ checkpoint_file d.mark n
          text = ap (seen new) chosen ∙ files other other_not ∙ wrote.text

          pub apart : selected (seen new) ≢ selected (seen old)
          apart e = not_other (sym stood.stands.selected_is ∙ sym e ∙ chosen)

          -- the file that was selected before is left alone
          pub left : seen new (selected (seen old)) ≡ seen old (selected (seen old))
          left =
              ap (seen new) stood.stands.selected_is ∙ files j.file (λ e. omega (arith, e, low)) ∙ beside.seen j.file not_other
              ∙ sym (ap (seen old) stood.stands.selected_is)

          pub goes_for : StandsFor d (unowed_state (begun n)) new place
          goes_for =
              let room : compacted_bytes written n + draw_size written * due (begun n) ≤ d.limit = has_room n_is free in
              let opened : file_opens written d other (checkpoint_file d.mark n) ≡ Ok (begun (unowed n), compacted_bytes written n - 1 + 1, need_seal d.mark n) =
              file_opens-checkpoint written d other n [] closed_gate [] long stood.limit sound room tt refl in
              let version : place.version ≡ written = ap (λ (k : InHand). k.version) at in
              let gate : compacted_bytes written n - 1 + 1 ≡ place.gate + 1 = omega (arith, ap (λ (k : InHand). k.gate) at, size) in
              let bare : begun (unowed n) ≡ unowed_state (begun n) = sym (begun-unowed n) in
              record {
                limit = stood.limit;
                current = version;
                stands = stands;
                ended = ap (λ (k : InHand). k.ended) at;
                opens_to = ap (λ (k : ℕ). file_opens place.version d k (seen new k)) chosen
                    ∙ ap (λ (v : Version). file_opens v d other (seen new other)) version
                    ∙ ap (file_opens written d other) (files other other_not ∙ wrote.text)
                    ∙ opened
                    ∙ ap (λ (u : State). Ok (u, compacted_bytes written n - 1 + 1, need_seal d.mark n)) bare
                    ∙ ap (λ (k : ℕ). Ok (unowed_state (begun n), k, need_seal d.mark n)) gate
                    ∙ ap (λ (l : List ℕ). Ok (unowed_state (begun n), place.gate + 1, l)) (sym last_is ∙ sym (ap (λ (k : InHand). k.seal) at));
              }

  -- the engine goes on, with what its need begins
  pub goes_on_compacted : (new : List Call) (place : InHand) (used : ℕ) (last : List ℕ) → used ≡ compacted_bytes written n → place ≡ selecting_at written other used last j → full_compacted d g.state ≡ None
      → (observed → StandsFor d (unowed_state (begun n)) new place) → IsGoing observed d new core place
  goes_on_compacted new place used last size at free stands =
      let room : compacted_bytes written n + draw_size written * due (begun n) ≤ d.limit = has_room n_is free in
      record {
        state = begun n;
        holds = held-same d core g.state (begun n) g.holds begins_same;
        once = routed_once-begun d n sound;
        few = (sound-parts d n sound).few;
        held = held-begun d n sound;
        ended = ap (λ (k : InHand). k.ended) at;
        current = ap (λ (k : InHand). k.version) at;
        room = omega (arith, room, size, ap (λ (k : InHand). k.gate) at);
        stands = stands;
      }

-- ---- whether there is room

pub no_room_compacted : (d : Directory) (s : State) (size wanted at limit : ℕ) → size ≡ min (length (checkpoint_text (need d s))) (2 ^ 64 - 1)
    → wanted ≡ min (size + (seal_size written + draw_size written * due s)) (2 ^ 64 - 1) → at ≡ 42 → limit ≡ d.limit → d.limit < min (wanted + 42) (2 ^ 64 - 1) → d.limit < 2 ^ 63
    → (real : ℕ) × (full_compacted d s ≡ Some (Full 42 real limit)) × (at ≡ 42) × (wanted ≡ min real (2 ^ 64 - 1))
no_room_compacted d s size wanted at limit s_is w_is at_is l_is past low =
    let real : ℕ = length (checkpoint_text (need d s)) + seal_size written + draw_size written * due s in
    let over : d.limit < 42 + real = omega (arith, s_is, w_is, past, low) in
    let test : nat_lt d.limit (42 + real) ≡ true = lt-ltb d.limit (42 + real) over in (
      real,
      ap (λ (b : Bool). cond b (Some (Full 42 real d.limit)) None) test ∙ ap (λ (k : ℕ). Some (Full 42 real k)) (sym l_is),
      at_is,
      omega (arith, s_is, w_is),
    )

pub has_room_compacted : (d : Directory) (s : State) (size wanted : ℕ) → size ≡ min (length (checkpoint_text (need d s))) (2 ^ 64 - 1)
    → wanted ≡ min (size + (seal_size written + draw_size written * due s)) (2 ^ 64 - 1) → min (wanted + 42) (2 ^ 64 - 1) ≤ d.limit → d.limit < 2 ^ 63 → full_compacted d s ≡ None
has_room_compacted d s size wanted s_is w_is within low = grind (arith, common_steps, le-ltb)

-- where there is room, the size is the very one, and small
module _ (d : Directory) (s : State) (n : Need) (size : ℕ) (is : n ≡ need d s) (size_is : size ≡ min (length (checkpoint_text n)) (2 ^ 64 - 1)) (free : full_compacted d s ≡ None) (low : d.limit < 2 ^ 63) where
  room : compacted_bytes written n + draw_size written * due s ≤ d.limit
  room = subst (λ (m : Need). compacted_bytes written m + draw_size written * due s ≤ d.limit) (sym is) (room_for d s free)

  pub size_free : 42 + size + seal_size written ≡ compacted_bytes written n
  size_free = omega (arith, size_is, room, low)

  pub size_few : size < 2 ^ 63
  size_few = omega (arith, size_is, room, low)

-- nothing was done yet
pub stays_at : (observed : Type 0) (d : Directory) (calls : List Call) (core : Core) (j : InHand) → IsGoing observed d calls core j → observed → (s : State) → Holds d core s → EachSince calls calls (OpensAsBefore d s)
stays_at observed d calls core j g tell s holds = started calls (OpensAsBefore d s) (λ files image. (refl, images observed d calls core j g tell s holds files image))
