-- A journal is taken over: what a crash leaves meanwhile, and what the files open to then.
use Rattle.gts_migrate.proofs.Cited.{◌≡◌, ◌≢◌, inl, inr, ℕ, ◌+◌, ◌-◌, ◌*◌, ◌^◌, ◌<◌, ◌≤◌, true, false, List, [], ◌∷◌, ◌++◌, length, take, drop, Option, None, Result, Ok, Err, refl, sym, ap, subst, ◌∙◌, arith, take-append-drop, OnOk, IfErr, IsErrOf, cases_eq, add-mul, append-nil, map-append, AnswersOpening, AnswersWaiting, Call, CanMigrate, Core, CountsFaults, Did, Directory, DiskFault, Dropped, EachSince, Files, FitsFor, Full, GivesRoomFor, HasFewDue, HasWritten, InHand, IsBrought, IsClosedAt, IsFront, IsImage, IsMigrated, IsOpenedAny, IsSynced, IsWriteFaultOf, LeavesBoth, LeavesFiles, LeavesOthers, MigrateFault, Need, Needs, NoMemory, OnlySyncs, Open, OpenFault, Opened, OpensWith, Outside, Refused, SayFault, SaysAll, SaysFor, StandsForAny, StandsOn, State, StationMeanings, Syncs, TakesOver, Version, Waiting, Waits, WorksBeside, WriteFault, begun, checkpoint_file, closed_gate, compacted_bytes, draw_size, due, files_open_any, files_open_in, full_compacted, goes_on, is_sound, keeps_one, need, on, opened_of, opened_on, opens, opens_any, opens_in, restarted, said_by, seal_size, seen, selected, selected_bytes, selecting as selecting_at, unowed, version_of, write_fault, written, weaker, started, joined, told, said_is, synced_image, restarted-left, sound-held, checkpoint_opened, room_for, due-left, restarted-unowed, selected_few, both_left, same_stands, still_stands, common_steps}
use Rattle.gts_migrate.proofs.LettingGoLemmas.{held-on, sound-on, on-restarted}
use Rattle.gts_checkpoint.specs.declared.fault.WriteFault.TheVariants as writes

-- ---- what files open to

opens_from : (v : Version) (d : Directory) (files : Files) (s : State) (used : ℕ) → files_open_in v d files ≡ Ok (s, used) → opens_in v d files ≡ Ok (need d (restarted d s))
opens_from v d files s used e = grind (arith, common_steps)

-- a state and the need that the files open to are of one another
pub opens_to_need : (d : Directory) (files : Files) (s : State) (used : ℕ) → files_open_any d files ≡ Ok (s, used) → opens_any d files ≡ Ok (need d (restarted d s))
opens_to_need d files s used e = opens_from (version_of (selected_bytes files)) d files s used e

-- files of which the old one is selected
opens_old_at : (old : Directory) (s : State) (calls : List Call) (j : InHand) → StandsForAny old s calls j
    → (files : Files) → selected files ≡ j.file → files j.file ≡ seen calls j.file → opens_any old files ≡ Ok (need old (restarted old s))
opens_old_at old s calls j g files at same = grind (arith, common_steps, opens_from)

-- ---- what is said meanwhile

-- nothing was said yet
front_none : (text outside : Outside) → outside ≡ [] → IsFront outside text
front_none text outside none = (text, sym (ap (λ (o : Outside). o ++ text) none))

-- a front of it
front_some : (text before : Outside) (k : ℕ) → before ≡ [] → IsFront (before ++ take k text) text
front_some text before k none = (drop k text, sym (ap (λ (o : Outside). (o ++ take k text) ++ drop k text) none ∙ take-append-drop k text))

-- Once all was said, the files are seen as before.
pub record Spoken (bytes : List ℕ) (mid spoken : List Call) : Type 0 where
  pub said : said_by spoken ≡ said_by mid ++ on 0 bytes
  pub files : (k : ℕ) → seen spoken k ≡ seen mid k
  pub synced : (k : ℕ) → IsSynced mid k → IsSynced spoken k

pub spoke : (bytes : List ℕ) (done : Unit {0}) (mid spoken : List Call) → SaysAll {E = MigrateFault} bytes (Ok done) mid spoken → Spoken bytes mid spoken
spoke bytes done mid spoken (inl idle) = grind (arith, common_steps, append-nil)
spoke bytes done mid spoken (inr is) = grind (arith, common_steps)

-- the journal stands where it stood, and the other file is closed as it was
pub stands_spoken : (bytes : List ℕ) (mid spoken : List Call) (j : InHand) → Spoken bytes mid spoken → StandsOn mid j → StandsOn spoken j
stands_spoken bytes mid spoken j sp stands = grind (arith, common_steps, same_stands)

pub closed_spoken : (bytes : List ℕ) (mid spoken : List Call) (j : InHand) (file used : ℕ) → Spoken bytes mid spoken → IsClosedAt mid j file used → IsClosedAt spoken j file used
closed_spoken bytes mid spoken j file used sp closed = grind (arith, common_steps)

-- ---- while the journal is taken over

module _ (old new : Directory) (s : State) (n : Need) (calls : List Call) (j : InHand) (bytes : List ℕ) (g : CanMigrate old new s n calls j) (low : j.file < 2) where
  abbrev over : Need
  over = opened_on new old (need old (restarted old s))

  abbrev receipts : Outside
  receipts = on 0 bytes

  abbrev P : Files → Outside → Type 0
  P = OpensWith receipts old new (need old (restarted old s))

  -- the other file
  abbrev other : ℕ
  other = 1 - j.file

  not_other : j.file ≢ other
  not_other e = omega (arith, e, low)

  not_selector : 2 ≢ other
  not_selector e = omega (arith, e, low)

  stands : StandsOn calls j
  stands = g.stands.stands

  opens_old : (files : Files) → selected files ≡ j.file → files j.file ≡ seen calls j.file → opens_any old files ≡ Ok (need old (restarted old s))
  opens_old = opens_old_at old s calls j g.stands

  -- while the other file is written
  pub writing : (mid : List Call) → WorksBeside other calls mid → EachSince calls mid P
  writing mid beside = weaker (LeavesOthers other calls) P calls mid
      (λ files outside left. inl (
        opens_old files
            (ap (λ (l : List ℕ). selected (λ _. l)) (left.others 2 not_selector stands.selector_synced) ∙ stands.selected_is)
            (left.others j.file not_other stands.file_synced),
        front_none receipts outside left.silent,
      )) beside.moments

  module _ (mid : List Call) (beside : WorksBeside other calls mid) where
    stands_mid : StandsOn mid j
    stands_mid = still_stands calls mid j stands low beside

    -- a crash behind that leaves the old file selected
    opens_still : (files : Files) → IsImage mid files → opens_any old files ≡ Ok (need old (restarted old s))
    opens_still files image =
        opens_old files
        (ap (λ (l : List ℕ). selected (λ _. l)) (synced_image mid 2 files stands_mid.selector_synced image) ∙ stands_mid.selected_is)
        (synced_image mid j.file files stands_mid.file_synced image ∙ beside.seen j.file not_other)

    -- while the receipts are said
    pub speaking : {T E : Type 0} (result : Result T E) (spoken : List Call) → SaysAll bytes result mid spoken → EachSince calls spoken P
    speaking result spoken (inl idle) = subst (λ (l : List Call). EachSince calls l P) (sym idle.1) (writing mid beside)
    speaking result spoken (inr tries) =
        let so_far : EachSince calls mid P = writing mid beside in
        let none : said_by so_far.since ≡ [] = said_is P calls mid so_far [] (beside.silent ∙ sym (append-nil (said_by calls))) in
        told P calls mid so_far result 0 bytes spoken (λ files k image. inl (opens_still files image, front_some receipts (said_by so_far.since) k none)) tries

    module _ (spoken : List Call) (sp : Spoken bytes mid spoken) (since : EachSince calls spoken P) where
      -- all was said
      said_all : said_by spoken ≡ said_by calls ++ receipts
      said_all = sp.said ∙ ap (λ (o : Outside). o ++ receipts) beside.silent

      module _ (wrote : HasWritten new.mark n other mid) (fits : FitsFor new n) (long : length new.mark ≡ 32) (limit : new.limit < 256 ^ 4) where
        -- opened again, the need under the new directory is what that takes over of what the files open to
        again : need new (restarted new (begun (unowed n))) ≡ over
        again =
            ap (need new) (restarted-unowed new n)
            ∙ ap (λ (x : Need). need new (restarted new (begun x))) g.brought
            ∙ restarted-left new (goes_on new old (need old s)) g.keeps
            ∙ ap (λ (x : State). need new (restarted new x)) (sym (on-restarted new old s))

        -- files of which the other one is selected
        opens_new : (files : Files) → selected files ≡ other → files other ≡ seen mid other → opens new files ≡ Ok over
        opens_new files at same =
            checkpoint_opened written new files n [] closed_gate [] long limit fits.sound fits.room tt refl (ap files at ∙ same ∙ wrote.text)
            ∙ ap {A = Need} (λ m. Ok m) again

        -- while it is selected
        choosing : (files : Files) (later : Outside) → LeavesBoth spoken files later → P files (receipts ++ later)
        choosing files later left = elim (cases_eq (selected files) j.file) [
          | inl at ↦
              inl (
                opens_old files at (both_left spoken files left j.file low ∙ sp.files j.file ∙ beside.seen j.file not_other),
                ([], sym (append-nil (receipts ++ later) ∙ whole)),
              )
          | inr elsewhere ↦
              inr (opens_new files (omega (arith, selected_few files, low, elsewhere)) (both_left spoken files left other (omega (arith, low)) ∙ sp.files other), whole)
        ]
          where
            whole : receipts ++ later ≡ receipts
            whole = ap (λ (o : Outside). receipts ++ o) left.silent ∙ append-nil receipts

        -- all of it
        pub all_moments : (last : List Call) → EachSince spoken last (LeavesBoth spoken) → EachSince calls last P
        all_moments last each = joined P (LeavesBoth spoken) calls spoken last receipts since said_all each choosing

        -- once it is selected
        pub migrated : (last : List Call) (place : InHand) (used : ℕ) (seal : List ℕ) → place ≡ selecting_at written other used seal j → StandsOn last place
            → ((k : ℕ) → k ≢ 2 → seen last k ≡ seen spoken k) → IsMigrated old new s calls last
        migrated last place used seal at there files =
            let file : place.file ≡ other = ap (λ (k : InHand). k.file) at in
            let chosen : selected (seen last) ≡ other = there.selected_is ∙ file in
            let other_not : other ≢ 2 = λ e. omega (arith, e) in
            record {
              other = λ e. not_other (sym stands.selected_is ∙ sym e ∙ chosen);
              stays =
                  ap (seen last) stands.selected_is ∙ files j.file (λ e. omega (arith, e, low)) ∙ sp.files j.file ∙ beside.seen j.file not_other
                  ∙ sym (ap (seen calls) stands.selected_is);
              text = ap (seen last) chosen ∙ files other other_not ∙ sp.files other ∙ wrote.text ∙ ap (checkpoint_file new.mark) g.brought;
              opened = λ image left.
                  let selector : image 2 ≡ seen last 2 = synced_image last 2 image there.selector_synced left in
                  let same : image place.file ≡ seen last place.file = synced_image last place.file image there.file_synced left in
                  opens_new image (ap (λ (l : List ℕ). selected (λ _. l)) selector ∙ chosen)
                  (ap image (sym file) ∙ same ∙ ap (seen last) file ∙ files other other_not ∙ sp.files other);
            }

-- ---- what was said at an end

-- the checkpoint could not be written
pub unsaid_write : (fault : WriteFault) (text : Outside) (calls mid : List Call) → said_by mid ≡ said_by calls → SaysFor (Err (write_fault fault)) text calls mid
unsaid_write writes.DiskFault text calls mid same = inl (same ∙ sym (append-nil (said_by calls)))
unsaid_write writes.NoMemory text calls mid same = same ∙ sym (append-nil (said_by calls))

-- all was said
pub said_whole : (bytes : List ℕ) (calls mid spoken last : List Call) → said_by mid ≡ said_by calls → Spoken bytes mid spoken → said_by last ≡ said_by spoken → said_by last ≡ said_by calls ++ on 0 bytes
said_whole bytes calls mid spoken last same sp silent = silent ∙ sp.said ∙ ap (λ (o : Outside). o ++ on 0 bytes) same

front_on : (left bytes : List ℕ) → IsFront left bytes → IsFront (on 0 left) (on 0 bytes)
front_on left bytes front = (on 0 front.0, ap (on 0) front.1 ∙ map-append (λ byte. (0, byte)) left front.0)

-- the receipts could not be said
pub said_part : (bytes : List ℕ) (fault : MigrateFault) (calls mid spoken : List Call) → said_by mid ≡ said_by calls → SaysAll {T = Unit {0}} bytes (Err fault) mid spoken
    → SaysFor (Err SayFault) (on 0 bytes) calls spoken
said_part bytes fault calls mid spoken same (inl idle) = absurd (let e : false ≡ true = idle.2 in cc e)
said_part bytes fault calls mid spoken same (inr (inl idle)) = grind (arith, common_steps, append-nil)
said_part bytes fault calls mid spoken same (inr (inr broke)) =
    (on 0 broke.0, front_on broke.0 bytes broke.1, ap said_by broke.2 ∙ ap (λ (o : Outside). o ++ on 0 broke.0) same)

-- ---- once the journal was opened

module _ (observed : Type 0) (old new : Directory) (takes : TakesOver new old) (mid : List Call) (core : Core) (j : InHand) (g : IsOpenedAny observed old mid core j) where
  pub sound_need : is_sound old (need old g.state) ≡ true
  sound_need = sound-held old g.state g.kept.few g.kept.held

  pub few_due : old.limit < 256 ^ 4 → HasFewDue old core
  few_due limit = record {
    state = g.state;
    holds = g.kept.holds;
    few = omega (arith, limit, g.kept.room, add-mul 24 (seal_size j.version) (due g.state));
    sound = sound_need;
  }

  pub fits_for : (n : Need) → IsBrought old new core n → full_compacted new (goes_on new old (need old g.state)) ≡ None → FitsFor new n
  fits_for n brought free =
      let t : State = goes_on new old (need old g.state) in
      let is : need new t ≡ n = sym (brought g.state g.kept.holds) in
      let room : compacted_bytes written (need new t) + draw_size written * due t ≤ new.limit = room_for new t free in
      let same : due (begun (need new t)) ≡ due t = due-left new t (held-on new old (need old g.state) takes sound_need).ordered.circuits in
      let fits : compacted_bytes written (need new t) + draw_size written * due (begun (need new t)) ≤ new.limit =
      omega (arith, room, ap (λ (k : ℕ). draw_size written * k) same) in
      record {
        sound = ap (is_sound new) (sym is) ∙ sound-on new old (need old g.state) takes sound_need;
        room = subst (λ (m : Need). compacted_bytes written m + draw_size written * due (begun m) ≤ new.limit) is fits;
      }

  pub can_migrate : (n : Need) → IsBrought old new core n → keeps_one new ≡ true → observed → CanMigrate old new g.state n mid j
  can_migrate n brought keeps tell = record {
    takes = takes;
    stands = g.stands tell;
    keeps = keeps;
    sound = sound_need;
    brought = brought g.state g.kept.holds;
  }

  module _ (tell : observed) (before : List Call) (synced : mid ≡ Did Syncs ∷ before) where
    pub files_here : files_open_any old (seen before) ≡ Ok (g.state, j.gate + 1)
    files_here =
        let here : files_open_any old (seen mid) ≡ Ok (g.state, j.gate + 1) =
        ap (λ (v : Version). files_open_in v old (seen mid)) (sym (g.stands tell).version_is) ∙ ap opened_of (g.stands tell).opens_to in
        subst (λ (calls : List Call). files_open_any old (seen calls) ≡ Ok (g.state, j.gate + 1)) synced here

    abbrev state_of : Opened → State
    state_of (Ok opened) = opened.0
    state_of (Err fault) = g.state

    -- what the files open to is the state that the core holds
    pub state_is : (t : State) (used : ℕ) → files_open_any old (seen before) ≡ Ok (t, used) → t ≡ g.state
    state_is t used there = ap state_of (sym there ∙ files_here)

    pub opens_so : opens_any old (seen before) ≡ Ok (need old (restarted old g.state))
    opens_so = opens_to_need old (seen before) g.state (j.gate + 1) files_here

    abbrev need_of_result : Result Need OpenFault → Need
    need_of_result (Ok n) = n
    need_of_result (Err fault) = need old (restarted old g.state)

    pub need_is : (n : Need) → opens_any old (seen before) ≡ Ok n → need old (restarted old g.state) ≡ n
    need_is n there = ap need_of_result (sym opens_so ∙ there)

    -- nothing more was done
    pub at_rest : (text : Outside) → EachSince (Did Syncs ∷ before) mid (OpensWith text old new (need old (restarted old g.state)))
    at_rest text =
        let stands : StandsOn mid j = (g.stands tell).stands in
        subst (λ (calls : List Call). EachSince calls mid (OpensWith text old new (need old (restarted old g.state)))) synced
        (started mid (OpensWith text old new (need old (restarted old g.state))) (λ files image. inl (
          opens_old_at old g.state mid j (g.stands tell) files
              (ap (λ (l : List ℕ). selected (λ _. l)) (synced_image mid 2 files stands.selector_synced image) ∙ stands.selected_is)
              (synced_image mid j.file files stands.file_synced image),
          front_none text [] refl,
        )))

-- what was brought of the need of a core is brought of each state that it holds
pub brought_from : (old new : Directory) (core : Core) (n over : Need) → Needs core n → over ≡ need new (goes_on new old n) → IsBrought old new core over
brought_from old new core n over needs made s holds = made ∙ ap (λ (m : Need). need new (goes_on new old m)) (needs old s holds)

-- ---- by the answer, once the checkpoint was to be written

-- there was room
pub room_after : (result : Result (Unit {0}) MigrateFault) (d : Directory) (t : State) → IfErr result IsWriteFaultOf → full_compacted d t ≡ None → GivesRoomFor result d t
room_after (Ok done) d t kind free = free
room_after (Err (Open e)) d t kind free = absurd kind
room_after (Err (Waits c count)) d t kind free = absurd kind
room_after (Err (Full at wanted limit)) d t kind free = absurd kind
room_after (Err DiskFault) d t kind free = free
room_after (Err SayFault) d t kind free = free
room_after (Err NoMemory) d t kind free = tt

-- nothing waited on closed circuits, or what did was dropped
pub waiting_after : (w : Waiting) (result : Result (Unit {0}) MigrateFault) (found : Option (ℕ × ℕ)) → IfErr result IsWriteFaultOf → AnswersWaiting {T = Unit {0}} w (Ok tt) found → AnswersWaiting w result found
waiting_after Refused (Ok done) found kind none = none
waiting_after Refused (Err (Open e)) found kind none = absurd kind
waiting_after Refused (Err (Waits c count)) found kind none = absurd kind
waiting_after Refused (Err (Full at wanted limit)) found kind none = absurd kind
waiting_after Refused (Err DiskFault) found kind none = none
waiting_after Refused (Err SayFault) found kind none = none
waiting_after Refused (Err NoMemory) found kind none = tt
waiting_after Dropped (Ok done) found kind none = λ is. is
waiting_after Dropped (Err (Open e)) found kind none = λ is. is
waiting_after Dropped (Err (Waits c count)) found kind none = absurd kind
waiting_after Dropped _ found kind none = λ is. is

-- the files opened
pub opening_after : (result : Result (Unit {0}) MigrateFault) (opened : Result Need OpenFault) (n : Need) → IfErr result IsWriteFaultOf → opened ≡ Ok n → AnswersOpening result opened
opening_after (Ok done) opened n kind is = (n, is)
opening_after (Err (Open e)) opened n kind is = absurd kind
opening_after (Err (Waits c count)) opened n kind is = absurd kind
opening_after (Err (Full at wanted limit)) opened n kind is = absurd kind
opening_after _ opened n kind is = (n, is)

-- where there was no memory, nothing was written
pub told_after : {P : Type 0} (calls : P → List Call) (result : Result (Unit {0}) MigrateFault) (old mid new : P) → IfErr result IsWriteFaultOf → (IsErrOf result NoMemory → new ≡ mid)
    → OnlySyncs (calls old) (calls mid) → LeavesFiles result → OnlySyncs (calls old) (calls new)
told_after calls (Err (Open e)) old mid new kind same told leaves = absurd kind
told_after calls (Err (Waits c count)) old mid new kind same told leaves = absurd kind
told_after calls (Err (Full at wanted limit)) old mid new kind same told leaves = absurd kind
told_after calls (Err NoMemory) old mid new kind same told leaves = subst (λ p. OnlySyncs (calls old) (calls p)) (sym (same refl)) told
told_after calls _ old mid new kind same told leaves = absurd leaves

-- the journal was taken over, seen from before the sync
pub migrated_after : (result : Result (Unit {0}) MigrateFault) (old new : Directory) (s t : State) (n : Need) (before mid after : List Call) (j : InHand) → mid ≡ Did Syncs ∷ before → t ≡ s → CanMigrate old new s n mid j
    → OnOk result ((o : Directory) (u : State) → CanMigrate o new u n mid j → IsMigrated o new u mid after) → OnOk result (IsMigrated old new t before after)
migrated_after (Ok done) old new s t n before mid after j synced same can each =
    let m : IsMigrated old new s (Did Syncs ∷ before) after = subst (λ (calls : List Call). IsMigrated old new s calls after) synced (each old s can) in
    let here : IsMigrated old new s before after = record { other = m.other; stays = m.stays; text = m.text; opened = m.opened } in
    subst (λ (u : State). IsMigrated old new u before after) (sym same) here
migrated_after (Err e) old new s t n before mid after j synced same can each = tt

-- what was said from the opening on was said from before its sync
pub said_after : (result : Result (Unit {0}) MigrateFault) (text : Outside) (before mid after : List Call) → mid ≡ Did Syncs ∷ before → SaysFor result text mid after → SaysFor result text before after
said_after (Ok done) text before mid after synced said = said ∙ ap (λ (l : List Call). said_by l ++ text) synced
said_after (Err (Open e)) text before mid after synced said = said ∙ ap (λ (l : List Call). said_by l ++ []) synced
said_after (Err (Waits c count)) text before mid after synced said = said ∙ ap (λ (l : List Call). said_by l ++ []) synced
said_after (Err (Full at wanted limit)) text before mid after synced said = said ∙ ap (λ (l : List Call). said_by l ++ []) synced
said_after (Err NoMemory) text before mid after synced said = said ∙ ap (λ (l : List Call). said_by l ++ []) synced
said_after (Err SayFault) text before mid after synced said = (said.0, said.1, said.2 ∙ ap (λ (l : List Call). said_by l ++ said.0) synced)
said_after (Err DiskFault) text before mid after synced (inl none) = inl (none ∙ ap (λ (l : List Call). said_by l ++ []) synced)
said_after (Err DiskFault) text before mid after synced (inr all) = inr (all ∙ ap (λ (l : List Call). said_by l ++ text) synced)

front_nothing : (left : Outside) → IsFront left [] → left ≡ []
front_nothing [] front = refl
front_nothing (x ∷ left) front = absurd (let e : [] ≡ x ∷ (left ++ front.0) = front.1 in cc e)

-- where nothing is to be said, nothing was said
pub silent_by : (result : Result (Unit {0}) MigrateFault) (text : Outside) (before after : List Call) → text ≡ [] → SaysFor result text before after → said_by after ≡ said_by before
silent_by result text before after none said = go result (subst (λ (o : Outside). SaysFor result o before after) none said)
  where
    go : (result : Result (Unit {0}) MigrateFault) → SaysFor result [] before after → said_by after ≡ said_by before
    go (Ok done) said = said ∙ append-nil (said_by before)
    go (Err (Open e)) said = said ∙ append-nil (said_by before)
    go (Err (Waits c count)) said = said ∙ append-nil (said_by before)
    go (Err (Full at wanted limit)) said = said ∙ append-nil (said_by before)
    go (Err NoMemory) said = said ∙ append-nil (said_by before)
    go (Err SayFault) said = said.2 ∙ ap (λ (o : Outside). said_by before ++ o) (front_nothing said.0 said.1) ∙ append-nil (said_by before)
    go (Err DiskFault) (inl none) = none ∙ append-nil (said_by before)
    go (Err DiskFault) (inr all) = all ∙ append-nil (said_by before)

-- counts of faults, seen from before the opening, which left them as they were
pub counts_after : {P : Type 0} (station : StationMeanings P) (result : Result (Unit {0}) MigrateFault) (old mid new : P) → station.disk_faults mid ≡ station.disk_faults old
    → station.say_faults mid ≡ station.say_faults old → CountsFaults station result mid new → CountsFaults station result old new
counts_after station result old mid new disk say counts = grind (arith, common_steps)
