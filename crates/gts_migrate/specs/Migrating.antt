-- A journal is taken over: it goes on under a directory that takes over from its own.
use Rattle.std.specs.Prelude.{◌≡◌, ◌≢◌, ◌⊎◌, ◌+◌, ◌*◌, ◌^◌, ◌<◌, ◌≤◌, List, ◌∷◌, Result, Ok, IsTrue}
use Rattle.gts_migrate.specs.Cited.Below.{Call, Core, Did, Directory, EachSince, Files, Holds, InHand, IsFront, IsImage, Need, Outside, StandsForAny, Syncs, begun, checkpoint_file, compacted_bytes, draw_size, due, is_sound, keeps_one, need, opens, seen, selected, written}
pub use Rattle.gts_directory.specs.TakingOver.{TakesOver}
pub use Rattle.gts_event.specs.State.{State}
pub use Rattle.gts_event.specs.History.{restarted}
pub use Rattle.gts_migrate.specs.LettingGo.{goes_on, opened_on, left_behind, waits_on_closed}
pub use Rattle.gts_migrate.specs.Dropping.{sayings}
pub use Rattle.gts_recovery.specs.Opened.{IsOpenedAny, files_open_any, opens_any}
pub use Rattle.gts_directory.specs.Directory.{Directory as DirectoryOf}
pub use Rattle.gts_event.specs.Need.{Need as NeedOf, need as need_at, unused as unused_of}
pub use Rattle.gts_event.specs.Items.{circuit_need_of, need_of}
pub use Rattle.gts_opening.specs.Journal.{checkpoint_text}
use Rattle.gts_migrate.specs.Answers.{SaysFor}
use Rattle.gts_migrate.specs.declared.fault.MigrateFault.{MigrateFault}
use Rattle.gts_migrate.specs.declared.waiting.Waiting.{Waiting}

-- The files open under the old directory, in either version, to this need, with a front of this text said; or under the new one to
-- what that takes over of the need, with all of it said.
abbrev pub OpensWith : Outside → Directory → Directory → Need → Files → Outside → Type 0
OpensWith text old new n files outside =
    ((opens_any old files ≡ Ok n) × IsFront outside text) ⊎ ((opens new files ≡ Ok (opened_on new old n)) × (outside ≡ text))

-- the same where what waits on closed circuits is refused, and nothing is said; or dropped, and its receipts are said
abbrev pub OpensEither : Waiting → Directory → Directory → Need → Files → Outside → Type 0
OpensEither waiting old new n = OpensWith (sayings waiting new n) old new n

-- with this text, the files open to the need of this state, opened again
abbrev pub OpensWithAt : Outside → Directory → Directory → State → Files → Outside → Type 0
OpensWithAt text old new s = OpensWith text old new (need old (restarted old s))

-- Where the files opened under the old directory to this need, a crash at any moment since the sync of the opening leaves files
-- that open so, or to what the new directory takes over of it.
abbrev pub StaysEither : Waiting → Directory → Directory → Need → (before after : List Call) → Type 0
StaysEither waiting old new n before after =
    opens_any old (seen before) ≡ Ok n → EachSince (Did Syncs ∷ before) after (OpensEither waiting old new n)

-- the same as the receipts of what is dropped, of files that opened to this state
abbrev pub SaysDropped : Waiting → Directory → Directory → State → Result (Unit {0}) MigrateFault → (before after : List Call) → Type 0
SaysDropped waiting old new s result = SaysFor result (sayings waiting new (need old s))

-- The other file is selected, and the one before stays as it is. The other one is the checkpoint of the need under the new
-- directory alone, under the mark of that; and whatever a crash leaves opens under that to what it takes over of what the old
-- files opened to.
pub record IsMigrated (old new : Directory) (s : State) (before after : List Call) : Type 0 where
  pub other : selected (seen after) ≢ selected (seen before)
  pub stays : seen after (selected (seen before)) ≡ seen before (selected (seen before))
  pub text : seen after (selected (seen after)) ≡ checkpoint_file new.mark (need new (goes_on new old (need old s)))
  pub opened : (files : Files) → IsImage after files → opens new files ≡ Ok (opened_on new old (need old (restarted old s)))

-- The core holds a state whose need is sound, and whose draws due are few.
pub record HasFewDue (d : Directory) (core : Core) : Type 0 where
  pub state : State
  pub holds : Holds d core state
  pub few : due state < 2 ^ 32
  pub sound : IsTrue (is_sound d (need d state))

-- This need is that of whatever state the core holds, under the new directory.
abbrev pub IsBrought : Directory → Directory → Core → Need → Type 0
IsBrought old new core n = (s : State) → Holds old core s → n ≡ need new (goes_on new old (need old s))

-- This text is what is to be said of whatever state the core holds.
abbrev pub IsToSay : Waiting → Directory → Directory → Core → Outside → Type 0
IsToSay waiting old new core text = (s : State) → Holds old core s → text ≡ sayings waiting new (need old s)

-- The journal stands for a state of the old directory, from which the new one takes over, and the need is that of the state
-- under the new one.
pub record CanMigrate (old new : Directory) (s : State) (n : Need) (calls : List Call) (j : InHand) : Type 0 where
  pub takes : TakesOver new old
  pub stands : StandsForAny old s calls j
  pub keeps : IsTrue (keeps_one new)
  pub sound : IsTrue (is_sound old (need old s))
  pub brought : n ≡ need new (goes_on new old (need old s))

-- Whatever state the journal stands for, a crash at any moment since leaves files that open to it under the old directory, or to what
-- the new one takes over of it, with this text said.
abbrev pub StaysWith : Outside → Directory → Need → InHand → (before after : List Call) → Type 0
StaysWith text new n j before after =
    (old : Directory) (s : State) → CanMigrate old new s n before j → EachSince before after (OpensWithAt text old new s)

-- the need is sound under the new directory, and there is room for its checkpoint and all draws due
pub record FitsFor (new : Directory) (n : Need) : Type 0 where
  pub sound : IsTrue (is_sound new n)
  pub room : compacted_bytes written n + draw_size written * due (begun n) ≤ new.limit
