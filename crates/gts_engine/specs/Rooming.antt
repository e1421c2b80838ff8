-- A message is heard, and room is made for a bulletin for which a journal has none.
use Rattle.std.specs.Prelude.{◌≡◌, ◌⊎◌, ℕ, ◌+◌, ◌/◌, ◌<◌, ◌≤◌, Bool, true, false, ◌==◌, List, [], ◌∷◌, ◌++◌, Option, Some, None, Result, Ok, Err, if◌then◌else◌, IsOk, IsSome}
use Rattle.gts_engine.specs.Cited.Below.{AfterCall, Directory, DiskFault, Doubt, Entry, Event, Full, IsAnswerCause, IsCause, Outcome, State, StationMeanings, SwitchFault, all_done, compacted_size, due, entry_of, full, most_accepted, need, outcome}
use Rattle.gts_engine.specs.declared.mode.SayMode.{SayMode}
use Rattle.gts_engine.specs.Engine.{Engine, Shown, shown}
use Rattle.gts_engine.specs.Origin.{Origin, compacted_after, state_at, used_at}
use Rattle.gts_engine.specs.Keeping.{Gathers, Keeps, meanings_of}

-- The bytes that a compaction is to leave free beside all that is due, where so many draws are due, so that it pays for itself: an
-- eighth of the limit (profile). Where no draw is due there are none, since no draw would give room later.
abbrev pub spare : Directory → ℕ → ℕ
spare d draws = if draws == 0 then 0 else d.limit / 8

-- a compacted journal would be full for an event, with these bytes to spare
abbrev pub full_with_spare : Directory → State → Event → Option SwitchFault
full_with_spare d s event = full d s (compacted_size (need d s) + spare d (due s)) event

-- a compacted journal would have room for so many bytes more, with those to spare, and a position is left; or it would not
abbrev pub TellsSpare : Bool → Directory → State → ℕ → Type 0
TellsSpare true d s bytes = (s.count ≡ most_accepted → ⊥) × (compacted_size (need d s) + spare d (due s) + bytes ≤ d.limit)
TellsSpare false d s bytes = (s.count ≡ most_accepted) ⊎ (d.limit < compacted_size (need d s) + spare d (due s) + bytes)

-- the bytes that were wanted of a journal that was full
abbrev pub bytes_wanted : Result Outcome SwitchFault → Option ℕ
bytes_wanted (Err (Full used need limit)) = Some need
bytes_wanted _ = None

module _ (observed : Type 0) (mode : SayMode) (o : Origin) (h : List Entry) (event : Event)
    (result : Result Outcome SwitchFault) (e : Shown) where
  -- The entry was added behind these, to a journal as it was, which had room for what was done.
  pub record AddsPlain : Type 0 where
    pub keeps : Keeps observed mode o (h ++ entry_of event result) e
    pub had_room : IsOk result → full o.directory (state_at o h) (used_at o h) event ≡ None

  -- The journal was full for the event, and a compacted one has room with the bytes to spare: behind these entries it was
  -- compacted, and then the entry was added.
  pub record AddsCompacted : Type 0 where
    pub keeps : Keeps observed mode (compacted_after o h) (h ++ entry_of event result) e
    pub was_full : IsSome (full o.directory (state_at o h) (used_at o h) event)
    pub has_room : full_with_spare o.directory (state_at o h) event ≡ None

-- the journal was full for an event behind these entries, with this fault, and a compacted one would be, too
abbrev pub IsFullEither : Origin → List Entry → Event → SwitchFault → Type 0
IsFullEither o h event fault =
    (full o.directory (state_at o h) (used_at o h) event ≡ Some fault) × IsSome (full_with_spare o.directory (state_at o h) event)

-- what comes of an event behind these entries
abbrev pub outcome_behind : Origin → List Entry → Event → Outcome
outcome_behind o h event = outcome o.directory (state_at o h) event

-- A message was heard so, and room was made for it: whatever entries the engine stood for, it stands for these and the entry,
-- with the journal compacted in front of that exactly where there was no room and a compacted journal has it. The answer is the
-- outcome. A fault has its cause: Full is answered only where a compacted journal would be full, too.
pub record IsHeardWithRoom {P : Type 0} (station : StationMeanings P) (mode : SayMode) (event : Event)
    (result : Result Outcome SwitchFault) (old new : Engine P) : Type 0 where
  pub directory : new.directory ≡ old.directory
  pub adds : (o : Origin) (h : List Entry) → Keeps station.observed mode o h (shown station.calls old)
      → AddsPlain station.observed mode o h event result (shown station.calls new)
      ⊎ AddsCompacted station.observed mode o h event result (shown station.calls new)
  pub outcome : (o : Origin) (h : List Entry) → Keeps station.observed mode o h (shown station.calls old)
      → (answer : Outcome) → result ≡ Ok answer → answer ≡ outcome_behind o h event
  pub caused : (o : Origin) (h : List Entry) → Keeps station.observed mode o h (shown station.calls old)
      → (fault : SwitchFault) → result ≡ Err fault → IsCause (IsFullEither o h event) h (outcome_behind o h event) fault

-- whoever says the frames
abbrev pub HearsWithRoom : {P : Type 0} → StationMeanings P → Event → Result Outcome SwitchFault → (old new : Engine P) → Type 0
HearsWithRoom station event result old new = (mode : SayMode) → IsHeardWithRoom station mode event result old new

-- ---- the same, behind what was gathered

module _ {P : Type 0} (station : StationMeanings P) (mode : SayMode) (o : Origin) (entries : List Entry) (events : List Event)
    (event : Event) (result : Result Outcome SwitchFault) (new : Engine P) where
  -- the entries, with what was gathered behind them
  abbrev pub so_far : List Entry
  so_far = entries ++ all_done events

  -- The event came to a journal as it was, which had room for what was done.
  pub record GathersPlain : Type 0 where
    pub leaves : AfterCall (meanings_of station mode) o entries events event result new
    pub had_room : IsOk result → full o.directory (state_at o so_far) (used_at o so_far) event ≡ None

  -- The journal was full for the event, and a compacted one has room with the bytes to spare: what was gathered was settled, the
  -- journal was compacted behind it, and then the event came.
  pub record GathersCompacted : Type 0 where
    pub leaves : AfterCall (meanings_of station mode) (compacted_after o so_far) so_far [] event result new
    pub was_full : IsSome (full o.directory (state_at o so_far) (used_at o so_far) event)
    pub has_room : full_with_spare o.directory (state_at o so_far) event ≡ None

  -- What was gathered was settled, and the disk failed while the journal was compacted behind it: the event is in doubt.
  pub record GathersNone : Type 0 where
    pub fault : result ≡ Err DiskFault
    pub keeps : Keeps station.observed mode o (so_far ++ Doubt (event ∷ []) ∷ []) (shown station.calls new)

-- A message was heard so, which may be gathered, and room was made for it: whatever entries the engine stood for, and whatever
-- events it had gathered. The answer is the outcome. A fault has its cause: Full is answered only where a compacted journal would be
-- full, too.
pub record IsGatheredWithRoom {P : Type 0} (station : StationMeanings P) (mode : SayMode) (event : Event)
    (result : Result Outcome SwitchFault) (old new : Engine P) : Type 0 where
  pub directory : new.directory ≡ old.directory
  pub adds : (o : Origin) (entries : List Entry) (events : List Event)
      → Gathers station.observed mode o entries events (shown station.calls old)
      → GathersPlain station mode o entries events event result new
      ⊎ (GathersCompacted station mode o entries events event result new
      ⊎ GathersNone station mode o entries events event result new)
  pub outcome : (o : Origin) (entries : List Entry) (events : List Event)
      → Gathers station.observed mode o entries events (shown station.calls old)
      → (answer : Outcome) → result ≡ Ok answer → answer ≡ outcome_behind o (entries ++ all_done events) event
  pub caused : (o : Origin) (entries : List Entry) (events : List Event)
      → Gathers station.observed mode o entries events (shown station.calls old)
      → (fault : SwitchFault) → result ≡ Err fault → let h : List Entry = entries ++ all_done events in
      IsAnswerCause (IsFullEither o h event) h (outcome_behind o h event) fault

-- whoever says the frames
abbrev pub GathersWithRoom : {P : Type 0} → StationMeanings P → Event → Result Outcome SwitchFault → (old new : Engine P) → Type 0
GathersWithRoom station event result old new = (mode : SayMode) → IsGatheredWithRoom station mode event result old new
