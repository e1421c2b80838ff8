-- What became of a piece of a connection: what the decoder holds by then, and which entries were added for its events.
use Rattle.std.specs.Prelude.{◌≡◌, ℕ, ◌≤◌, Bool, true, false, List, [], ◌∷◌, ◌++◌, length, take, None, Result, Ok, Err, IsSome}
use Rattle.gts_calls.specs.Cited.Below.{Decoding, DiskFault, Doubt, Entry, Event, FrameField, Full, Idle, Kind, LONGEST_MESSAGE, NoMemory, Outcome, SayFault, Spent, Stopped, SwitchFault, all_done, all_unsaid, held_in}
use Rattle.gts_event.specs.declared.event.Event.TheVariants as event
use Rattle.gts_calls.specs.declared.fed.Fed.{Fed}
use Rattle.gts_calls.specs.declared.fed.FeedEnd.{FeedEnd}
use Rattle.gts_calls.specs.declared.fed.FeedEnd.TheVariants.{All, Lost, Wanting, Fault}

-- ---- ends

-- all was dealt with, and synchronisation kept
abbrev pub is_all : FeedEnd → Bool
is_all All = true
is_all _ = false

-- all was dealt with
abbrev pub is_done : FeedEnd → Bool
is_done All = true
is_done (Lost field) = true
is_done _ = false

-- all was dealt with, or with which fault not
abbrev pub answer_of : FeedEnd → Result (Unit {0}) SwitchFault
answer_of All = Ok tt
answer_of (Lost field) = Ok tt
answer_of (Wanting kind fault) = Err fault
answer_of (Fault fault) = Err fault

-- behind a message in a frame of this type that was answered so
abbrev pub end_heard : Kind → Result Outcome SwitchFault → FeedEnd
end_heard kind (Ok outcome) = All
end_heard kind (Err DiskFault) = Fault DiskFault
end_heard kind (Err SayFault) = Fault SayFault
end_heard kind (Err (Full used need limit)) = Wanting kind (Full used need limit)
end_heard kind (Err (Stopped by)) = Fault (Stopped by)
end_heard kind (Err Spent) = Fault Spent
end_heard kind (Err NoMemory) = Wanting kind NoMemory

-- behind a loss of synchronisation in this field that was answered so
abbrev pub end_lost : FrameField → Result Outcome SwitchFault → FeedEnd
end_lost field (Ok outcome) = Lost field
end_lost field (Err fault) = Fault fault

-- a message that was wanting is no longer than one may be
abbrev pub IsShortAt : FeedEnd → List ℕ → Type 0
IsShortAt (Wanting kind fault) message = length message ≤ LONGEST_MESSAGE
IsShortAt _ message = Unit {0}

-- ---- the decoder

-- synchronisation is lost at the last of these bytes, which come behind those before
pub record LosesLast (before bytes : List ℕ) : Type 0 where
  pub front : List ℕ
  pub last : ℕ
  pub is : bytes ≡ front ++ last ∷ []
  pub kept : IsSome (held_in (before ++ front))
  pub lost : held_in (before ++ bytes) ≡ None

-- where synchronisation was kept before these bytes, it is kept over them
abbrev pub KeepsOver : (before bytes : List ℕ) → Type 0
KeepsOver before bytes = IsSome (held_in before) → IsSome (held_in (before ++ bytes))

-- how these bytes, behind those before, ended so: up to a loss, or with synchronisation kept
abbrev pub EndsOver : (before bytes : List ℕ) → FeedEnd → Type 0
EndsOver before bytes (Lost field) = LosesLast before bytes
EndsOver before bytes (Fault fault) = Unit {0}
EndsOver before bytes _ = KeepsOver before bytes

-- What was taken of a piece of a connection that had the bytes before, and what the decoder holds then.
pub record Takes (before piece : List ℕ) (fed : Fed) (decoder : Decoding) : Type 0 where
  pub held : decoder.held ≡ held_in (before ++ take fed.taken piece)
  pub ends : EndsOver before (take fed.taken piece) fed.end
  pub all : fed.end ≡ All → fed.taken ≡ length piece

-- ---- the events

-- the last of these events is this one
pub record EndsWith (events : List Event) (last : Event) : Type 0 where
  pub front : List Event
  pub is : events ≡ front ++ last ∷ []

-- there was no room, or no memory
abbrev pub IsWanting : SwitchFault → Type 0
IsWanting (Full used need limit) = Unit {0}
IsWanting NoMemory = Unit {0}
IsWanting _ = ⊥

-- these entries: the events before the last were done, and the last one was left idle with this fault
pub record LeavesLast (events : List Event) (last : Event) (fault : SwitchFault) (more : List Entry) : Type 0 where
  pub front : List Event
  pub is : events ≡ front ++ last ∷ []
  pub added : more ≡ all_done front ++ Idle last fault ∷ []

-- These entries: some events in front were done, and some behind them, one or more, became these together. At most one is behind them,
-- that with which it came to this.
pub record TurnsTogether (events : List Event) (became : List Event → List Entry) (more : List Entry) : Type 0 where
  pub front : List Event
  pub first : Event
  pub others : List Event
  pub behind : List Event
  pub is : events ≡ front ++ (first ∷ others) ++ behind
  pub few : length behind ≤ 1
  pub added : more ≡ all_done front ++ became (first ∷ others)

-- The entries that a fault leaves of these events of circuit c: the disk failed, and events are in doubt together; saying failed; or the
-- last one is idle, and is no message that was wanting.
abbrev pub AddsAtFault : ℕ → List Event → SwitchFault → List Entry → Type 0
AddsAtFault c events DiskFault more = TurnsTogether events (λ es. Doubt es ∷ []) more
AddsAtFault c events SayFault more = TurnsTogether events all_unsaid more
AddsAtFault c events (Stopped by) more = (last : Event) × LeavesLast events last (Stopped by) more
AddsAtFault c events Spent more = ⊥
AddsAtFault c events (Full used need limit) more = (field : FrameField) × LeavesLast events (event.Lost c field) (Full used need limit) more
AddsAtFault c events NoMemory more = (field : FrameField) × LeavesLast events (event.Lost c field) NoMemory more

-- The entries that are added for these events of circuit c, which the bytes ended that were taken, where it ended so and the decoder holds
-- this message, once all is settled.
abbrev pub AddsFed : ℕ → List Event → (message : List ℕ) → FeedEnd → List Entry → Type 0
AddsFed c events message All more = more ≡ all_done events
AddsFed c events message (Lost field) more = (more ≡ all_done events) × EndsWith events (event.Lost c field)
AddsFed c events message (Wanting kind fault) more = LeavesLast events (event.Heard c kind message) fault more × IsWanting fault
AddsFed c events message (Fault fault) more = AddsAtFault c events fault more
