-- What is a service, by the number of its connections.
use Rattle.std.specs.Prelude.{◌≡◌, ℕ, ◌≤◌, Bool, true, false, not, ◌==◌, List, Result, Err}
use Rattle.gts_receiver.specs.Cited.Below.{Answers, Entry, Event, Full, GoesOn, Idle, NoMemory, Outcome, SaysNoMore, Seen, SwitchFault, filter, own}
pub use Rattle.gts_event.specs.declared.event.Event.TheVariants.{Heard}
use Rattle.gts_receiver.specs.declared.limits.TheConstants.{WITHOUT_END, MOST_TRIES}

-- so many connections are those of a service, without end
abbrev pub goes_on : ℕ → Bool
goes_on connections = connections == WITHOUT_END

-- a message was heard for which there was no room, or no memory
abbrev pub is_try : Entry → Bool
is_try (Idle (Heard c kind message) (Full used need limit)) = true
is_try (Idle (Heard c kind message) NoMemory) = true
is_try _ = false

-- an answer that adds such an entry
abbrev pub is_wanting : Result Outcome SwitchFault → Bool
is_wanting (Err (Full used need limit)) = true
is_wanting (Err NoMemory) = true
is_wanting _ = false

-- The entries without the tries of a service, whose receiver keeps such a message and hears it again; all entries, where it is none.
abbrev pub settled : Bool → List Entry → List Entry
settled true entries = filter (λ e. not (is_try e)) entries
settled false entries = entries

-- so of a desk's own entries
abbrev pub settled_own : Bool → Seen → List Entry
settled_own service d = settled service (own d)

-- so many turns are as many as there are tries at most
abbrev pub AreMost : ℕ → Type 0
AreMost turns = MOST_TRIES ≤ turns

-- A service (w) takes this fault for the answer of an event that it tries again only behind that many turns.
abbrev pub TriesOn : Bool → Event → SwitchFault → ℕ → Type 0
TriesOn w event fault turns = w ≡ true → is_try (Idle event fault) ≡ true → AreMost turns

-- What became of an event at a desk: tries may have come before, and then it was answered so.
pub record Hears (service : Bool) (event : Event) (result : Result Outcome SwitchFault) (old new : Seen) : Type 0 where
  pub before : Seen
  pub desk : GoesOn old before
  pub tried : settled_own service before ≡ settled_own service old
  pub answers : Answers before event SaysNoMore result new
