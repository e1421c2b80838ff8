-- What a day comes to: its history by the fold over its steps, from nothing on, and the summary of that (profile).
use Rattle.std.specs.Prelude.{◌≡◌, ℕ, ◌+◌, List, ◌∷◌, ◌++◌, map, sum, Some}
use Rattle.gts_generate.specs.Cited.Below.{Done, Entry, Event, Need, Outside, State, after_all, begun, bytes_of_entries, entries, full, need, nothing, said}
use Rattle.gts_event.specs.declared.fault.SwitchFault.TheVariants as switch
use Rattle.gts_generate.specs.Centre.{directory}
use Rattle.gts_generate.specs.Day.{steps}
use Rattle.gts_generate.specs.Summary.{summary_lines}

-- the day begins with nothing
abbrev pub start : State
start = begun (nothing directory)

-- the entries of a day of so many messages
abbrev pub history : ℕ → List Entry
history count = entries directory start (steps count)

-- the state after the first entries of a day, and the bytes of the journal then; an empty one has 41
abbrev pub state_after : List Entry → State
state_after entries = after_all directory start entries

abbrev pub used_after : List Entry → ℕ
used_after entries = 41 + bytes_of_entries directory start entries

-- what is said of a day of so many messages
abbrev pub outside_of : ℕ → Outside
outside_of count = said directory start (history count)

-- how many bulletins were drawn, over all circuits
abbrev pub draws_in : Need → ℕ
draws_in need = sum (map (λ circuit. circuit.draws) need.circuits)

-- The summary of a day of so many messages: of what was said of it, and of what the switch stands at behind it.
abbrev pub day_summary : ℕ → List ℕ
day_summary count =
    let behind : Need = need directory (state_after (history count)) in
    summary_lines count (outside_of count) behind.accepted (draws_in behind) (used_after (history count))

-- the journal is full for an event of a day of so many messages: with it and all draws due then, more bytes would be used than
-- may be
pub record IsFullOn (count used need limit : ℕ) : Type 0 where
  pub front : List Entry
  pub event : Event
  pub back : List Entry
  pub parts : history count ≡ front ++ Done event ∷ back
  pub full : full directory (state_after front) (used_after front) event ≡ Some (switch.Full used need limit)
