-- What a run says of why it ended: its history, and what in it a fault leaves.
use Rattle.std.specs.Prelude.{◌≡◌, ℕ, ◌+◌, List, [], ◌∷◌, ◌++◌, length, Option, Some, None}
use Rattle.gts_circuits.specs.Housed.{Beginning}
use Rattle.gts_circuits.specs.Cited.Below.{Engine, Entry, Event, Idle, IsStreamFront, Known, LONGEST_CONNECTION, Part, SourceMeanings, StationMeanings, SwitchFault, all_done, entries_under, events_over, goes_on}
use Rattle.gts_circuits.specs.Flat.{flat}
use Rattle.gts_circuits.specs.Working.{receiver_name}
use Rattle.gts_receiver.specs.Cited.{settled}
use Rattle.gts_circuits.specs.declared.service.end.ServeEnd.{ServeEnd}
use Rattle.gts_circuits.specs.Serving.{IsServed, LinesSeen}

-- the turns of all threads, and the entries of each: none where no circuit was served
abbrev pub threads_of : Option (Known (List Entry)) → List (ℕ × List Entry)
threads_of (Some pass) = pass.seen
threads_of None = []

-- the history of a run: that of all threads and the takes behind it
abbrev pub history_of : {P S : Type 0} (station : StationMeanings P) (b : Beginning)
    (incoming : SourceMeanings S) (sink_tells : Type 0) (connections : ℕ) (before now : LinesSeen) (pass : Option (Known (List Entry)))
    (end : ServeEnd) (engine : Engine P)
    → IsServed station b incoming sink_tells connections before now pass end engine → List (ℕ × Entry)
history_of station b incoming sink_tells connections before now (Some pass) end engine served =
    flat pass.seen ++ served.drained
history_of station b incoming sink_tells connections before now None end engine served = []

-- One of these entries is an event that was answered with this fault and changed nothing. Of it and of the entries before it this
-- holds.
pub record HasFault (entries : List Entry) (fault : SwitchFault) (Because : List Entry → Event → Type 0) : Type 0 where
  pub front : List Entry
  pub event : Event
  pub back : List Entry
  pub is : entries ≡ front ++ Idle event fault ∷ back
  pub because : Because front event

-- On the last of the connections that it may begin the source of circuit c gave as many bytes as one connection may. Synchronisation
-- was kept over them, and the receiver's own entries are those of all connections, but for the tries of a service.
pub record GaveMost (source_tells : Type 0) (connections : ℕ) (now : LinesSeen) (history : List (ℕ × Entry)) (c : ℕ) : Type 0 where
  pub earlier : List Part
  pub last : Part
  pub whole : length earlier + 1 ≡ connections
  pub size : length last.given ≡ LONGEST_CONNECTION
  pub kept : IsStreamFront last.given
  pub parts : source_tells → (now.bytes c).parts ≡ earlier ++ last ∷ []
  pub done : settled (goes_on connections) (entries_under (receiver_name c) history) ≡ all_done (events_over c (earlier ++ last ∷ []))
