-- A table of the numbers that came in a capture, as its steps are read.
use Rattle.std.specs.Prelude.{◌≡◌, ℕ, ◌≤◌, ◌<◌, List, [], ◌++◌, length, Result, Ok, Err, OnOk, flat_map}
use Rattle.gts_gap.specs.Cited.Below.{Bad, CaptureFault, Connections, Decode, Decoding, Directory, EndsBehind, EndsEarly, Event, Held, IsStepOf, IsWhole, Rose, SourceFault, Step, Takes, after_step, bytes_of_step, events_added, held_in, no_bytes}
use Rattle.gts_gap.specs.Numbers.{Numbered}
use Rattle.gts_gap.specs.Ring.{Ring, StandsAt}
use Rattle.gts_gap.specs.Capture.{events_with, number_of_event, numbers}
use Rattle.gts_connection.specs.Capture.{Head}
use Rattle.gts_gap.specs.declared.fault.TableFault.{TableFault}
use Rattle.gts_gap.specs.declared.fault.TableFault.TheVariants as table

-- why no table was made, where reading the capture had this fault
abbrev pub table_fault : CaptureFault → TableFault
table_fault (Bad at) = table.Capture at
table_fault SourceFault = table.SourceFault

-- the rings of a table
abbrev pub Rings : Type 0
Rings = List Ring

-- the numbers of events on each circuit
abbrev pub numbers_of : List Event → ℕ → List Numbered
numbers_of events c = flat_map (number_of_event c) events

-- whatever numbers a circuit's ring stood for, it stands for these and the ones that were added
abbrev pub Adds : Rings → Rings → (ℕ → List Numbered) → Type 0
Adds old new more = (c : ℕ) (ns : List Numbered) → StandsAt old c ns → StandsAt new c (ns ++ more c)

-- these bytes came on a circuit: the decoder took them, and their numbers were added
pub record IsFed (c : ℕ) (old : Decoding) (first : Rings) (bytes : List ℕ) (decoder : Decoding) (now : Rings) : Type 0 where
  pub held : (before : List ℕ) → old.held ≡ held_in before → decoder.held ≡ held_in (before ++ bytes)
  pub adds : (before : List ℕ) → old.held ≡ held_in before → Adds first now (numbers_of (events_added c before bytes))

-- all bytes of a feed were taken, and came on a circuit
pub record FeedsAll (observed : Type 0) (c : ℕ) (held held_now : Held) (left left_now : List ℕ)
    (decoder decoder_now : Decoding) (old new : Rings) : Type 0 where
  pub bytes : List ℕ
  pub taken : Takes observed bytes held held_now left left_now
  pub whole : held_now.feed ≡ 0
  pub fed : IsFed c decoder old bytes decoder_now new

-- bytes of a feed came on a circuit: all; or they ended in it
abbrev pub Feeds : (observed : Type 0) → ℕ → Result (Unit {0}) CaptureFault → (held held_now : Held) → (left left_now : List ℕ)
    → (decoder decoder_now : Decoding) → (old new : Rings) → Type 0
Feeds observed c (Ok _) held held_now left left_now decoder decoder_now old new =
    FeedsAll observed c held held_now left left_now decoder decoder_now old new
Feeds observed c (Err (Bad at)) held held_now left left_now decoder decoder_now old new =
    (bytes : List ℕ) × EndsBehind observed bytes at held left
Feeds observed c (Err SourceFault) held held_now left left_now decoder decoder_now old new = Unit {0}

-- a step of this head was done to its end: its numbers were added, and the decoders have what came on their connections
pub record DoesAll (observed : Type 0) (head : Head) (held held_now : Held) (left left_now : List ℕ)
    (decoders decoders_now : List Decoding) (old new : Rings) : Type 0 where
  pub step : Step
  pub of_head : IsStepOf head step
  pub taken : Takes observed (bytes_of_step step) held held_now left left_now
  pub whole : held_now.feed ≡ 0
  pub adds : (bs : Connections) → Decode decoders bs → Adds old new (numbers_of (events_with bs step))
  pub decode : (d : Directory) (bs : Connections) → length d.circuits ≡ length decoders → Decode decoders bs
      → Decode decoders_now (after_step d bs step)
  pub circuits : length decoders_now ≡ length decoders

-- the bytes ended in a step of this head
pub record EndsInStep (observed : Type 0) (head : Head) (at : ℕ) (held : Held) (left : List ℕ) : Type 0 where
  pub step : Step
  pub of_head : IsStepOf head step
  pub ends : EndsBehind observed (bytes_of_step step) at held left

abbrev pub DoesStep : (observed : Type 0) → Head → Result (Unit {0}) CaptureFault → (held held_now : Held) → (left left_now : List ℕ)
    → (decoders decoders_now : List Decoding) → (old new : Rings) → Type 0
DoesStep observed head (Ok _) held held_now left left_now decoders decoders_now old new =
    DoesAll observed head held held_now left left_now decoders decoders_now old new
DoesStep observed head (Err (Bad at)) held held_now left left_now decoders decoders_now old new = EndsInStep observed head at held left
DoesStep observed head (Err SourceFault) held held_now left left_now decoders decoders_now old new = Unit {0}

-- before the first step of a directory's capture
pub record IsNew (d : Directory) (rings : Rings) (decoders : List Decoding) : Type 0 where
  pub circuits : length rings ≡ length d.circuits
  pub empty : (c : ℕ) → c < length d.circuits → StandsAt rings c []
  pub decode : Decode decoders (no_bytes d)

-- on each circuit of the directory the ring stands for the numbers that came there
abbrev pub AllStand : Directory → Rings → (ℕ → List Numbered) → Type 0
AllStand d rings came = (c : ℕ) → c < length d.circuits → StandsAt rings c (came c)

-- the table stands for the numbers of these steps on each circuit
abbrev pub StandFor : Directory → List Step → Rings → Type 0
StandFor d steps rings = AllStand d rings (λ c. numbers d c steps)

-- The whole capture was read, and the table stands for its numbers.
pub record IsRead (observed : Type 0) (d : Directory) (rings : Rings) (bytes : List ℕ) : Type 0 where
  pub steps : List Step
  pub whole : observed → IsWhole d bytes steps
  pub circuits : length rings ≡ length d.circuits
  pub stand : StandFor d steps rings

-- the bytes are no capture: bad at this place, or they end there
abbrev pub IsCutAt : (observed : Type 0) → Directory → List ℕ → ℕ → Type 0
IsCutAt observed d bytes at = observed → (steps : List Step) × EndsEarly d bytes steps at

-- how the steps of a capture were gone through
abbrev pub Comes : (observed : Type 0) → Directory → Result (Unit {0}) CaptureFault → Rings → List ℕ → Type 0
Comes observed d (Ok _) rings bytes = IsRead observed d rings bytes
Comes observed d (Err (Bad at)) rings bytes = IsCutAt observed d bytes at
Comes observed d (Err SourceFault) rings bytes = Unit {0}

-- What reading a capture comes to: a table of its numbers; or where it is bad.
abbrev pub IsTabled : (observed : Type 0) → Directory → Result Rings TableFault → List ℕ → Type 0
IsTabled observed d (Ok rings) bytes = IsRead observed d rings bytes
IsTabled observed d (Err (table.Capture at)) bytes = IsCutAt observed d bytes at
IsTabled observed d (Err _) bytes = Unit {0}

-- the source's fault is answered only where its count rose; with a table, and where the bytes are no capture, it is as before
pub record HasTableCause {T : Type 0} (result : Result T TableFault) (before now : ℕ) : Type 0 where
  pub later : before ≤ now
  pub failed : result ≡ Err table.SourceFault → Rose before now
  pub sound : OnOk result (now ≡ before)
  pub capture : (at : ℕ) → result ≡ Err (table.Capture at) → now ≡ before
