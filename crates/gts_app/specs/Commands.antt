-- The words that name a command.
use Rattle.std.specs.Prelude.{◌≡◌, ℕ, List, Some}
use Rattle.gts_app.specs.Cited.Below.{CheckFrom, CheckHeading, Command, Moment, Since, Unpack, command_of}
use Rattle.gts_app.specs.declared.world.World.{World}

-- the words name a command
abbrev pub IsCommand : List (List ℕ) → Type 0
IsCommand words = (command : Command) × (command_of words ≡ Some command)

-- the command names a circuit, which the directory might not have, or the front of a heading, which might be none
abbrev pub NamesCircuit : Command → Type 0
NamesCircuit (Unpack c) = Unit {0}
NamesCircuit (CheckHeading heading) = Unit {0}
NamesCircuit (CheckFrom heading from) = Unit {0}
NamesCircuit _ = ⊥

-- the words name a command, and neither a circuit nor a heading
abbrev pub IsSettled : List (List ℕ) → Type 0
IsSettled words = (command : Command) × (command_of words ≡ Some command) × (NamesCircuit command → ⊥)

-- the moment of a request
abbrev pub moment_at : (day hour minute : ℕ) → Moment
moment_at day hour minute = record { day = day; hour = hour; minute = minute }

-- what a standby has
abbrev pub since_at : (used : ℕ) (seal : List ℕ) → Since
since_at used seal = record { used = used; seal = seal }

-- Of what a command works on, nothing was read beside the directory, and this holds of the directory's source and the station, before
-- and after.
abbrev pub WithDirectoryAlone : {S C P : Type 0} → (S → P → S → P → Type 0) → (old new : World S C P) → Type 0
WithDirectoryAlone Holds old new = (new.capture ≡ old.capture) × Holds old.directory old.station new.directory new.station
