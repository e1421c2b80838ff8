-- The pass that a desk keeps between its turns.
use Rattle.std.specs.Prelude.{◌≡◌, List, Option, Some, None, [], false}
use Rattle.gts_circuits.specs.Cited.Below.{Entry, Known, TableId}
use Rattle.gts_circuits.specs.Turning.{KnowsOwn}

-- no pass: its hall is none
abbrev pub no_pass : Known (List Entry)
no_pass = record { hall = None; name = 0; seen = []; own = []; full = false; parted = 0; joined = [] }

abbrev pub pass_of : Option (Known (List Entry)) → Known (List Entry)
pass_of (Some p) = p
pass_of None = no_pass

-- there is a pass of the hall, which knows its own entries
abbrev pub IsPassAt : TableId → Option (Known (List Entry)) → Type 0
IsPassAt hall (Some p) = (p.hall ≡ Some hall) × KnowsOwn p
IsPassAt hall None = ⊥
