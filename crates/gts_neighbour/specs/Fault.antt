-- What the operator gets of each fault of a neighbour (profile).
use Rattle.std.specs.Prelude.{ℕ, List, codes}
use Rattle.gts_neighbour.specs.declared.fault.Fault.{Fault}
use Rattle.gts_neighbour.specs.declared.fault.Fault.TheVariants.{Usage, Input, Output, Line, NoMemory}

-- the exit status, which is that of the switch for the same fault
abbrev pub exit_of : Fault → ℕ
exit_of Usage = 2
exit_of Input = 8
exit_of Output = 7
exit_of Line = 10
exit_of NoMemory = 11

abbrev pub line_of : Fault → List ℕ
line_of Usage = codes "usage: IN_PORT OUT_PORT FILE_TO_SEND FILE_TO_WRITE"
line_of Input = codes "input fault"
line_of Output = codes "output fault"
line_of Line = codes "line fault"
line_of NoMemory = codes "no memory"
