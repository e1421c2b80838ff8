-- Which circuits stay, as the rows have it: with names that are padded.
use Rattle.std.specs.Prelude.{Bool}
use Rattle.gts_directory.specs.declared.rows.CircuitRow.{CircuitRow}
use Rattle.gts_directory.specs.Rows.{circuit_of_row}
use Rattle.gts_directory.specs.TakingOver.{keeps_place}

-- a circuit stays
abbrev pub row_keeps_place : CircuitRow → CircuitRow → Bool
row_keeps_place old new = keeps_place (circuit_of_row old) (circuit_of_row new)
