-- What of a circuit's kept draws can be asked for under another row, but for how many that keeps.
use Rattle.std.specs.Prelude.{◌≡◌, ℕ, ◌==◌, List, [], if◌then◌else◌}
use Rattle.gts_report.specs.Cited.Below.{CircuitNeed as CircuitNeedOf, circuit_need_of, circuit_of_row, last_of}
use Rattle.gts_report.specs.Changes.{stays_lines}
use Rattle.gts_directory.specs.declared.rows.CircuitRow.{CircuitRow}
use Rattle.gts_event.specs.declared.values.CircuitNeed.{CircuitNeed}

abbrev pub kept_under : CircuitRow → CircuitRow → CircuitNeed → List ℕ
kept_under old new circuit = if new.digits == old.digits then circuit.kept else []

-- These are the lines of a circuit that stays, behind which it keeps what the new row keeps of that.
abbrev pub TellsStaying : ℕ → CircuitRow → CircuitRow → CircuitNeed → List ℕ → Type 0
TellsStaying c old new circuit lines =
    (behind : CircuitNeedOf) → behind.kept ≡ last_of new.kept (kept_under old new circuit)
    → lines ≡ stays_lines c (circuit_of_row old) (circuit_of_row new) (circuit_need_of circuit) behind
