-- What is needed of each circuit under a directory that takes over.
use Rattle.std.specs.Prelude.{◌≡◌, ◌==◌, ℕ, Bool, List, [], get_or, slice_get, if◌then◌else◌, Option, None, Some, Result, Ok, Err}
use Rattle.gts_migrate.specs.Cited.Below.{Circuit, CircuitNeed, Directory, Need, circuit_needs, last_of, unused}
use Rattle.gts_migrate.specs.LettingGo.{goes_on}
use Rattle.gts_migrate.specs.declared.fault.MigrateFault.{MigrateFault}
use Rattle.gts_migrate.specs.declared.fault.MigrateFault.TheVariants.{Waits}

-- what a circuit brings along under a row that keeps so many draws: what waits, but on one that is closed, and the last draws where
-- its numbers have the same digits; nothing is owed
abbrev pub under_row : (closed same : Bool) → ℕ → CircuitNeed → CircuitNeed
under_row closed same count c = record c {
  waiting = if closed then [] else c.waiting;
  kept = last_of count (if same then c.kept else []);
  owed = [];
}

-- what is needed of each circuit of the new directory
abbrev pub circuits_under : Directory → Directory → Need → List CircuitNeed
circuits_under new old n = circuit_needs new (goes_on new old n)

-- each circuit that has a row in both directories goes on with what it brings along under the new one
abbrev pub EachGoesOn : Directory → Directory → Need → Type 0
EachGoesOn new old n =
    (c : ℕ) (row next : Circuit) → slice_get old.circuits c ≡ Some row → slice_get new.circuits c ≡ Some next
    → get_or (circuits_under new old n) c unused
    ≡ under_row next.closed (next.digits == row.digits) next.kept (get_or n.circuits c unused)

-- where something waits on a closed circuit, the first such one is answered with how many wait
abbrev pub TellsWaiting : {T : Type 0} → Result T MigrateFault → Option (ℕ × ℕ) → Type 0
TellsWaiting (Ok done) found = found ≡ None
TellsWaiting (Err fault) None = ⊥
TellsWaiting (Err fault) (Some found) = fault ≡ Waits found.0 found.1
