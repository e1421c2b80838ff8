-- Words for the lists of a need whose soundness is judged.
use Rattle.std.specs.Prelude.{◌≡◌, ℕ, Bool, not, ◌&&◌, ◌||◌, List, ◌++◌, map, zip, slice_get, Some}
use Rattle.gts_checkpoint.specs.Cited.Below.{CircuitNeed, Directory, Need, is_distinct, list_all, list_any, positions_of}
pub use Rattle.gts_directory.specs.Directory.{Circuit}
pub use Rattle.gts_message.specs.Message.{body_at}
pub use Rattle.gts_event.specs.State.{has, heading_of}
pub use Rattle.gts_event.specs.History.{is_request, most_owed}
pub use Rattle.gts_event.specs.Need.{ascends, is_bulletin, is_there, is_needed, is_kept, has_counts, is_circuit_sound, is_sound}
pub use Rattle.gts_event.specs.Items.{bulletin_of, circuit_need_of, need_of}
use Rattle.gts_event.specs.declared.values.Bulletin as values

-- the positions of bulletins
abbrev pub positions : List values.Bulletin → List ℕ
positions bulletins = positions_of (map bulletin_of bulletins)

-- a position waits on a circuit, or is kept there
abbrev pub is_held : List CircuitNeed → ℕ → Bool
is_held circuits position = list_any (λ c. has c.waiting position || has c.kept position) circuits

-- Positions that wait on a circuit ascend, those that are kept differ, none is both, and each passes a test.
abbrev pub has_positions : (ℕ → Bool) → List ℕ → List ℕ → Bool
has_positions test waiting kept =
    ascends waiting && is_distinct kept && list_all (λ position. not (has kept position)) waiting && list_all test (waiting ++ kept)

-- whether what is needed of a circuit is sound beside the circuit's row
abbrev pub IsJudged : Directory → Need → ℕ → CircuitNeed → Bool → Type 0
IsJudged d n circuit c sound = (row : Circuit) → slice_get d.circuits circuit ≡ Some row → sound ≡ is_circuit_sound n row.kept c

-- what is needed of each circuit is sound
abbrev pub are_circuits_sound : Directory → Need → Bool
are_circuits_sound d n = list_all (λ row. is_circuit_sound n row.0.kept row.1) (zip d.circuits n.circuits)
