-- The file that a checkpoint is written to.
use Rattle.std.specs.Prelude.{◌≡◌, ◌<◌, ◌^◌, ℕ, List, [], ◌∷◌, ◌++◌, length}
use Rattle.gts_checkpoint.specs.Cited.Below.{AllByRecursion, Bulletin, Call, IsSynced, Need, bulletin_of, bulletin_text, circuit_need_of, circuit_text, file_text, magic, open_gate, seen}
use Rattle.gts_event.specs.declared.values.Bulletin as values
use Rattle.gts_event.specs.declared.values.CircuitNeed as value_circuit
pub use Rattle.gts_record.specs.Record.{closed_gate, bytes_of}
pub use Rattle.gts_record.specs.Format.{seal, sealed, first_seal, held, written}
pub use Rattle.gts_opening.specs.Journal.{checkpoint_text, compacted_bytes}

-- The file that is written (profile), a journal of the version that is written: its magic and this mark, an open gate, the
-- checkpoint of this need with its seal, where the seal of the header stands before it, and a closed gate. No record is behind it.
abbrev pub checkpoint_file : List ℕ → Need → List ℕ
checkpoint_file mark n = file_text written mark (checkpoint_text n ∷ []) [] (closed_gate ∷ [])

-- what stands in front of a checkpoint: the magic, the mark and an open gate
abbrev pub header_text : List ℕ → List ℕ
header_text mark = magic written ++ (mark ++ open_gate ∷ [])

-- a checkpoint with its seal, where the seal of the header stands before it
abbrev pub sealed_need : List ℕ → Need → List ℕ
sealed_need mark n = sealed written (first_seal written mark) (checkpoint_text n)

-- the seal of a checkpoint
abbrev pub need_seal : List ℕ → Need → List ℕ
need_seal mark n = seal written (first_seal written mark) (checkpoint_text n)

-- the circuit that a bulletin came in on fits a byte
abbrev pub FitsByte : Bulletin → Type 0
FitsByte b = b.from < 256

-- each of a need's
abbrev pub FitBytes : Need → Type 0
FitBytes n = AllByRecursion FitsByte n.bulletins

-- the checkpoint stands in the file, and all files are synced
pub record HasWritten (mark : List ℕ) (n : Need) (file : ℕ) (calls : List Call) : Type 0 where
  pub text : seen calls file ≡ checkpoint_file mark n
  pub synced : (k : ℕ) → IsSynced calls k

-- ---- the pieces in which a checkpoint is written

-- a bulletin, and what is needed of a circuit, as they are written
abbrev pub written_bulletin : values.Bulletin → List ℕ
written_bulletin b = bulletin_text (bulletin_of b)

abbrev pub written_circuit : value_circuit.CircuitNeed → List ℕ
written_circuit c = circuit_text (circuit_need_of c)

-- their numbers fit the bytes that they have
abbrev pub CanPutBulletin : values.Bulletin → Type 0
CanPutBulletin b = (b.from < 256) × (length b.body < 2 ^ 32)

abbrev pub CanPutCircuit : value_circuit.CircuitNeed → Type 0
CanPutCircuit c = (length c.waiting < 2 ^ 32) × (length c.kept < 2 ^ 32)
