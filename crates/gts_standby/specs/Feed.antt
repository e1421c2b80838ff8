-- The feed of a journal: what of it is sent to a standby station (profile).
use Rattle.std.specs.Prelude.{ℕ, suc, ◌-◌, Bool, true, false, ◌==◌, List, [], ◌∷◌, ◌++◌, length, take, drop, Some, None}
use Rattle.gts_standby.specs.Cited.Below.{Need, Version, checkpoint_text, compacted_bytes, first_seal, is_checkpoint, need_in, open_gate, record_size, record_text, seal, sealed, sealed_at}

-- The records behind open gates from this gate on, each with its seal, where this seal stands before them: none behind a gate that
-- isn't open. `n` is at least the number of bytes left.
abbrev pub feed_at : Version → ℕ → List ℕ → List ℕ → List ℕ
feed_at v (suc n) before (mark ∷ bytes) =
    elim (mark == open_gate) [
      | false ↦ []
      | true ↦ elim (sealed_at v before bytes) [
        | None ↦ []
        | Some r ↦
            sealed v before (record_text r) ++ feed_at v n (seal v before (record_text r)) (drop (record_size v r - 1) bytes)
      ]
    ]
feed_at v _ before _ = []

-- the checkpoint of this need, which stands behind the first gate, with its seal, and the records behind it
abbrev pub checkpoint_feed : Version → List ℕ → List ℕ → Need → List ℕ
checkpoint_feed v before bytes n =
    sealed v before (checkpoint_text n)
    ++ feed_at v (length bytes) (seal v before (checkpoint_text n)) (drop (compacted_bytes v n - 1) bytes)

-- what of a file is sent behind its header, by whether it begins with a checkpoint
abbrev pub feed_behind : Version → List ℕ → List ℕ → Bool → List ℕ
feed_behind v before bytes false = feed_at v (length bytes) before (drop 40 bytes)
feed_behind v before bytes true = checkpoint_feed v before bytes (need_in (drop 41 bytes))

-- the feed of a file that is the journal of a directory with this mark: its header, and each record behind an open gate, with its
-- seal
abbrev pub feed : Version → List ℕ → List ℕ → List ℕ
feed v mark bytes = take 40 bytes ++ feed_behind v (first_seal v mark) bytes (is_checkpoint bytes)
