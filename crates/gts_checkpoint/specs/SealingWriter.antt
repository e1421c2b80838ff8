-- A file that is written piece by piece.
use Rattle.std.specs.Prelude.{◌≡◌, ℕ, ◌+◌, List, ◌++◌, length}
use Rattle.gts_checkpoint.specs.Cited.Below.{Call, Sealer, Seals, Version, seen}

-- The file, how many bytes of it are written, the bytes that are held to be written behind them, and the seal of what was put.
pub record SealingWriter : Type 0 where
  pub file : ℕ
  pub place : ℕ
  pub held : List ℕ
  pub sealer : Sealer

-- the writer with these bytes behind those that it held, and with this seal
abbrev pub holding : SealingWriter → List ℕ → Sealer → SealingWriter
holding writer bytes sealer = record writer { held = writer.held ++ bytes; sealer = sealer }

-- how many bytes were put so far
abbrev pub count_of : SealingWriter → ℕ
count_of writer = writer.place + length writer.held

-- what was put so far: what a read of the file gives, and what is held
abbrev pub put_by : List Call → SealingWriter → List ℕ
put_by calls writer = seen calls writer.file ++ writer.held

-- the file has as many bytes as are written
abbrev pub Stands : List Call → SealingWriter → Type 0
Stands calls writer = length (seen calls writer.file) ≡ writer.place

-- these bytes were put behind those that were put before
pub record HasPut (observed : Type 0) (bytes : List ℕ) (old : List Call) (writer : SealingWriter) (new : List Call)
    (next : SealingWriter) : Type 0 where
  pub file : next.file ≡ writer.file
  pub count : count_of next ≡ count_of writer + length bytes
  pub stands : observed → Stands old writer → Stands new next
  pub text : observed → Stands old writer → put_by new next ≡ put_by old writer ++ bytes
  pub seals : (v : Version) (before text : List ℕ) → Seals writer.sealer v before text → Seals next.sealer v before (text ++ bytes)
