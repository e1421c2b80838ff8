-- A checkpoint that stands in no file, and what it must be.
use Rattle.std.specs.Prelude.{◌≡◌, ℕ, List, [], ◌∷◌, ◌++◌, IsTrue, replicate, refl}
use Rattle.std.proofs.lemmas.Bool.{leb-true}
use Rattle.gts_checkpoint.specs.Cited.Below.{Call, Did, Directory, FitsLimit, IsPossible, Need, Version, Writes, checkpoint_text, is_sound, unowed}

-- as many bytes as a header and a gate have
unfoldable pub in_front : List ℕ
in_front = replicate 41 0

-- calls of which the first file has these bytes behind a header and a gate, whatever those are
abbrev pub laid : List ℕ → List Call
laid bytes = Did (Writes 0 0 (in_front ++ bytes)) ∷ []

pub laid_is_possible : (bytes : List ℕ) → IsPossible (laid bytes)
laid_is_possible bytes = (leb-true 0 0 refl, tt)

-- These bytes are the checkpoint of this need, which may be the first record of a journal of this version: a history can have it,
-- it has nothing owed, and the journal has room for all draws that are due.
pub record IsCheckpoint (v : Version) (d : Directory) (bytes : List ℕ) (n : Need) : Type 0 where
  pub text : bytes ≡ checkpoint_text n
  pub sound : IsTrue (is_sound d n)
  pub free : unowed n ≡ n
  pub room : FitsLimit v d n
