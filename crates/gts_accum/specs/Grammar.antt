-- Files of accumulated bulletins as a grammar: which bytes are a file, and from which place on bytes are none (profile).
use Rattle.std.specs.Prelude.{◌≡◌, ◌⊎◌, ℕ, ◌+◌, ◌<◌, ◌≤◌, List, [], ◌++◌, length, take, flat_map}
use Rattle.std.specs.List.{AllByRecursion}
use Rattle.gts_accum.specs.declared.format.Format.{Format}
use Rattle.gts_accum.specs.File.{Entry, IsEntry, entry_text, head_text}

-- A file ends where its bytes end between two entries, or with the head of an entry of length 0, of either format. What stands
-- behind such a head is not read.
abbrev pub IsEnd : (end unread : List ℕ) → Type 0
IsEnd end unread = ((end ≡ []) × (unread ≡ [])) ⊎ ((format : Format) × (end ≡ head_text format 0))

-- a file of these entries: they stand one after another, and then the end, within so many bytes
pub record IsFile (most : ℕ) (file : List ℕ) (entries : List Entry) : Type 0 where
  pub each : AllByRecursion IsEntry entries
  pub end : List ℕ
  pub unread : List ℕ
  pub ends : IsEnd end unread
  pub text : file ≡ flat_map entry_text entries ++ end ++ unread
  pub short : length (flat_map entry_text entries ++ end) ≤ most

-- some file begins with these bytes, the greatest length left aside
abbrev pub Begins : List ℕ → Type 0
Begins bytes = (more : List ℕ) × (entries : List Entry) × (most : ℕ) × IsFile most (bytes ++ more) entries

-- The bytes are no file, and this is the first place that no file goes on through: files begin with all that stands before it,
-- and none with the byte at it too, where there is one and a file may have more bytes.
pub record IsBadAt (most : ℕ) (file : List ℕ) (at : ℕ) : Type 0 where
  pub within : at ≤ length file
  pub allowed : at ≤ most
  pub before : Begins (take at file)
  pub no_file : (entries : List Entry) → IsFile most file entries → ⊥
  pub byte : at < length file → at < most → Begins (take (at + 1) file) → ⊥
