-- What is noted of segments, and whether it is a whole set. A set is named by its heading, without its group.
use Rattle.std.specs.Prelude.{◌≡◌, ℕ, zero, suc, ◌+◌, ◌<◌, ◌≤◌, ◌%◌, ◌↔◌, Bool, false, ◌||◌, nat_eq, IsTrue, List, if◌then◌else◌}
use Rattle.gts_segments.specs.Cited.Below.{HeadingFields, heading_text, list_any, pointwise}
use Rattle.gts_segments.specs.declared.groups.TheConstants.{LETTERS, PLACES, GROUPS}
use Rattle.gts_segments.specs.Groups.{segment_at}

-- the headings that are noted, by their texts, in any order
abbrev pub Noted : Type 0
Noted = List (List ℕ)

-- a heading of this text is noted
abbrev pub is_noted : Noted → List ℕ → Bool
is_noted noted text = list_any (pointwise nat_eq text) noted

-- one more heading is noted, or was noted before: nothing else is
abbrev pub NotesToo : Noted → Noted → HeadingFields → Type 0
NotesToo old new h = (text : List ℕ) → is_noted new text ≡ (pointwise nat_eq (heading_text h) text || is_noted old text)

-- which groups of a set are noted, by their places
abbrev pub groups_of : Noted → HeadingFields → ℕ → Bool
groups_of noted h place = is_noted noted (heading_text (segment_at h place))

-- how many of so many places from one on pass
unfoldable pub passing : (ℕ → Bool) → ℕ → ℕ → ℕ
passing p from zero = 0
passing p from (suc n) = passing p from n + (if p (from + n) then 1 else 0)

-- no group is noted
abbrev pub IsMissing : (ℕ → Bool) → Type 0
IsMissing p = (place : ℕ) → place < GROUPS → p place ≡ false

-- The noted places are those below k, and exactly one last segment is noted, with the letter of place k.
pub record IsComplete (p : ℕ → Bool) (k : ℕ) : Type 0 where
  pub within : k ≤ PLACES
  pub places : (place : ℕ) → place < PLACES → IsTrue (p place) ↔ place < k
  pub last : (letter : ℕ) → letter < LETTERS → IsTrue (p (PLACES + letter)) ↔ (letter ≡ k % LETTERS)
