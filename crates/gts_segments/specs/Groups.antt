-- The groups of segments, and the places at which they stand (profile).
use Rattle.std.specs.Prelude.{ℕ, ◌+◌, ◌/◌, ◌%◌, Bool, true, false, List, [], ◌∷◌, Option, Some, None}
use Rattle.gts_segments.specs.Cited.Below.{Bbb, HeadingFields, LastSegment, Segment, kind_of, with_group}

-- The group at a place: P and two letters, in the order of the alphabet. 80 is P, 65 is A.
abbrev pub group_at : ℕ → List ℕ
group_at place = 80 ∷ (65 + place / 26) ∷ (65 + place % 26) ∷ []

-- a kind is that of a segment, the last one among them
abbrev pub is_segment_kind : Option Bbb → Bool
is_segment_kind (Some (Segment _)) = true
is_segment_kind (Some (LastSegment _)) = true
is_segment_kind _ = false

-- a group is that of a segment
abbrev pub is_segment_group : Option (List ℕ) → Bool
is_segment_group None = false
is_segment_group (Some letters) = is_segment_kind (kind_of letters)

-- a heading is that of a segment
abbrev pub is_segment : HeadingFields → Bool
is_segment h = is_segment_group h.bbb

-- a heading with the group at a place
abbrev pub segment_at : HeadingFields → ℕ → HeadingFields
segment_at h place = with_group h (Some (group_at place))
