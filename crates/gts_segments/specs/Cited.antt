-- What files of this crate and of those above cite of it, in one place, and what it cites of those below.
pub mod Below
pub use Rattle.gts_segments.specs.Groups.{group_at, is_segment, is_segment_group, is_segment_kind, segment_at}
pub use Rattle.gts_segments.specs.Segments.{IsComplete, IsMissing, Noted, NotesToo, groups_of, is_noted}
unfoldable pub use Rattle.gts_segments.specs.Segments.{passing}
pub use Rattle.gts_segments.specs.declared.groups.TheConstants.{GROUPS, LETTERS, PLACES}
pub use Rattle.gts_segments.specs.declared.table.SegmentStatus.TheVariants.{Complete}
unfoldable pub use Below.*
