-- What files of this crate and of those above cite of it, in one place, and what it cites of those below.
pub mod Below
pub use Rattle.gts_dup.specs.Window.{AllAbove, AllBelow, AllRecent, Ascends, IsGreatestBelow, NoneBelow, Window, digest_of, is_noted, is_of, is_of_below, is_recent, latest_below, recent_pairs}
pub use Rattle.gts_dup.specs.Index.{Forgets, Index, IsIndexOf, IsSound, indexed, is_position, key_of, latest_of, window_of}
unfoldable pub use Below.*
