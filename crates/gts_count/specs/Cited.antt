-- What files of this crate and of those above cite of it, in one place, and what it cites of those below.
pub mod Below
pub use Rattle.gts_count.specs.Tally.{Tally, arrived, bulletins, bytes, came, draws, draws_among, is_of, key_at, key_of, once, recent_in, recent_of, tally}
pub use Rattle.gts_count.specs.Table.{bytes_below, circuit_lines, circuit_text, key_line, key_text, keys, table, table_of, with_key}
pub use Rattle.gts_count.specs.Rows.{AddsRow, ChangesRow, IsCount, Rows, counted, has_row, no_row, row_at, row_in, with_bulletin, with_draw, without_bulletin, without_draw}
pub use Rattle.gts_count.specs.Numbers.{HasCame, IsRing, IsSmall, IsSound, all_joined, joined, kept_with, leaves, no_ring, ring_at, tally_of, with_newest, without_oldest}
pub use Rattle.gts_count.specs.Going.{counted_in, counted_with, heard_of, last_counted}
pub use Rattle.gts_count.specs.State.{drawn_of, takens_of, tally_at}
pub use Rattle.gts_count.specs.Counting.{AfterAccepted, AfterHeard, AfterSettled, AfterTaken, CanNote, Counts, CountsIf, Follows, GoesOn, IsDrawn, IsReady, IsTold, KeepsRest, Knows, Notes, NotesDraw, Prepares, StandsAt, key_of_frame, outdated}
pub use Rattle.gts_count.specs.Counted.{ShowsTable, StandsWhere, counted_meanings, meanings_by, state_at}
pub use Rattle.gts_count.specs.Text.{AreInOrder, SortedRows, entry_text, is_counted, key_lines, numbers_lines, numbers_text}
pub use Rattle.gts_count.specs.Start.{AreBodies, Begins, HasEachRow, HasKeys, HasRings, HaveRows, NotesAll, NotesDraws, NotesKept, NotesStart, Starts, at_position, key_by, nothing_drawn, ring_with}
pub use Rattle.gts_count.specs.declared.counting.Counting.{Counting}
pub use Rattle.gts_count.specs.declared.numbers.Numbers.{Numbers}
pub use Rattle.gts_count.specs.declared.parts.CountedParts.{CountedParts}
pub use Rattle.gts_count.specs.declared.recent.Arrival.{Arrival}
pub use Rattle.gts_count.specs.declared.recent.Recent.{Recent}
pub use Rattle.gts_count.specs.declared.rows.Row.{Row}
unfoldable pub use Below.*
