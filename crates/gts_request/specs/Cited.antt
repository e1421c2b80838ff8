-- What files of this crate and of those above cite of it, in one place, and what it cites of those below.
pub mod Below
pub use Rattle.gts_request.specs.Request.{IsItem, Item, Numbers, OfHeading, Place, asked_in, behind_asker, behind_item, behind_line, bytes_from, count_at, heading_item, item_at, items_at, line_start_at, number_at, numbers_at, places_in, run_at, step_at}
unfoldable pub use Rattle.gts_request.specs.Request.{request_at}
pub use Rattle.gts_request.specs.Grammar.{AskedLine, EndsBefore, Entry, IsAsker, IsEntry, IsLine, IsRequestFor, Lacks, LacksEnd, LacksEntry, LacksLine, LacksNumber, Latest, One, Range, StopsAt, StopsAtLine, StopsInLine, asked, entry_text, line_items, line_start, line_text, lines_items, lines_text, slashed}
pub use Rattle.gts_request.specs.Places.{item_of, next_of, place_of, read_of, step_of}
unfoldable pub use Rattle.gts_request.specs.Places.{items_from, items_left}
pub use Rattle.gts_request.specs.declared.fault.RequestField.{RequestField}
pub use Rattle.gts_request.specs.declared.fault.RequestField.TheVariants.{AskedHeading, Asker, LineEnd, LineStart, Number}
pub use Rattle.gts_request.specs.declared.line.Line.{Line}
pub use Rattle.gts_request.specs.declared.line.Line.TheVariants.{Ahd, Sqn}
unfoldable pub use Below.*
