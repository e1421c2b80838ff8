-- What files of this crate and of those above cite of it, in one place, and what it cites of those below.
pub mod Below
pub use Rattle.gts_gap.specs.Numbers.{IsDigits, IsValue, Numbered, cycle, digits_in, greatest, half, is_in, last_run, missing, missing_of, value_of, values, values_from}
pub use Rattle.gts_gap.specs.Gaps.{Run, gaps, numbers_of, runs, with_value}
pub use Rattle.gts_gap.specs.Capture.{events_with, number_of_event, numbers, numbers_from}
pub use Rattle.gts_gap.specs.Asking.{ask_frame, ask_heading, ask_text, gap_lines, item_text, items_of, items_text}
pub use Rattle.gts_gap.specs.Bits.{bits_in, is_set}
pub use Rattle.gts_gap.specs.Ring.{HasDigits, IsCleared, IsRing, IsRingOf, Ring, Stands, StandsAt, advanced, begun, digits_of, empty, given, is_seen, items_asked, low_of, runs_given, runs_left, runs_of, unseen_from}
pub use Rattle.gts_gap.specs.Text.{front_text, more_text, run_of, text_of}
pub use Rattle.gts_gap.specs.Counting.{Adds, AllStand, Comes, DoesAll, DoesStep, EndsInStep, Feeds, FeedsAll, HasTableCause, IsCutAt, IsFed, IsNew, IsRead, IsTabled, Rings, StandFor, table_fault}
pub use Rattle.gts_gap.specs.Saying.{asked, report, run_line, run_lines, said_from, said_of}
pub use Rattle.gts_gap.specs.Ending.{CountsGaps, HasGapsCause, Names, Reads, report_of}
pub use Rattle.gts_gap.specs.declared.fault.TableFault.{TableFault}
pub use Rattle.gts_gap.specs.declared.moment.Moment.{Moment}
pub use Rattle.gts_gap.specs.declared.ring.TheConstants.{PLACES}
unfoldable pub use Below.*
