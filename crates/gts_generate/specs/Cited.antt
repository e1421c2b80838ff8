-- What files of this crate and of those above cite of it, in one place, and what it cites of those below.
pub mod Below
pub use Rattle.gts_generate.specs.Day.{body, body_of, capture, capture_from, drains, ending, heading_at, message, report, request, steps, steps_of, turn}
pub use Rattle.gts_generate.specs.DayView.{IsSound, bytes_left, pieces_from, pieces_left}
pub use Rattle.gts_generate.specs.Centre.{circuit_row, directory, level_rows, rows, rule_row}
pub use Rattle.gts_generate.specs.Summary.{draws_of, frames_in, frames_said, is_circuit, line, lines_from, receipts_of, summary_lines, summary_text}
pub use Rattle.gts_generate.specs.History.{IsFullOn, day_summary, draws_in, history, outside_of, start, state_after}
pub use Rattle.gts_generate.specs.Counts.{is_accepted, is_draw, is_duplicate, is_granted, is_resend, outcomes_on}
pub use Rattle.gts_generate.specs.Running.{BeginsDay, EndsDay, calls_on, day_origin}
unfoldable pub use Below.*
