-- What files of this crate and of those above cite of it, in one place, and what it cites of those below.
pub mod Below
pub use Rattle.gts_report.specs.Sets.{agree, bytes_below, has_text, is_whole, segment_in, set_line, set_of, sets_of, stands_in, texts_of, with_set}
unfoldable pub use Rattle.gts_report.specs.Sets.{is_set}
pub use Rattle.gts_report.specs.Report.{circuit_line, circuit_lines, report}
pub use Rattle.gts_report.specs.Noted.{HasSeen, entry_of}
pub use Rattle.gts_report.specs.Changes.{all_circuit_lines, behind, beside_rules, both_rule_lines, changes, duplicates_line, has_rule, known, name_text, names_text, need_of_circuit, refused_line, row_of, rule_change, rule_lines, same_rule, stays_lines, word_line}
pub use Rattle.gts_report.specs.Kept.{TellsStaying, kept_under}
unfoldable pub use Below.*
