-- What files of this crate and of those above cite of it, in one place, and what it cites of those below.
pub mod Below
pub use Rattle.gts_dirfile.specs.Values.{address_of_text, has_only, values_of, where_holds}
pub use Rattle.gts_dirfile.specs.Document.{bad_key, circuit_row, level_row, rule_text}
pub use Rattle.gts_dirfile.specs.Parts.{document_view, rule_view}
pub use Rattle.gts_dirfile.specs.Reading.{IsChecked, are_names, directory_of_bytes, directory_of_text, number_of, rule_row, unknown_name, with_circuits, with_levels, with_rules}
pub use Rattle.gts_dirfile.specs.Rules.{AreRulesOf}
pub use Rattle.gts_dirfile.specs.declared.limits.TheConstants.{LONGEST_DIRECTORY}
pub use Below.*
