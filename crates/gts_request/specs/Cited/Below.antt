-- What this crate says in words of what lies below it, in one place.
pub use Rattle.std.specs.Borrow.{Bor}
pub use Rattle.std.specs.Char.{is_ascii_digit}
pub use Rattle.std.specs.List.{AllByRecursion, list_all, prefix_len, starts_with, sum_by}
pub use Rattle.std.specs.Option.{is_some}
pub use Rattle.std.specs.Result.{result_ok}
pub use Rattle.std.specs.Str.Parse.{digits_value}
pub use Rattle.gts_alphabet.specs.Cited.{Reads}
unfoldable pub use Rattle.gts_alphabet.specs.Cited.{dec}
pub use Rattle.gts_alphabet.specs.declared.characters.TheConstants.{EOL}
pub use Rattle.gts_heading.specs.Cited.{HeadingFields, IsHeading, after_word, are_capitals, capitals_at, fields_of, group_at, is_bbb, two_digits_at}
unfoldable pub use Rattle.gts_heading.specs.Cited.{bare_group_at, bare_heading_at, heading_text, plain_heading_at}
pub use Rattle.gts_heading.specs.declared.field.MessageField.{MessageField}
pub use Rattle.gts_heading.specs.declared.field.MessageField.TheVariants.{Aa, Bbb, Cccc, Day, Hour, Ii, Minute, Tt}
pub use Rattle.gts_number.specs.Cited.{IsCount, range_in}
