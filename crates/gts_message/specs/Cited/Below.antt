-- What this crate says in words of what lies below it, in one place.
pub use Rattle.std.specs.Borrow.{Bor}
pub use Rattle.std.specs.Char.{is_ascii_digit}
pub use Rattle.std.specs.List.{ends_with, list_all, prefix_len, take_while}
pub use Rattle.std.specs.Str.Parse.{AllDigits, digits_value}
pub use Rattle.gts_alphabet.specs.Cited.{Reads, message_of}
unfoldable pub use Rattle.gts_alphabet.specs.Cited.{dec}
pub use Rattle.gts_alphabet.specs.declared.characters.TheConstants.{EOL, ETX, SOH}
pub use Rattle.gts_alphabet.specs.declared.limits.TheConstants.{LONGEST_BODY}
pub use Rattle.gts_heading.specs.Cited.{HeadingFields, IsGap, IsHeading, after_gap, after_word, fields_of}
unfoldable pub use Rattle.gts_heading.specs.Cited.{bare_group_at, heading_at, heading_text, message_group_at, plain_heading_at}
pub use Rattle.gts_heading.specs.declared.field.MessageField.{MessageField}
pub use Rattle.gts_heading.specs.declared.field.MessageField.TheVariants.{End, HeadingStart, Number, Size, StartLine}
pub use Rattle.gts_heading.specs.declared.heading.Heading.{Heading}
