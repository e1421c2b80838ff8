-- What files of this crate and of those above cite of it, in one place, and what it cites of those below.
pub mod Below
pub use Rattle.gts_heading.specs.Letters.{are_capitals, is_bbb, is_group}
pub use Rattle.gts_heading.specs.Heading.{HeadingFields, IsGap, IsHeading, IsHeadingLine, fields_of, group_text, is_same_heading}
unfoldable pub use Rattle.gts_heading.specs.Heading.{heading_text}
pub use Rattle.gts_heading.specs.Reading.{NoBlank, after_gap, after_word, capitals_at, group_at, letters_at, two_digits_at, with_group}
unfoldable pub use Rattle.gts_heading.specs.Reading.{bare_group_at, bare_heading_at, heading_at, message_group_at, plain_heading_at}
pub use Rattle.gts_heading.specs.declared.field.MessageField.{MessageField}
pub use Rattle.gts_heading.specs.declared.field.MessageField.TheVariants.{Aa, Bbb, Cccc, Day, HeadingEnd, Hour, Ii, Minute, Tt}
pub use Rattle.gts_heading.specs.declared.heading.Heading.{Heading}
unfoldable pub use Below.*
