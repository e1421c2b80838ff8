-- What this crate says in words of what lies below it, in one place.
pub use Rattle.std.specs.Char.{is_ascii_uppercase}
pub use Rattle.std.specs.Cmp.Lexicographic.{pointwise}
pub use Rattle.std.specs.List.{list_any}
unfoldable pub use Rattle.gts_alphabet.specs.Cited.{dec}
pub use Rattle.gts_heading.specs.Cited.{HeadingFields, fields_of, is_bbb, with_group}
unfoldable pub use Rattle.gts_heading.specs.Cited.{heading_text}
pub use Rattle.gts_bbb.specs.Cited.{kind_of}
pub use Rattle.gts_bbb.specs.declared.bbb.Bbb.{Bbb}
pub use Rattle.gts_bbb.specs.declared.bbb.Bbb.TheVariants.{Amendment, Correction, Delayed, LastSegment, Segment}
