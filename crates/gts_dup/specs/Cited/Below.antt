-- What this crate says in words of what lies below it, in one place.
pub use Rattle.circular_buffer.specs.Buffer.{Buffer, buffer, keep_last}
pub use Rattle.std.specs.Cmp.Lexicographic.{pointwise}
pub use Rattle.std.specs.HashMap.{HashMap, get, spare}
pub use Rattle.std.specs.List.{list_any}
pub use Rattle.std.specs.Option.{option_eq, option_or}
pub use Rattle.std.specs.declared.hash.BuildHasherDefault.{BuildHasherDefault}
pub use Rattle.std.specs.declared.hash.FoldHasher.{FoldHasher}
pub use Rattle.gts_alphabet.specs.declared.characters.TheConstants.{EOL}
pub use Rattle.gts_heading.specs.Cited.{HeadingFields, fields_of}
unfoldable pub use Rattle.gts_heading.specs.Cited.{heading_text}
