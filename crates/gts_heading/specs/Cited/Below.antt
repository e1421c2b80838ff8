-- What this crate says in words of what lies below it, in one place.
pub use Rattle.std.specs.Bool.{Decides}
pub use Rattle.std.specs.Char.{is_ascii_digit, is_ascii_uppercase}
pub use Rattle.std.specs.Cmp.Lexicographic.{bytes_decides, pointwise}
pub use Rattle.std.specs.List.{list_all, starts_with}
pub use Rattle.std.specs.Option.{option_eq}
pub use Rattle.std.specs.Str.Parse.{digits_value}
pub use Rattle.gts_alphabet.specs.Cited.{Reads}
unfoldable pub use Rattle.gts_alphabet.specs.Cited.{dec}
pub use Rattle.gts_alphabet.specs.declared.characters.TheConstants.{EOL}
