-- What this crate says in words of what lies below it, in one place.
pub use Rattle.clap.specs.Words.{Text, app_of, first_of, first_value, found_of, is_simple, kind_of, matches_of, rows_of, takes}
pub use Rattle.hex.specs.Hex.{decode_sized, encode_lower}
pub use Rattle.hex.specs.declared.error.FromHexError.{FromHexError}
pub use Rattle.std.specs.Char.{digit_value, is_ascii_digit}
pub use Rattle.std.specs.Cmp.Lexicographic.{pointwise}
pub use Rattle.std.specs.List.{list_all, slice_get}
pub use Rattle.std.specs.Str.Parse.{digits_value}
