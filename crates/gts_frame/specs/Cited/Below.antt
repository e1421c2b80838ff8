-- What this crate says in words of what lies below it, in one place.
pub use Rattle.std.specs.Char.{digit_value, is_ascii_digit}
pub use Rattle.std.specs.Cmp.Lexicographic.{pointwise}
pub use Rattle.std.specs.List.{AllByRecursion, ends_with, find, flat_map, list_all, list_any, range_with_len, starts_with}
pub use Rattle.std.specs.Str.Parse.{AllDigits, digits_value, digits_value_after}
pub use Rattle.gts_alphabet.specs.Cited.{message_of}
unfoldable pub use Rattle.gts_alphabet.specs.Cited.{dec}
pub use Rattle.gts_alphabet.specs.declared.characters.TheConstants.{EOL, ETX, SOH}
pub use Rattle.gts_alphabet.specs.declared.limits.TheConstants.{FRAME_HEAD, LONGEST_BODY, LONGEST_MESSAGE}
pub use Rattle.gts_number.specs.Cited.{IsCount}
