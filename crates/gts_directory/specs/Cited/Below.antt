-- What this crate says in words of what lies below it, in one place.
pub use Rattle.std.specs.Char.{is_ascii_digit, is_ascii_uppercase}
pub use Rattle.std.specs.Cmp.Lexicographic.{pointwise}
pub use Rattle.std.specs.Int.{bit_at, bit_not, trailing_zeros, w64}
pub use Rattle.std.specs.List.{All, list_all, list_any, range_with_len, suffix_len}
pub use Rattle.std.specs.Option.{option_map, option_or}
pub use Rattle.std.specs.declared.net.ipv4_addr.Ipv4Addr.{Ipv4Addr}
pub use Rattle.gts_alphabet.specs.Cited.{Reads}
unfoldable pub use Rattle.gts_alphabet.specs.Cited.{dec}
pub use Rattle.gts_alphabet.specs.declared.characters.TheConstants.{BLANK}
pub use Rattle.gts_alphabet.specs.declared.limits.TheConstants.{MOST_CIRCUITS}
pub use Rattle.gts_heading.specs.Cited.{HeadingFields, are_capitals, fields_of}
pub use Rattle.gts_number.specs.Cited.{IsCount}
