-- What this crate says in words of what lies below it, in one place.
pub use Rattle.std.specs.List.{starts_with}
pub use Rattle.std.specs.Option.{option_map_or}
pub use Rattle.std.specs.Str.Parse.{AllDigits, digits_value}
pub use Rattle.gts_alphabet.specs.declared.characters.TheConstants.{EOL, SOH}
pub use Rattle.gts_alphabet.specs.declared.limits.TheConstants.{FRAME_HEAD, MOST_CIRCUITS}
pub use Rattle.gts_traits.specs.Cited.{PlaceSeen, no_bytes, nowhere, place_seen}
pub use Rattle.gts_traits.specs.declared.place.Place.{Place}
