-- What this crate says in words of what lies below it, in one place.
pub use Rattle.std.specs.Char.{digit_value, is_ascii_digit}
pub use Rattle.std.specs.List.{list_all}
pub use Rattle.std.specs.Str.Parse.{AllDigits, digits_value, digits_value_after}
