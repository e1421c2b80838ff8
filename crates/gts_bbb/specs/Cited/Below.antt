-- What this crate says in words of what lies below it, in one place.
pub use Rattle.std.specs.Char.{is_ascii_uppercase}
pub use Rattle.gts_heading.specs.Cited.{is_bbb}
