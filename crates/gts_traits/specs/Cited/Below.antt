-- What this crate says in words of what lies below it, in one place.
pub use Rattle.std.specs.List.{slice_get}
pub use Rattle.gts_alphabet.specs.declared.limits.TheConstants.{CHANNELS}
