-- What this crate says in words of what lies below it, in one place.
pub use Rattle.gts_traits.specs.Cited.{HasCause}
