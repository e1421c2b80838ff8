-- What this crate says in words of what lies below it, in one place.
pub use Rattle.sha2.specs.Hashers.{Holds256}
pub use Rattle.std.specs.Cmp.Lexicographic.{pointwise, same_text}
pub use Rattle.std.specs.List.{slice_index_or, starts_with}
pub use Rattle.gts_alphabet.specs.declared.limits.TheConstants.{LONGEST_BODY}
pub use Rattle.gts_frame.specs.Cited.{letters}
pub use Rattle.gts_frame.specs.declared.kind.Kind.{Kind}
pub use Rattle.gts_frame.specs.declared.kind.Kind.TheVariants.{An, Bi, Fx}
