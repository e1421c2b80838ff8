-- What this crate says in words of what lies below it, in one place.
pub use Rattle.circular_buffer.specs.Buffer.{Buffer, buffer, keep_last}
pub use Rattle.std.specs.Borrow.{Bor}
pub use Rattle.std.specs.HashMap.{HashMap, get, spare}
pub use Rattle.std.specs.List.{AllByRecursion, count_by, enumerate_from, filter_map, fold, range_with_len, sum_by}
pub use Rattle.std.specs.Map.{lookup}
pub use Rattle.std.specs.Option.{option_copied_mut, option_or}
pub use Rattle.std.specs.Simd.Lanes.{zip2}
pub use Rattle.std.specs.Vec.{with_item}
pub use Rattle.std.specs.declared.alloc.Global.{Global}
pub use Rattle.std.specs.declared.hash.BuildHasherDefault.{BuildHasherDefault}
pub use Rattle.std.specs.declared.hash.FoldHasher.{FoldHasher}
pub use Rattle.gts_heading.specs.Cited.{HeadingFields, fields_of, is_same_heading}
unfoldable pub use Rattle.gts_heading.specs.Cited.{heading_text}
pub use Rattle.gts_number.specs.Cited.{IsCarriedByNoneIn, IsCount, IsLatestIn, number_in, numbers_in, range_in}
pub use Rattle.gts_frame.specs.declared.kind.Kind.{Kind}
