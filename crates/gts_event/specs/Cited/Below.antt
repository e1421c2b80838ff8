-- What this crate says in words of what lies below it, in one place.
pub use Rattle.std.specs.Borrow.{Bor}
pub use Rattle.std.specs.Cmp.Lexicographic.{pointwise}
pub use Rattle.std.specs.List.{AllByRecursion, enumerate_from, find, flat_map, list_all, list_any, range_with_len, slice_index_or, slice_set}
pub use Rattle.std.specs.Option.{option_map}
pub use Rattle.gts_alphabet.specs.Cited.{message_of}
unfoldable pub use Rattle.gts_alphabet.specs.Cited.{dec}
pub use Rattle.gts_alphabet.specs.declared.characters.TheConstants.{EOL}
pub use Rattle.gts_alphabet.specs.declared.limits.TheConstants.{LONGEST_BODY}
pub use Rattle.gts_traits.specs.Cited.{IsFront, Outside, channel_bytes, on}
pub use Rattle.gts_heading.specs.Cited.{HeadingFields, fields_of, is_same_heading}
unfoldable pub use Rattle.gts_heading.specs.Cited.{bare_group_at, bare_heading_at, heading_at, heading_text, message_group_at}
unfoldable pub use Rattle.gts_heading.specs.Cited.{plain_heading_at}
pub use Rattle.gts_heading.specs.declared.field.MessageField.{MessageField}
pub use Rattle.gts_heading.specs.declared.heading.Heading.{Heading}
pub use Rattle.gts_message.specs.Cited.{MessageParts}
unfoldable pub use Rattle.gts_message.specs.Cited.{body_at, number_at, split_at, text_at}
pub use Rattle.gts_number.specs.Cited.{number_in, numbers_in}
pub use Rattle.gts_frame.specs.Cited.{frame}
pub use Rattle.gts_frame.specs.declared.kind.Kind.{Kind}
pub use Rattle.gts_frame.specs.declared.kind.Kind.TheVariants.{An, Bi}
pub use Rattle.gts_frame.specs.declared.lost.FrameField.{FrameField}
pub use Rattle.gts_request.specs.Cited.{Item, Numbers, OfHeading}
unfoldable pub use Rattle.gts_request.specs.Cited.{request_at}
pub use Rattle.gts_request.specs.declared.fault.RequestField.{RequestField}
pub use Rattle.gts_directory.specs.Cited.{Circuit, Directory, circuit_of, level_of, localhost, named}
