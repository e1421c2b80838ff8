-- What this crate says in words of what lies below it, in one place.
pub use Rattle.std.specs.Cmp.Lexicographic.{pointwise, same_text}
pub use Rattle.std.specs.List.{AllByRecursion, flat_map, list_all, list_any, range_with_len, slice_index_or, slice_set, starts_with}
pub use Rattle.std.specs.Str.Parse.{digits_value}
unfoldable pub use Rattle.gts_alphabet.specs.Cited.{dec}
unfoldable pub use Rattle.gts_heading.specs.Cited.{bare_group_at, bare_heading_at, heading_at, heading_text, message_group_at}
unfoldable pub use Rattle.gts_heading.specs.Cited.{plain_heading_at}
unfoldable pub use Rattle.gts_message.specs.Cited.{body_at, number_at, split_at, text_at}
pub use Rattle.gts_frame.specs.Cited.{Breaks, Carries, Decoding, Frame, IsFramed, IsFront, IsPiece, IsStreamFront, KeepAlive, KeepsAlive, Piece, ReadsOn, Rest, Shows, Sign, break_at, break_of, field_at, frame, has_piece, held_in, is_front, length_in, letters, open_part, piece_text, sign_at, signs_from, signs_in, signs_of, signs_of_step}
pub use Rattle.gts_frame.specs.declared.kind.Kind.{Kind}
pub use Rattle.gts_frame.specs.declared.kind.Kind.TheVariants.{An, Bi, Fx}
pub use Rattle.gts_frame.specs.declared.lost.FrameField.{FrameField}
unfoldable pub use Rattle.gts_request.specs.Cited.{request_at}
pub use Rattle.gts_directory.specs.Cited.{Directory}
pub use Rattle.gts_event.specs.Cited.{State, after_all, all_done, circuit_of_event, empty, is_here, left_to_give, on_circuit, takes_of_drain}
pub use Rattle.gts_event.specs.declared.event.Entry.{Entry}
pub use Rattle.gts_event.specs.declared.event.Entry.TheVariants.{Done, Restarted}
pub use Rattle.gts_event.specs.declared.event.Event.{Event}
pub use Rattle.gts_event.specs.declared.event.Event.TheVariants.{Heard, Lost, Taken}
