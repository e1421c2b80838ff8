-- What files of this crate and of those above cite of it, in one place, and what it cites of those below.
pub mod Below
pub use Rattle.gts_frame.specs.Frame.{EndsWithEtx, Frame, IsFramed, IsPiece, IsStream, KeepAlive, Piece, frame, keep_alive, letters, piece_text}
pub use Rattle.gts_frame.specs.Stream.{IsFront, IsPartial, IsStreamFront, Loss, Part, Rest, begins_kind, begins_length, begins_message, begins_with_soh, field_at, has_length, has_piece, is_front, length_in}
pub use Rattle.gts_frame.specs.Signs.{Breaks, Carries, KeepsAlive, Shows, Sign, break_at, break_of, held_from, held_in, open_part, sign_at, signs_from, signs_in, signs_of}
pub use Rattle.gts_frame.specs.Decoder.{Decoding, HasMessage, Makes, ReadsOn, after_step, broken, fresh, is_break, is_part, is_whole, signs_of_step}
pub use Rattle.gts_frame.specs.State.{Drops, IsHead, IsInMessage, IsSound, Takes, decoding}
pub use Rattle.gts_frame.specs.declared.head.Head.{Head}
pub use Rattle.gts_frame.specs.declared.kind.Kind.{Kind}
pub use Rattle.gts_frame.specs.declared.kind.Kind.TheVariants.{An, Bi, Fx}
pub use Rattle.gts_frame.specs.declared.lost.FrameField.{FrameField}
pub use Rattle.gts_frame.specs.declared.state.Taken.{Taken}
pub use Rattle.gts_frame.specs.declared.step.Step.{Step}
unfoldable pub use Below.*
