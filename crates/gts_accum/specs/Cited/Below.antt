-- What this crate says in words of what lies below it, in one place.
pub use Rattle.std.specs.Char.{is_ascii_digit}
pub use Rattle.std.specs.List.{AllByRecursion, find, list_all, list_any, range_with_len, slice_index_or, slice_set, starts_with}
pub use Rattle.std.specs.Str.Parse.{AllDigits, digits_value}
unfoldable pub use Rattle.gts_alphabet.specs.Cited.{dec}
pub use Rattle.gts_alphabet.specs.declared.characters.TheConstants.{EOL, ETX, SOH}
pub use Rattle.gts_alphabet.specs.declared.limits.TheConstants.{FRAME_HEAD, LONGEST_MESSAGE}
pub use Rattle.gts_traits.specs.Cited.{AsksOutput, Call, HasCause, Outside, Rose, SaysFront, SaysOnly, Takes, Tells, on, seen}
pub use Rattle.gts_traits.specs.declared.failed.Failed.{Failed}
pub use Rattle.gts_traits.specs.declared.source.Source.{Ghosts as SourceMeanings}
pub use Rattle.gts_traits.specs.declared.station.Station.{Ghosts as StationMeanings}
unfoldable pub use Rattle.gts_heading.specs.Cited.{bare_group_at, bare_heading_at, heading_at}
unfoldable pub use Rattle.gts_heading.specs.Cited.{heading_text, message_group_at, plain_heading_at}
pub use Rattle.gts_message.specs.Cited.{message_end}
unfoldable pub use Rattle.gts_message.specs.Cited.{body_at, number_at, split_at, text_at}
pub use Rattle.gts_frame.specs.Cited.{Breaks, Carries, Decoding, Frame, HasMessage, IsFramed, IsFront, IsPiece, IsStream, IsStreamFront, KeepAlive, KeepsAlive, Makes, Piece, ReadsOn, Shows, Sign, after_step, begins_kind, begins_length, begins_message, break_of, frame, has_length, held_in, is_front, keep_alive, length_in, letters, open_part, piece_text, signs_in, signs_of, signs_of_step}
pub use Rattle.gts_frame.specs.declared.kind.Kind.TheVariants.{An}
pub use Rattle.gts_frame.specs.declared.lost.FrameField.{FrameField}
pub use Rattle.gts_frame.specs.declared.step.Step.{Step as FrameStep}
unfoldable pub use Rattle.gts_request.specs.Cited.{request_at}
pub use Rattle.gts_directory.specs.Cited.{Directory}
pub use Rattle.gts_event.specs.Cited.{State, after_all, all_done}
pub use Rattle.gts_event.specs.declared.event.Entry.TheVariants.{Done}
pub use Rattle.gts_event.specs.declared.event.Event.{Event}
pub use Rattle.gts_event.specs.declared.event.Event.TheVariants.{Heard}
pub use Rattle.gts_event.specs.declared.fault.SwitchFault.TheVariants.{DiskFault, SayFault}
pub use Rattle.gts_connection.specs.Cited.{AreSteps, Connections, EndHead, EndsEarly, EndsInFeed, EndsInHead, Feed, FeedHead, IsPartialHead, IsWhole, Reopen, ReopenHead, Step, entries, entries_from, events_added, events_in, head_of, step_text, with_bytes}
unfoldable pub use Rattle.gts_connection.specs.Cited.{readable}
pub use Rattle.gts_connection.specs.declared.kind.CaptureKind.TheVariants.{Journaled}
pub use Rattle.gts_connection.specs.declared.limits.TheConstants.{LONGEST_CAPTURE}
pub use Rattle.gts_calls.specs.Cited.{Standing}
pub use Rattle.gts_calls.specs.declared.switch.Switch.{Ghosts as SwitchMeanings}
pub use Rattle.gts_replay.specs.Cited.{HasReplayCause, StandsFor}
pub use Rattle.gts_replay.specs.declared.end.ReplayEnd.{ReplayEnd}
