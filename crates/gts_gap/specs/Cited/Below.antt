-- What this crate says in words of what lies below it, in one place.
pub use Rattle.std.specs.Char.{is_ascii_digit}
pub use Rattle.std.specs.Int.{bit_at, bit_not, w64}
pub use Rattle.std.specs.List.{AllByRecursion, flat_map, list_all, range_with_len, slice_index_or}
pub use Rattle.std.specs.Str.Parse.{digits_value}
pub use Rattle.gts_alphabet.specs.Cited.{message_of}
unfoldable pub use Rattle.gts_alphabet.specs.Cited.{dec}
pub use Rattle.gts_alphabet.specs.declared.characters.TheConstants.{EOL, SOH}
pub use Rattle.gts_traits.specs.Cited.{AsksOutput, Call, Outside, Rose, SaysFront, SaysOnly, Tells, on}
pub use Rattle.gts_traits.specs.declared.failed.Failed.{Failed}
pub use Rattle.gts_traits.specs.declared.source.Source.{Ghosts as SourceMeanings}
pub use Rattle.gts_traits.specs.declared.station.Station.{Ghosts as StationMeanings}
pub use Rattle.gts_heading.specs.Cited.{HeadingFields, are_capitals, capitals_at}
unfoldable pub use Rattle.gts_heading.specs.Cited.{bare_group_at, bare_heading_at, heading_at}
unfoldable pub use Rattle.gts_heading.specs.Cited.{heading_text, message_group_at, plain_heading_at}
pub use Rattle.gts_heading.specs.declared.field.MessageField.{MessageField}
pub use Rattle.gts_heading.specs.declared.field.MessageField.TheVariants.{Cccc}
pub use Rattle.gts_message.specs.Cited.{MessageParts, message_end}
unfoldable pub use Rattle.gts_message.specs.Cited.{body_at, number_at, split_at, text_at}
pub use Rattle.gts_frame.specs.Cited.{Decoding, HasMessage, ReadsOn, frame, fresh, held_in, signs_of_step}
pub use Rattle.gts_frame.specs.declared.kind.Kind.{Kind}
pub use Rattle.gts_frame.specs.declared.kind.Kind.TheVariants.{An}
pub use Rattle.gts_frame.specs.declared.step.Step.{Step as FrameStep}
pub use Rattle.gts_request.specs.Cited.{Item, Numbers, behind_asker, bytes_from, count_at, items_at, numbers_at, run_at}
unfoldable pub use Rattle.gts_request.specs.Cited.{request_at}
pub use Rattle.gts_request.specs.declared.fault.RequestField.{RequestField}
pub use Rattle.gts_request.specs.declared.fault.RequestField.TheVariants.{Number}
pub use Rattle.gts_request.specs.declared.line.Line.TheVariants.{Sqn}
pub use Rattle.gts_directory.specs.Cited.{Circuit, Directory, circuit_of_row, peer_of}
pub use Rattle.gts_event.specs.declared.event.Event.{Event}
pub use Rattle.gts_event.specs.declared.event.Event.TheVariants.{Heard}
pub use Rattle.gts_connection.specs.Cited.{AreSteps, Compact, CompactHead, Connections, Drain, DrainHead, EndHead, EndsEarly, Feed, FeedHead, IsHead, IsHeadIn, IsWhole, Reopen, ReopenHead, Restart, RestartHead, Step, Take, TakeHead, after_step, bytes_of_step, connections_after, events_added, events_of_signs, head_text, no_bytes, step_text}
pub use Rattle.gts_connection.specs.declared.kind.CaptureKind.TheVariants.{Journaled}
pub use Rattle.gts_connection.specs.declared.limits.TheConstants.{LONGEST_CAPTURE}
pub use Rattle.gts_replay.specs.Cited.{Decode, EndsBehind, HasSourceCause, Held, IsBadAt, IsReadTo, IsStepOf, Takes, at_start, bytes_announced, line_of, readable_from}
pub use Rattle.gts_replay.specs.Heads.{head_of}
pub use Rattle.gts_replay.specs.declared.capture_fault.CaptureFault.{CaptureFault}
pub use Rattle.gts_replay.specs.declared.capture_fault.CaptureFault.TheVariants.{Bad, SourceFault}
pub use Rattle.gts_replay.specs.declared.head.Head.{Head}
pub use Rattle.gts_replay.specs.declared.head.Head.TheVariants.{End}
