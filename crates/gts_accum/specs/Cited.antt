-- What files of this crate and of those above cite of it, in one place, and what it cites of those below.
pub mod Below
pub use Rattle.gts_accum.specs.File.{BadAt, CutAt, Ending, Ends, Entry, IsEntry, IsHead, IsHeadFront, IsSize, Reading, bad_in, badplace, begins_format, begins_head, digits_of, entry_text, file_of, format_in, head_seen, head_text, longest, only, part_seen, place_of, read_from, reading, reading_from, size_in, with_entry}
pub use Rattle.gts_accum.specs.Grammar.{Begins, IsBadAt, IsFile}
pub use Rattle.gts_accum.specs.Capture.{back_of, capture_of, captured, ending_steps, ending_text, front_of, message_in, message_size, opening, steps_in, steps_read}
pub use Rattle.gts_accum.specs.Packing.{IsFileOf, bad_in_stream, cut_at, entries_text, file_of_messages, loss_in, messages_of, packed, stream_seen, whole}
pub use Rattle.gts_accum.specs.Streams.{IsBadStream, IsStreamWithin}
pub use Rattle.gts_accum.specs.Packs.{CountsPack, Holds, IsBad, IsTaken, Packs, PieceEnds, SameFiles, Stands, entries_in}
pub use Rattle.gts_accum.specs.Unpacking.{Gives, IsAtEnd, IsPast, Passes, Rest, Unpacking, ahead, ahead_of, bad_ahead, behind, capture_left, due, entry_rest, given_by, met, rest_of, to_come}
pub use Rattle.gts_accum.specs.Ahead.{Ahead, HasEnough, IsApart, IsReady, KeepsFailed, left_ahead}
pub use Rattle.gts_accum.specs.Judging.{Judges}
pub use Rattle.gts_accum.specs.UnpackedParts.{IsNext, IsSound, missing, unpacking_of}
pub use Rattle.gts_accum.specs.Traced.{Covers, IsLeft}
pub use Rattle.gts_accum.specs.Unpack.{CountsUnpack, HasFileCause, HasUnpackCause, IsEndAt, IsEndOf, IsFileEnd, IsPlaceMet, IsUnfailedFile, Unpacks}
pub use Rattle.gts_accum.specs.declared.end.UnpackEnd.{UnpackEnd}
pub use Rattle.gts_accum.specs.declared.end.UnpackEnd.TheVariants.{Ended}
pub use Rattle.gts_accum.specs.declared.format.Format.{Format}
pub use Rattle.gts_accum.specs.declared.format.Format.TheVariants.{Bare, Whole}
pub use Rattle.gts_accum.specs.declared.limits.TheConstants.{ENTRY_HEAD, LONGEST_BARE, LONGEST_FILE, LONGEST_STREAM, MOST_DUE}
pub use Rattle.gts_accum.specs.declared.next.Next.{Next}
pub use Rattle.gts_accum.specs.declared.next.Next.TheVariants.{Bad, End, Head}
pub use Rattle.gts_accum.specs.declared.pack_end.PackEnd.{PackEnd}
pub use Rattle.gts_accum.specs.declared.packing.Stop.{Stop}
pub use Rattle.gts_accum.specs.declared.packing.Stop.TheVariants.{Lost, Unsaid}
pub use Rattle.gts_accum.specs.declared.parts.UnpackedParts.{UnpackedParts}
unfoldable pub use Below.*
