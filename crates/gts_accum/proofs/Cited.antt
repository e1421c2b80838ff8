-- What proofs of this crate cite of its definitions, of the standard library and of crates below, in one place.
pub use Rattle.std.proofs.Common.{Bool, Err, IfSome, List, None, Ok, Option, Result, Some, [], ap, append_assoc, arith, cond, drop, false, flat_map, if◌then◌else◌, inl, inr, is_none, length, map, min, nat_eq, nat_le, nat_lt, not, option_map, pow-suc, refl, replicate, rules, subst, suc, sym, take, true, unwrap_or, zero, ℕ, ◌&&◌, ◌*◌, ◌++◌, ◌+◌, ◌-◌, ◌<◌, ◌==◌, ◌^◌, ◌∙◌, ◌∷◌, ◌≡◌, ◌≤◌, ◌⊎◌}
pub use Rattle.std.proofs.Math.Nat.{le-mul_of_pos_right}
pub use Rattle.std.proofs.Math.Seq.{take-append-add}
pub use Rattle.std.proofs.lemmas.Bool.{and_from, and_parts, cases_Bool, cases_lt, eq-eqb, eqb-true, false_from_ne_true, le-leb, le-ltb, leb-true, lt-ltb, ltb-false, ltb-true, ne_eqb, not-false, not-true, or_cases}
pub use Rattle.std.proofs.lemmas.Grind.{common_steps, flat_map-append}
pub use Rattle.std.proofs.lemmas.List.{append-nil, append_cancel_left, drop-drop, drop_all, drop_at, drop_min, get_or-set_same, length-append, length-drop, length-map, length-replicate, length-set, length-take, length-take-le, nil_from_length, take-append-drop, take-append-le, take-take, take_all, take_at, take_min, take_rest}
pub use Rattle.std.proofs.lemmas.Option.{none-some}
pub use Rattle.gts_alphabet.proofs.LawLemmas.{AllDigits-from_test, digits_value-dec, length-dec, test_from_AllDigits}
pub use Rattle.gts_connection.proofs.LawLemmas.{early_is_none, events-frame, readable-all, reads_once}
pub use Rattle.gts_connection.specs.Capture.{no_bytes}
pub use Rattle.gts_frame.proofs.LawLemmas.{front-computed, front-is, front-open, length-frame, nothing_begins, open-front, same_parts, shows-computed, shows-one}
pub use Rattle.gts_frame.proofs.ShowsLemmas.{reads-pieces}
pub use Rattle.gts_frame.proofs.SignLemmas.{IsBreak, IsBreak-from, reads-lost, reads-open, reads-part}
pub use Rattle.gts_frame.proofs.TestLemmas.{IsFirst, find-first, find-none, first_or_none, same_from_pointwise, take_split}
pub use Rattle.gts_replay.specs.Cited.{IsUnfailed}
pub use Rattle.gts_traits.proofs.OutsideLemmas.{on-append}
pub use Rattle.gts_traits.proofs.SayLemmas.{front_behind, front_more, said_more}
pub use Rattle.gts_accum.specs.Cited.{HasCause, IsApart, IsReady, KeepsFailed, left_ahead, Ahead, AllByRecursion, AllDigits, An, AreSteps, BadAt, Bare, Begins, Breaks, Call, Carries, Connections, Covers, CutAt, Decoding, Directory, Done, ENTRY_HEAD, ETX, EndHead, Ended, Ending, Ends, EndsEarly, EndsInFeed, EndsInHead, Entry, Event, FRAME_HEAD, Failed, Feed, FeedHead, Format, Frame, FrameField, FrameStep, Gives, HasEnough, HasFileCause, HasReplayCause, HasUnpackCause, Head, Heard, Holds, IsBad, IsBadAt, IsBadStream, IsEndAt, IsEndOf, IsEntry, IsFile, IsFileEnd, IsFileOf, IsFramed, IsFront, IsHead, IsHeadFront, IsLeft, IsNext, IsPartialHead, IsPiece, IsPlaceMet, IsSize, IsSound, IsStream, IsStreamFront, IsStreamWithin, IsWhole, Journaled, KeepAlive, KeepsAlive, LONGEST_BARE, LONGEST_CAPTURE, LONGEST_FILE, LONGEST_MESSAGE, LONGEST_STREAM, Lost, MOST_DUE, Makes, Next, Outside, PackEnd, Packs, Passes, Piece, PieceEnds, Reading, ReadsOn, Reopen, ReopenHead, ReplayEnd, Rest, SOH, SameFiles, SaysFront, SaysOnly, Shows, Sign, Standing, Stands, StandsFor, State, Step, Stop, Takes, Tells, UnpackEnd, UnpackedParts, Unpacking, Unpacks, Unsaid, Whole, after_all, after_step, ahead, ahead_of, all_done, back_of, bad_ahead, bad_in, bad_in_stream, badplace, begins_format, begins_head, begins_kind, begins_length, begins_message, behind, break_of, capture_left, capture_of, captured, cut_at, dec, digits_of, digits_value, due, ending_steps, ending_text, entries_from, entries_in, entries_text, entry_rest, entry_text, events_added, events_in, file_of, file_of_messages, find, format_in, frame, front_of, given_by, has_length, head_of, head_seen, head_text, held_in, is_ascii_digit, is_front, keep_alive, length_in, letters, list_all, longest, loss_in, message_in, message_size, messages_of, missing, on, only, open_part, opening, packed, part_seen, piece_text, place_of, range_with_len, read_from, readable, reading, reading_from, rest_of, signs_in, signs_of, signs_of_step, size_in, slice_index_or, slice_set, starts_with, step_text, steps_in, steps_read, stream_seen, to_come, unpacking_of, whole, with_bytes, with_entry}
pub use Rattle.gts_accum.specs.declared.end.UnpackEnd.TheVariants.{Bad}
