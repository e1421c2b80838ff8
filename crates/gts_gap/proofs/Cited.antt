-- What proofs of this crate cite of its definitions, of the standard library and of crates below, in one place.
pub use Rattle.std.proofs.Common.{Bool, Err, IsErrAnd, List, None, Ok, Result, Some, [], ap, append_assoc, arith, bit_and, bit_or, codes, drop, false, filter, get_or, if◌then◌else◌, inl, inr, length, length-drop, map, max, min, nat_le, not, refl, set, slice_get, subst, suc, sym, take, take_while, true, zero, ℕ, ◌%◌, ◌&&◌, ◌*◌, ◌++◌, ◌+◌, ◌-◌, ◌/◌, ◌<◌, ◌==◌, ◌^◌, ◌||◌, ◌∙◌, ◌∷◌, ◌≡◌, ◌≢◌, ◌≤◌, ◌⊎◌}
pub use Rattle.std.proofs.lemmas.Bool.{and_parts, cases_eq, cases_lt, eq-eqb, eqb-true, false_from_ne_true, le-leb, true_from_ne_false}
pub use Rattle.std.proofs.lemmas.Grind.{common_steps, flat_map-append}
pub use Rattle.std.proofs.lemmas.List.{append-nil, drop_at, ext_get_or, get_or-set_other, get_or-set_same, get_or_read, length-append, length-map, length-set, length-take-le, map-append, take-append-drop, take_all, take_at}
pub use Rattle.std.proofs.lemmas.List.FromFn.{get_or-map-range_with_len, length-map-range_with_len}
pub use Rattle.std.proofs.lemmas.List.Sums.{take_while-cons}
pub use Rattle.std.proofs.lemmas.Nat.Bits.{bit_at_clear_other, bit_at_clear_same, bit_at_set_other, bit_at_set_same}
pub use Rattle.std.proofs.lemmas.Result.{err_from_is_err_and}
pub use Rattle.gts_alphabet.proofs.LawLemmas.{AllDigits-dec, digits_value-dec, length-dec, test_from_AllDigits}
pub use Rattle.gts_connection.proofs.LawLemmas.{added-signs, added-twice, connections_go_on}
pub use Rattle.gts_connection.specs.Capture.{Head, head_of}
pub use Rattle.gts_replay.proofs.DecoderLemmas.{decode_at, decode_fresh, decode_reopened, decode_set}
pub use Rattle.gts_replay.proofs.EndLemmas.{two_each}
pub use Rattle.gts_replay.proofs.FollowLemmas.{cut_in}
pub use Rattle.gts_replay.proofs.LawLemmas.{at_bad, at_end, begins, one_step}
pub use Rattle.gts_replay.proofs.RunLemmas.{head_here}
pub use Rattle.gts_replay.specs.Reading.{ReadsHead}
pub use Rattle.gts_replay.proofs.StepLemmas.{takes_end, takes_more, takes_none}
pub use Rattle.gts_request.specs.Request.{number_at, ◌>>=◌}
pub use Rattle.gts_traits.proofs.OutsideLemmas.{on-append}
pub use Rattle.gts_traits.proofs.SayLemmas.{front_behind, front_more, said_more}
pub use Rattle.gts_gap.specs.Cited.{Adds, AllByRecursion, An, AreSteps, Bad, Call, CaptureFault, Cccc, Circuit, Comes, CompactHead, Connections, Decode, Decoding, Directory, DoesAll, DoesStep, Drain, DrainHead, EOL, End, EndHead, EndsInStep, Event, Failed, Feed, FeedHead, Feeds, FeedsAll, FrameStep, HasDigits, Held, IsBadAt, IsCleared, IsCutAt, IsDigits, IsFed, IsHead, IsNew, IsRead, IsReadTo, IsRing, IsRingOf, IsStepOf, IsTabled, Item, Journaled, LONGEST_CAPTURE, MessageField, Moment, Number, Numbered, Numbers, Outside, PLACES, ReadsOn, Reopen, ReopenHead, RequestField, RestartHead, Ring, Rings, Run, SOH, SaysFront, SaysOnly, SourceFault, Sqn, StandFor, Stands, StandsAt, Step, TableFault, Take, TakeHead, Takes, Tells, after_step, are_capitals, ask_frame, ask_heading, ask_text, asked, at_start, behind_asker, bit_at, bit_not, bits_in, bytes_announced, bytes_from, bytes_of_step, capitals_at, circuit_of_row, connections_after, count_at, cycle, digits_in, digits_of, empty, events_added, events_of_signs, events_with, flat_map, frame, fresh, gap_lines, gaps, given, greatest, half, head_text, held_in, is_ascii_digit, is_in, is_seen, is_set, item_text, items_at, items_of, items_text, last_run, line_of, list_all, low_of, message_end, message_of, missing, missing_of, more_text, no_bytes, number_of_event, numbers, numbers_at, numbers_from, on, peer_of, range_with_len, readable_from, report, run_at, run_line, run_lines, runs, runs_given, runs_left, runs_of, said_from, said_of, signs_of_step, text_of, unseen_from, value_of, values, values_from, w64, with_value}
unfoldable pub use Rattle.gts_gap.specs.Cited.{dec, heading_text, request_at}
pub use Rattle.gts_gap.specs.Counting.{numbers_of}
pub use Rattle.gts_gap.specs.Saying.{front_text}
