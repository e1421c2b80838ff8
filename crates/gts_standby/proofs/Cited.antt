-- What proofs of this crate cite of its definitions, of the standard library and of crates below, in one place.
pub use Rattle.std.proofs.Common.{Bool, Err, IfErr, IfNone, IfOk, IfSome, IsErr, IsErrAnd, List, None, Ok, OnOk, Option, Result, Some, [], ap, append_assoc, arith, codes, cond, drop, false, inl, inr, is_some, length, length-append, length-drop, map, nat_eq, nat_le, nat_lt, not, option_map, refl, replicate, rules, subst, suc, sym, take, take-append-drop, tests, true, zero, zip, ℕ, ⊎_elim, ◌&&◌, ◌*◌, ◌++◌, ◌+◌, ◌-◌, ◌<◌, ◌==◌, ◌^◌, ◌||◌, ◌∙◌, ◌∷◌, ◌≡◌, ◌≢◌, ◌≤◌, ◌⊎◌}
pub use Rattle.std.proofs.Math.Seq.{drop-append_seam, take-add, take-append_seam}
pub use Rattle.std.proofs.lemmas.Bool.{and_from, and_parts, cases_eq, cases_lt, eq-eqb, eqb-false, eqb-true, le-leb, le-ltb, lt-leb, ltb-false, ne_eqb}
pub use Rattle.std.proofs.lemmas.Bool.Decides.{nat_tests}
pub use Rattle.std.proofs.lemmas.Grind.{common_steps}
pub use Rattle.std.proofs.lemmas.Iterator.{YieldsList-from_slice, YieldsList-from_zip}
pub use Rattle.std.proofs.lemmas.Iterator.Search.{any_from_yields_List}
pub use Rattle.std.proofs.lemmas.List.{append-nil, drop-append-le, drop-drop, drop_all, drop_at, length-replicate, length-take, length-take-le, map-append, take-append-le, take_all, take_at}
pub use Rattle.std.proofs.lemmas.Result.{err_from_is_err_and}
pub use Rattle.std.proofs.lemmas.Slice.{take-put_mid}
pub use borrow.Rule.Slice.PartMut.{put_mid}
pub use Rattle.gts_checkpoint.proofs.LawLemmas.{MayBegin, bulletin_listed, circuit_listed, fit_bodies, fit_bytes, front_more, length-or_else, listed_low, listed_more, need_front, starts_front}
pub use Rattle.gts_checkpoint.proofs.ReadLemmas.{admitted, need_read, text_there}
pub use Rattle.gts_event.proofs.LawLemmas.{sound-parts}
pub use Rattle.gts_event.specs.declared.values.CircuitNeed.{CircuitNeed}
pub use Rattle.gts_frame.proofs.LawLemmas.{same_bytes}
pub use Rattle.gts_frame.specs.Cited.{letters}
pub use Rattle.gts_journal.proofs.LawLemmas.{agreeing-end, agreeing-other, agreeing-same, all_file, at_found, at_mark, batch_stands, before_file, both_left, faulty_header, few_bytes, gathered_block, length-chain, next_more, next_none, one_back, open_selected, opens_behind, reads_end_there, reads_fault, reads_one, records_more, refuses_one, same_open, same_stands_for, say_stands, selected_stands, selects, syncs_silent, syncs_stand, was_found}
pub use Rattle.gts_opening.proofs.CheckpointLemmas.{need_in-text}
pub use Rattle.gts_opening.proofs.FileLemmas.{fits-sound}
pub use Rattle.gts_opening.proofs.LawLemmas.{after_records-append, file_opens-checkpoint, magic_size, selected_few}
pub use Rattle.gts_record.proofs.LawLemmas.{found_fits, last_seal-append, length-seal, length-sealed, number_in-bytes_of, record_at-found, record_at-stands, sealed_at-found, sealed_at-stands, sealed_fits, starts_with-append}
pub use Rattle.gts_record.specs.Record.{record_at}
pub use Rattle.gts_recovery.proofs.KeptLemmas.{kept_on}
pub use Rattle.gts_recovery.proofs.LawLemmas.{closed_there, kept_begun, still_stands}
pub use Rattle.gts_traits.proofs.LawLemmas.{joined, on-append, said_is, started, synced, synced_image, weaker}
pub use Rattle.gts_traits.proofs.SayLemmas.{front_behind, said_more, said_none, tells_try, untouched_call}
pub use Rattle.gts_standby.specs.Cited.{Accept, AddsFront, AddsNothing, AddsPart, AllByRecursion, An, Answers, AreNext, AreOneBySeal, AsBefore, Bad, BeforeIt, BeginsWith, Behind, Bi, Breaks, Broken, Bulletin, Call, CanGather, Circuit, Comes, Compares, Core, Cut, Damaged, Did, Directory, DiskFault, Diverged, Done, Drew, EachImageReads, EachOpens, EachSince, End, Ends, EndsAs, EndsAt, EndsBegin, EndsWith, FRONT, Feed, Files, Finds, FindsFurther, FindsPiece, FitBodies, FitsCircuit, FitsLimit, FitsNeed, FollowEnd, Fx, Gathered, Gathering, Gathers, GathersNone, Gives, GoesOnBehind, HasAdded, HasAppendedBlock, HasBegun, HasBrought, HasCompared, HasFront, HasGatheredOne, HasGoneOn, HasOpened, HasRead, HasTaken, HasWritten, HoldsAt, HoldsBehind, HoldsState, InFeed, InHand, IsAddEnd, IsAtFirst, IsAtGate, IsAtSeals, IsBefore, IsBehindFront, IsBehindOne, IsBlock, IsCheckpoint, IsDamage, IsDevice, IsEnd, IsFaultOf, IsFedEnd, IsFinished, IsFoundBehind, IsGathered, IsGathering, IsImage, IsJudged, IsKept, IsLater, IsOpened, IsOwnEnd, IsPutEnd, IsQuiet, IsReadEnd, IsReadyEnd, IsSettled, IsShipFault, IsTakenEnd, IsUnsealed, IsWhole, IsWithin, KeepsOther, Kind, LONGEST, LONGEST_BODY, Leads, LeadsTo, LeavesAllOrNone, LeavesAlone, LeavesBoth, LeavesOthers, Listed, MayBring, MayHaveBrought, Need, NoMemory, OnlySyncs, OnlySyncsUnopened, Open, OpenFault, OpensTo, OpensWithin, Outside, Parts, PassesNext, Piece, Reached, Reaches, Read, ReadsAll, ReadsToOneOf, Record, Rose, SaidSince, SaysFront, SaysHere, SaysOne, SaysOnly, SaysRest, Sealed, ShipFault, ShipsOnly, Short, Since, SourceFault, Speaks, StandsBehind, StandsFed, StandsFor, StandsOn, State, StopsAs, StopsAt, Syncs, Taken, Tries, Version, WithFront, WithinIt, WorksBeside, add_all, adding, admits, admits_checkpoint, after, after_records, agreeing, and_then, begin_first, begin_with, begun, begun_taken, behind_all, behind_at, behind_checkpoint, behind_counted, behind_front, behind_header, behind_here, behind_one, behind_place, beyond_block, bulletin_text, by_header, by_piece, bytes_from, bytes_of, chain_text, checkpoint_by, checkpoint_feed, checkpoint_opens, checkpoint_piece, checkpoint_seals, checkpoint_text, circuit_need_of, circuit_text, closed_gate, comes_to, compacted_bytes, compare_all, compare_first, compared, draw_size, due, empty, entry_at, event_of_record, feed, feed_at, feed_behind, feed_of, file_of, file_opens, files_read, first_fault, first_piece, first_seal, flat_map, found_since, front_counts, front_of, gate_after, gate_behind, has_fewer, has_record, header_fault, held, is_at_checkpoint, is_behind, is_checkpoint, is_checkpoint_fed, is_further, is_older, is_other, is_other_first, is_sealed, is_short, is_sound, last_seal, list_any, listed_size, magic, may_be_cut, may_begin, need, need_in, need_of, need_seal, next_entry, next_seal, no_records, number_in, on, open_end, open_gate, opened_of, opened_part, opens, or_anew, or_else, or_whole, own_seals, pointwise, reach, reach_found, read_after, read_anew, read_at, read_begun, read_behind, read_with, record_behind, record_of, record_piece, record_size, record_text, records_at, records_fed, rest_of, restarted, said_by, same_text, seal, seal_behind, seal_size, sealed, sealed_at, seals_at, seals_behind, seals_here, seen, selected, selected_bytes, selecting, ship_fault, since_of, start_of, starts_with, state_after, stopped, take_records, taken, tells_next, texts_of, unowed, unread, unsealed, where_so, written}
