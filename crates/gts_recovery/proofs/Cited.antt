-- What proofs of this crate cite of its definitions, of the standard library and of crates below, in one place.
pub use Rattle.std.proofs.Common.{Bool, Err, IfErr, IfOk, IsErrAnd, List, None, Ok, Option, Result, Some, [], ap, arith, codes, cond, count_ones, drop, false, filter, get_or, length, length-append, map, nat_eq, nat_le, nat_lt, not, option_map, refl, rules, set, slice_get, subst, suc, sym, take, true, zero, zip, ℕ, ⊎_elim, ◌&&◌, ◌*◌, ◌++◌, ◌+◌, ◌-◌, ◌<◌, ◌==◌, ◌^◌, ◌||◌, ◌∙◌, ◌∷◌, ◌≡◌, ◌≤◌}
pub use Rattle.std.proofs.lemmas.Bool.{and_from, and_parts, eq-eqb, eqb-true, le-leb, le-ltb, leb-true, lt-ltb, ltb-true, ne_eqb}
pub use Rattle.std.proofs.lemmas.Grind.{common_steps}
pub use Rattle.std.proofs.lemmas.List.{drop-drop, drop_all, length-map, map-set, take_at}
pub use Rattle.std.proofs.lemmas.List.Sums.{sum_by-cons, sum_by-set}
pub use Rattle.std.proofs.lemmas.Result.{IfErr-weaker, err_from_is_err_and}
pub use Rattle.gts_core.proofs.LawLemmas.{all_pass, both-held, has_passing, waiting_same}
pub use Rattle.gts_event.proofs.LawLemmas.{after-same, choice-same, circuit-parts, draw_position, filter_same, heading_of_message-read, held-all, held-begun, held-empty, knows, list_all-has, next_waits, outcome-same, routed_once-all, routed_once-begun, routed_once-empty, sound-held, sound-parts, waiting-left, waits_one_less, was_read}
pub use Rattle.gts_journal.proofs.LawLemmas.{faulty_header, opens_behind, reads_end_there, reads_fault, reads_one, refuses_one, same_stands}
pub use Rattle.gts_opening.proofs.LawLemmas.{begun-unowed, length-accept, magic_size}
pub use Rattle.gts_record.proofs.LawLemmas.{length-sealed}
pub use Rattle.gts_recovery.specs.Cited.{Accept, Accepted, AllByRecursion, Asked, BeginWith, Bulletin, Call, CanAdmit, CanBegin, Choice, Circuit, CircuitNeed, CircuitState, Core, Damaged, Did, Directory, DiskFault, Done, Draw, Draws, Drew, Duplicate, EachRoutedOnce, EndsAt, Files, Follows, Gives, HasGoneOn, HasRead, HasReadOne, HasWritten, HeadingFields, Heard, HeldCircuit, Holds, InHand, IsAnswer, IsAtFirst, IsClosedAt, IsDamage, IsFaultIn, IsFaultOf, IsFound, IsHeld, IsJudged, IsKept, IsLedBy, IsNew, IsOpened, IsOpenedAny, IsOrdered, IsReadThrough, IsReading, Judged, Judges, Keeps, KeepsPlace, Kind, LineLost, Need, NewBulletin, NoJournal, NoMemory, NotThis, Nothing, Nothing_waits, OldVersion, OpenFault, Outcome, Read, Record, Refused, Repeats, Resend, RoutedOnce, SameNeed, SoundCircuit, StandsFor, StandsForAny, StandsOn, State, Syncs, Taken, TakesOver, Version, Weighs, WorksBeside, admits, admits_checkpoint, after, after_heard, all_owed_last, all_waiting, are_below, begun, begun_circuit, behind_header, behind_magic, body_of, brought, bytes_from, checkpoint_file, checkpoint_opens, checkpoint_text, choice, circuit_need, circuit_of, closed_gate, compacted_bytes, draw_size, drawn, draws, due, each_brought, empty, entry_at, enumerate_from, event_of_record, fault_sought, file_of, file_opens, files_open_in, files_read, first_fault, first_seal, goes_over, has, header_fault, heading_of_message, held, idle, is_at_checkpoint, is_bulletin, is_choice, is_circuit_sound, is_here, is_named, is_older, is_outcome, is_result, is_sound, list_all, list_any, magic, mask_of, message_of, most_accepted, named, need, need_in, need_of, next_entry, next_seal, on_circuit, open_gate, opened_by, opened_of, opens_any, opens_in, outcome, owes_kept, pointwise, range_with_len, record_behind, record_of, record_size, record_text, records_at, restarted, row_plan, seal, seal_size, sealed, seen, selected, selected_bytes, sum_by, unowed, unowed_on, unowed_state, unused, verdict_of, verdict_told, version_of, waiting, with_bulletin, with_drawn, with_routed, written}
