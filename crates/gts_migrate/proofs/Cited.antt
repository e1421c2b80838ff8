-- What proofs of this crate cite of its definitions, of the standard library and of crates below, in one place.
pub use Rattle.std.proofs.Common.{Bool, Err, IfErr, IfOk, IsErrOf, List, None, Ok, OnOk, Option, Result, Some, [], ap, ap₂, arith, cond, drop, false, filter, get_or, inl, inr, is_ok, length, map, nat_le, nat_lt, not, refl, rules, slice_get, subst, suc, sym, take, take-append-drop, true, zero, zip, ℕ, ◌&&◌, ◌*◌, ◌++◌, ◌+◌, ◌-◌, ◌<◌, ◌==◌, ◌^◌, ◌||◌, ◌∙◌, ◌∷◌, ◌≡◌, ◌≢◌, ◌≤◌, ◌⊎◌}
pub use Rattle.std.proofs.Math.Nat.{add-mul}
pub use Rattle.std.proofs.lemmas.Bool.{and_from, and_parts, cases_eq, eq-eqb, eqb-true, lt-ltb, ltb-true, ne_eqb}
pub use Rattle.std.proofs.lemmas.Grind.{common_steps, flat_map-append, take_at_read}
pub use Rattle.std.proofs.lemmas.List.{append-nil, append_assoc, length-map, map-append, take_all}
pub use Rattle.std.proofs.lemmas.List.Concat.{flat_map-cons}
pub use Rattle.std.proofs.lemmas.List.Folds.{list_all-append, list_all_more}
pub use Rattle.std.proofs.lemmas.List.FromFn.{length-enumerate_from}
pub use Rattle.std.proofs.lemmas.List.Sorted.{IsNonDecreasingBy-from_default}
pub use Rattle.std.proofs.lemmas.List.Sums.{sum_by-cons}
pub use Rattle.std.proofs.lemmas.Option.{slice_get-get_or}
pub use Rattle.std.proofs.lemmas.Result.{err_from_is_err_and}
pub use Rattle.gts_core.proofs.LawLemmas.{all_pass, filter_whole}
pub use Rattle.gts_engine.proofs.LawLemmas.{fit_bytes}
pub use Rattle.gts_event.proofs.LawLemmas.{bulletin-parts, circuit-parts, not_above, restarted-left, sound-held, sound-parts, waiting-left}
pub use Rattle.gts_journal.proofs.LawLemmas.{both_left, same_stands, syncs_silent}
pub use Rattle.gts_opening.proofs.LawLemmas.{checkpoint_opened, due-left, restarted-unowed, room_for, selected_few}
pub use Rattle.gts_recovery.proofs.LawLemmas.{closed_there, due_counted, held-over, over-restarted, still_stands}
pub use Rattle.gts_traits.proofs.LawLemmas.{joined, said_is, started, synced_image, told, weaker}
pub use Rattle.gts_migrate.specs.Cited.{AnswersOpening, AnswersWaiting, BeginWith, Bulletin, Call, CanDrop, CanMigrate, Circuit, CircuitNeed, CircuitState, Climbs, Core, CountsFaults, Did, Directory, DiskFault, Dropped, EachSince, Files, FitsFor, Full, GivesRoomFor, HasFewDue, HasWritten, HeldCircuit, Holds, InHand, IsBrought, IsClosedAt, IsFront, IsHeld, IsImage, IsMigrated, IsNonDecreasing, IsOpenedAny, IsOrdered, IsPreparedFaultOf, IsRoomAnswer, IsSaidFaultOf, IsStart, IsSynced, IsWriteFaultOf, KeepsPlace, LeavesBoth, LeavesFiles, LeavesOthers, MigrateFault, Need, Needs, NoMemory, OnlySyncs, Open, OpenFault, Opened, OpensEither, OpensWith, Outside, Refused, SayFault, SaysAll, SaysFor, StandsForAny, StandsOn, State, StationMeanings, Syncs, TakesOver, TellsWaiting, Version, Waiting, Waits, WorksBeside, WriteFault, all_owed_last, all_waiting, are_below, ascends, begun, begun_circuit, body_at, brought, bulletin_of, checkpoint_file, circuit_need, circuit_need_of, circuit_needs, circuit_of_row, circuits_under, closed_gate, compacted_bytes, draw_size, drop_receipts, dropped_text, due, each_brought, each_let_go, emptied, enumerate_from, files_open_any, files_open_in, first_waiting, flat_map, full_compacted, goes_on, goes_over, has, have_bodies, heading_among, heading_of, held, idle, is_bulletin, is_circuit_sound, is_sound, is_there, keeps_one, last_of, left_behind, let_go, list_all, need, need_of, on, opened_of, opened_on, opens, opens_any, opens_in, owes_kept, positions_of, receipt_among, receipts_from, receipts_on, receipts_under, restarted, said_by, sayings, seal_size, seen, selected, selected_bytes, selecting, sum_by, unowed, unused, version_of, waiting, waiting_at, waiting_closed, waits_closed, waits_on_closed, write_fault, written}
