-- What proofs of this crate cite of its definitions, of the standard library and of crates below, in one place.
pub use Rattle.std.proofs.Common.{Bool, Err, List, None, Ok, Option, Result, Some, [], ap, append_assoc, arith, codes, cond, drop, false, get_or, inl, inr, length, length-append, min, nat_eq, nat_le, nat_lt, not, refl, rules, subst, suc, sym, take, take-append-drop, true, zero, ℕ, ⊎_elim, ◌++◌, ◌+◌, ◌-◌, ◌<◌, ◌==◌, ◌^◌, ◌||◌, ◌∙◌, ◌∷◌, ◌≡◌, ◌≢◌, ◌≤◌, ◌⊎◌}
pub use Rattle.std.proofs.Math.ListN.{set}
pub use Rattle.std.proofs.Math.Seq.{set-append_seam, take-add, take-append-add}
pub use Rattle.std.proofs.lemmas.Bool.{cases_eq, eq-eqb, ne_eqb}
pub use Rattle.std.proofs.lemmas.Bool.Decides.{nat_tests}
pub use Rattle.std.proofs.lemmas.Grind.{common_steps}
pub use Rattle.std.proofs.lemmas.List.{append-nil, drop-drop, drop-take, drop_all, drop_at, drop_more, length-drop, length-take, length-take-le, map-append, take-take, take_all, take_at, with_items_is}
pub use Rattle.std.proofs.lemmas.Result.{err_from_is_err_and}
pub use borrow.Rule.Slice.PartMut.{post_of, put_mid}
pub use Rattle.gts_opening.proofs.LawLemmas.{far_enough, magic_size, opens_more, opens_same, selected_few}
pub use Rattle.gts_record.proofs.LawLemmas.{chain_text-append, last_seal-append, length-sealed, sealed_at-found, sealed_at-stands, sealed_fits}
pub use Rattle.gts_traits.proofs.LawLemmas.{joined, reads_image, said_is, says_keeps, seen_elsewhere, seen_written, started, sync_syncs, synced, synced_image, weaker}
pub use Rattle.gts_traits.proofs.MomentsLemmas.{now}
pub use Rattle.gts_journal.specs.Cited.{Accept, An, AreAdmitted, AreNext, BeginsSealed, Bi, Call, Damaged, Did, Directory, DiskFault, Drew, EachSince, EndsAt, Files, FitsRecord, Fx, Gathered, Gathers, HasAppended, HasAppendedBlock, HasBlock, HoldsState, InHand, IsBlock, IsClosed, IsFaultOf, IsImage, IsNext, IsPossible, IsSynced, IsTorn, LONGEST, LONGEST_BODY, LeavesAllOrNone, LeavesBoth, LeavesEither, MayStand, Need, NoJournal, NoMemory, NotThis, OldVersion, One, OnlySyncs, OnlyTears, OpenFault, OpensAsBefore, OpensTo, OpensToEither, OpensToOneOf, Outside, ReachesWithin, Read, Record, Says, StandsFor, StandsOn, State, Syncs, Tries, Two, Version, Writes, admits, after, after_records, agreeing, beyond_block, chain_text, checkpoint_opens, closed_gate, empty, entry_at, event_of_record, fault_sought, file_of, file_opens, file_with, files_read, first_seal, front_of, gate_after, header_fault, held, is_at_checkpoint, is_checkpoint, is_older, is_short, last_seal, magic, need, need_in, next_entry, next_seal, no_records, open_gate, opened_of, opened_part, overwritten, pointwise, record_of, record_size, record_text, records_at, restarted, said_by, seal, seal_size, sealed, sealed_at, sealed_next, seen, selected, selected_bytes, selecting, sought, starts_with, texts_of, written}
pub use Rattle.gts_journal.specs.contracts.Journal.{the_view}
