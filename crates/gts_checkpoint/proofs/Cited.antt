-- What proofs of this crate cite of its definitions, of the standard library and of crates below, in one place.
pub use Rattle.std.proofs.Common.{Bool, Err, IfErr, IfNone, IfSome, List, None, Ok, OnOk, Option, Result, Some, [], ap, append_assoc, arith, cond, drop, false, filter, flat_map, get_or, inl, inr, is_some, length, length-append, map, min, nat_eq, nat_le, nat_lt, not, refl, rules, slice_get, subst, suc, sym, take, take-append-drop, true, zero, zip, ℕ, ◌&&◌, ◌*◌, ◌++◌, ◌+◌, ◌-◌, ◌/◌, ◌<◌, ◌==◌, ◌^◌, ◌||◌, ◌∙◌, ◌∷◌, ◌≡◌, ◌≢◌, ◌≤◌, ◌⊎◌}
pub use Rattle.std.proofs.Math.Bool.{and-false, and-true}
pub use Rattle.std.proofs.Math.Seq.{drop-append-add, drop-append_seam, drop-nil}
pub use Rattle.std.proofs.lemmas.Bool.{and_from, and_left, and_parts, cases_lt, eq-eqb, eqb-true, false_from_ne_true, false≢true, le-leb, leb-true, lt-ltb, ltb-true, ne_eqb, or_from}
pub use Rattle.std.proofs.lemmas.Bool.Decides.{nat_tests}
pub use Rattle.std.proofs.lemmas.Grind.{common_steps}
pub use Rattle.std.proofs.lemmas.Iterator.{YieldsList-from_slice}
pub use Rattle.std.proofs.lemmas.Iterator.Search.{all_from_yields_List}
pub use Rattle.std.proofs.lemmas.List.{append-nil, drop-drop, drop_all, get_or_default, length-drop, length-map, length-replicate, length-take, length-take-le, take-append-le, take_all, take_at}
pub use Rattle.std.proofs.lemmas.List.Concat.{flat_map-append}
pub use Rattle.std.proofs.lemmas.List.Folds.{length-flat_map-take, list_all-append, list_all-map, list_all_at}
pub use Rattle.std.proofs.lemmas.List.FromFn.{length-map-range_with_len}
pub use Rattle.std.proofs.lemmas.List.Sorted.{All-permutation, IsNonDecreasingBy-from_sort, IsPermutation-sym, list_any-IsPermutation, searched, sum_by-IsPermutation}
pub use Rattle.std.proofs.lemmas.List.Sums.{length-filter}
pub use Rattle.std.proofs.lemmas.Option.{slice_get-get_or, slice_get_cases, slice_get_read}
pub use borrow.Author.Tests.{tests}
pub use Rattle.gts_event.proofs.AmongLemmas.{has_not, has_searched}
pub use Rattle.gts_event.proofs.ExtentLemmas.{flat_more, flat_of}
pub use Rattle.gts_event.proofs.LawLemmas.{bulletin_bounds, need-begun, sound-parts}
pub use Rattle.gts_event.specs.declared.values.Need.{Need}
pub use Rattle.gts_frame.proofs.LawLemmas.{same_parts}
pub use Rattle.gts_opening.proofs.CheckpointLemmas.{bulletin_in-text, circuit_in-text, length-numbers, need_in-text}
pub use Rattle.gts_opening.proofs.FileLemmas.{fits-sound}
pub use Rattle.gts_record.proofs.LawLemmas.{length-seal, number_in-bytes_of, same_letter, starts_with-append}
pub use Rattle.gts_record.proofs.ReadingLemmas.{head_of_four}
pub use Rattle.gts_traits.proofs.LawLemmas.{same_places}
pub use Rattle.gts_checkpoint.specs.Cited.{Agree, AllByRecursion, An, BeginsWith, Bi, Breaks, Broken, Bulletin, Call, CanBegin, CanPutBulletin, CanPutCircuit, Circuit, CircuitNeed, CircuitState, Cuts, Damaged, Did, Directory, DiskFault, Doing, EachSince, Files, FindsBulletin, FindsBulletins, FindsBytes, FindsCircuit, FindsCircuits, FindsNumbers, FindsText, FitBodies, FitBytes, FitsBulletin, FitsByte, FitsCircuit, FitsNeed, FitsValue, FitsValueCircuit, Fx, HasPut, HasRead, HasWritten, IfOk, IsCheckpoint, IsDamage, IsImage, IsImageDuring, IsJudged, IsNoFront, IsNoHead, IsNonDecreasing, IsOn, IsPermutation, IsReadFault, IsSynced, Kind, LONGEST_BODY, LeavesOthers, MayLeaveAlong, NoMemory, OnlyOn, OpenFault, Outside, Says, SealingWriter, Seals, Stands, Syncs, Tries, Version, WorksBeside, WorksOn, Writes, admits_checkpoint, are_circuits_sound, ascends, begun, begun_circuit, bulletin_by, bulletin_head, bulletin_in, bulletin_of, bulletin_text, bytes_from, bytes_of, checkpoint_file, checkpoint_text, circuit_by, circuit_head, circuit_in, circuit_need, circuit_need_of, circuit_of_row, circuit_text, closed_gate, compacted_bytes, draw_size, due, first_of, first_seal, fold, front_by, front_of, has, has_counts, has_positions, head_text, header_text, held, if_there, is_bulletin, is_distinct, is_held, is_kept, is_needed, is_recent, is_sealed, is_sound, is_there, kind_of, laid, letters, list_all, magic, many_in, most_owed, need_in, need_of, number_in, open_gate, or_else, overwritten, pointwise, positions_of, put_by, said_by, same_text, seal, seal_size, sealed_need, seen, stable, starts_with, to_say, touched, touches, unowed, unowed_circuit, waiting, waiting_of, written, written_bulletin, written_circuit}
unfoldable pub use Rattle.gts_checkpoint.specs.Cited.{in_front}
unfoldable pub use Rattle.gts_checkpoint.specs.Heads.{front_counts, listed_size, zeros}
pub use Rattle.gts_checkpoint.specs.Sound.{is_circuit_sound, positions}
pub use Rattle.gts_checkpoint.specs.declared.heads.Listed.{Listed}
