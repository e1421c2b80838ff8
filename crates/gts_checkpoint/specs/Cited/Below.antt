-- What this crate says in words of what lies below it, in one place.
pub use Rattle.std.specs.Cmp.Lexicographic.{pointwise, same_text}
pub use Rattle.std.specs.List.{AllByRecursion, flat_map, fold, list_all, list_any, starts_with}
pub use Rattle.std.specs.List.Sorted.{IsNonDecreasing, IsPermutation}
pub use Rattle.std.specs.Result.{IfOk, MatchResult}
pub use Rattle.gts_alphabet.specs.declared.limits.TheConstants.{LONGEST_BODY}
pub use Rattle.gts_traits.specs.Cited.{Agree, AsksDisk, AsksDiskOf, Breaks, Broken, Call, Cuts, Did, Doing, EachSince, Files, HasCause, IsImage, IsImageDuring, IsPossible, IsSynced, LooksAt, LooksAtOf, MayLeaveAlong, Outside, Rose, Says, Syncs, Tries, Writes, overwritten, said_by, seen, stable, to_say, touched, touches}
unfoldable pub use Rattle.gts_message.specs.Cited.{body_at}
pub use Rattle.gts_frame.specs.Cited.{letters}
pub use Rattle.gts_frame.specs.declared.kind.Kind.{Kind}
pub use Rattle.gts_frame.specs.declared.kind.Kind.TheVariants.{An, Bi, Fx}
pub use Rattle.gts_directory.specs.Cited.{Circuit, Directory, circuit_of_row}
pub use Rattle.gts_event.specs.Cited.{Bulletin, CircuitNeed, CircuitState, IsExtentOf, Need, ascends, begun, begun_circuit, bulletin_of, circuit_need, circuit_need_of, has, has_counts, heading_of, is_bulletin, is_circuit_sound, is_distinct, is_kept, is_needed, is_recent, is_sound, is_there, most_owed, need_of, positions_of, waiting}
pub use Rattle.gts_record.specs.Cited.{bytes_of, closed_gate, draw_size, file_text, first_seal, held, is_sealed, kind_of, magic, number_in, open_gate, seal, seal_size, sealed}
unfoldable pub use Rattle.gts_record.specs.Cited.{Seals, written}
pub use Rattle.gts_record.specs.declared.fault.OpenFault.{OpenFault}
pub use Rattle.gts_record.specs.declared.fault.OpenFault.TheVariants.{Damaged, DiskFault, NoJournal, NoMemory, NotThis, OldVersion}
pub use Rattle.gts_record.specs.declared.sealer.Sealer.{Sealer}
pub use Rattle.gts_record.specs.declared.version.Version.{Version}
pub use Rattle.gts_opening.specs.Cited.{FitsBulletin, FitsCircuit, FitsLimit, FitsNeed, admits_checkpoint, bulletin_in, bulletin_text, checkpoint_text, circuit_in, circuit_text, compacted_bytes, due, many_in, need_in, numbers_in, unowed, unowed_circuit}
