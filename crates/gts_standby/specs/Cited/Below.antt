-- What this crate says in words of what lies below it, in one place.
pub use Rattle.std.specs.Cmp.Lexicographic.{pointwise, same_text}
pub use Rattle.std.specs.List.{AllByRecursion, flat_map, list_all, list_any, slice_index_or, starts_with}
pub use Rattle.gts_alphabet.specs.declared.limits.TheConstants.{LONGEST_BODY}
pub use Rattle.gts_traits.specs.Cited.{AsksDisk, AsksDiskOf, AsksOutput, Call, Did, EachSince, Files, IsImage, LooksAtOf, Outside, Rose, SaidSince, SaysFront, SaysOnly, Syncs, Tries, on, said_by, seen}
pub use Rattle.gts_frame.specs.declared.kind.Kind.{Kind}
pub use Rattle.gts_frame.specs.declared.kind.Kind.TheVariants.{An, Bi, Fx}
pub use Rattle.gts_directory.specs.Cited.{Directory}
pub use Rattle.gts_event.specs.Cited.{CircuitNeed, Need, State, after, begun, circuit_need_of, empty, is_bulletin, is_sound, need, need_of, restarted}
pub use Rattle.gts_record.specs.Cited.{Accept, Drew, FitsRecord, Record, bytes_of, chain_text, closed_gate, draw_size, first_seal, held, is_older, is_sealed, is_short, kind_of, last_seal, magic, number_in, open_gate, record_at, record_of, record_size, record_text, seal, seal_size, sealed, sealed_at, texts_of}
unfoldable pub use Rattle.gts_record.specs.Cited.{written}
pub use Rattle.gts_record.specs.declared.fault.OpenFault.{OpenFault}
pub use Rattle.gts_record.specs.declared.fault.OpenFault.TheVariants.{Damaged}
pub use Rattle.gts_record.specs.declared.version.Version.{Version}
pub use Rattle.gts_opening.specs.Cited.{AreAdmitted, FitsCircuit, FitsLimit, FitsNeed, Opened, Read, admits, admits_checkpoint, after_records, agreeing, bulletin_text, checkpoint_opens, checkpoint_text, circuit_text, compacted_bytes, due, event_of_record, file_opens, files_read, gate_after, need_in, opened_of, opens, record_behind, records_at, selected, unowed}
pub use Rattle.gts_core.specs.Cited.{Core, Holds}
pub use Rattle.gts_journal.specs.Cited.{AreNext, EndsAt, Gathered, Gathers, Gives, HasAppendedBlock, HasGoneOn, HoldsState, InHand, IsBlock, IsFaultOf, LeavesAllOrNone, LeavesBoth, OnlySyncs, OpensTo, StandsFor, StandsOn, beyond_block, entry_at, file_of, first_fault, front_of, header_fault, is_at_checkpoint, is_checkpoint, next_entry, next_seal, no_records, opened_part, selected_bytes, selecting}
pub use Rattle.gts_journal.specs.declared.batch.TheConstants.{MOST_GATHERED}
pub use Rattle.gts_checkpoint.specs.Cited.{BeginsWith, FitBodies, HasWritten, IsCheckpoint, IsDamage, LeavesOthers, WorksBeside, bytes_from, need_seal, or_else}
unfoldable pub use Rattle.gts_checkpoint.specs.Cited.{front_counts, listed_size}
pub use Rattle.gts_checkpoint.specs.declared.heads.TheConstants.{FRONT}
pub use Rattle.gts_checkpoint.specs.declared.heads.Listed.{Listed}
pub use Rattle.gts_checkpoint.specs.declared.heads.Listed.TheVariants.{Bulletin, Circuit}
pub use Rattle.gts_recovery.specs.Cited.{Follows, IsAnswer, IsJudged, IsKept, IsOpened}
