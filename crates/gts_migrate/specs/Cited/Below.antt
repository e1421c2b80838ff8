-- What this crate says in words of what lies below it, in one place.
pub use Rattle.std.specs.List.{enumerate_from, find, flat_map, list_all, sum_by}
pub use Rattle.std.specs.List.Sorted.{IsNonDecreasing}
pub use Rattle.gts_traits.specs.Cited.{AsksDiskOf, Call, Did, EachSince, Files, IsFront, IsImage, IsSynced, Outside, Rose, SaidSince, Says, Syncs, Tries, on, said_by, seen}
pub use Rattle.gts_traits.specs.declared.station.Station.{Ghosts as StationMeanings}
pub use Rattle.gts_heading.specs.Cited.{HeadingFields, fields_of}
unfoldable pub use Rattle.gts_heading.specs.Cited.{heading_text}
unfoldable pub use Rattle.gts_message.specs.Cited.{body_at}
pub use Rattle.gts_directory.specs.Cited.{BeginWith, Circuit, Directory, KeepsPlace, TakesOver, circuit_of_row}
pub use Rattle.gts_event.specs.Cited.{Bulletin, CircuitNeed, CircuitState, Climbs, HeldCircuit, IsHeld, IsOrdered, Need, SoundNeed, State, all_owed_last, are_below, ascends, begun, begun_circuit, bulletin_of, circuit_need, circuit_need_of, circuit_needs, drawn, draws, has, heading_of, idle, is_bulletin, is_circuit_sound, is_sound, is_there, keeps_one, kept_draws, last_of, need, need_of, no_heading, owes_kept, positions_of, restarted, then_number}
pub use Rattle.gts_event.specs.Cited.{unused, waiting}
pub use Rattle.gts_event.specs.declared.fault.SwitchFault.{SwitchFault}
pub use Rattle.gts_record.specs.Cited.{closed_gate, draw_size, held, seal_size}
unfoldable pub use Rattle.gts_record.specs.Cited.{written}
pub use Rattle.gts_record.specs.declared.fault.OpenFault.{OpenFault}
pub use Rattle.gts_record.specs.declared.fault.OpenFault.TheVariants.{OldVersion}
pub use Rattle.gts_record.specs.declared.version.Version.{Version}
pub use Rattle.gts_opening.specs.Cited.{Opened, checkpoint_text, compacted_bytes, due, file_opens, files_open_in, files_read, full_compacted, opened_of, opens, opens_in, selected, unowed}
pub use Rattle.gts_core.specs.Cited.{Core, Holds, Needs, all_waiting}
pub use Rattle.gts_journal.specs.Cited.{EndsAt, InHand, IsClosedAt, LeavesBoth, OnlySyncs, StandsOn, selected_bytes, selecting, version_of}
pub use Rattle.gts_checkpoint.specs.Cited.{HasWritten, LeavesOthers, WorksBeside, checkpoint_file, is_held}
pub use Rattle.gts_checkpoint.specs.declared.fault.WriteFault.{WriteFault}
pub use Rattle.gts_recovery.specs.Cited.{IsAnswer, IsOpenedAny, StandsForAny, brought, each_brought, files_open_any, goes_over, opens_any}
pub use Rattle.gts_engine.specs.Cited.{IsFullCompacted, IsSizeAt}
