-- What this crate says in words of what lies below it, in one place.
pub use Rattle.std.specs.Cmp.Lexicographic.{pointwise}
pub use Rattle.std.specs.List.{AllByRecursion, enumerate_from, list_all, list_any, range_with_len, starts_with, sum_by}
pub use Rattle.gts_alphabet.specs.Cited.{message_of}
pub use Rattle.gts_traits.specs.Cited.{AsksDiskOf, Call, Did, Files, LooksAtOf, Rose, Syncs, seen}
pub use Rattle.gts_heading.specs.Cited.{HeadingFields}
pub use Rattle.gts_heading.specs.declared.field.MessageField.{MessageField}
pub use Rattle.gts_message.specs.Cited.{MessageParts}
pub use Rattle.gts_frame.specs.declared.kind.Kind.{Kind}
unfoldable pub use Rattle.gts_request.specs.Cited.{request_at}
pub use Rattle.gts_directory.specs.Cited.{BeginWith, Circuit, Directory, KeepsPlace, TakesOver, is_named, mask_of, named}
pub use Rattle.gts_event.specs.Cited.{Bulletin, Choice, CircuitNeed, CircuitState, Draws, EachRoutedOnce, HasPositions, HeldCircuit, IsHeld, IsOrdered, Knows, Need, Nothing_waits, Repeats, RoutedOnce, SameNeed, SoundCircuit, State, WasRead, after, after_all, after_heard, after_take, all_owed_last, answer_to, are_below, begun, begun_circuit, body_of, choice, circuit_need, circuit_needs, drawn, draws, duplicate, empty, has, heading_of, heading_of_message}
pub use Rattle.gts_event.specs.Cited.{idle, is_bulletin, is_circuit_sound, is_here, is_needed, is_recent, is_request, is_sound, most_accepted, need, need_of, on_circuit, outcome, owes_kept, restarted, unused, verdict, waiting, with_bulletin, with_drawn, with_routed}
pub use Rattle.gts_event.specs.declared.event.Entry.{Entry}
pub use Rattle.gts_event.specs.declared.event.Entry.TheVariants.{Done}
pub use Rattle.gts_event.specs.declared.event.Event.TheVariants.{Heard, Taken}
pub use Rattle.gts_event.specs.declared.outcome.Outcome.{Outcome}
pub use Rattle.gts_event.specs.declared.outcome.Outcome.TheVariants.{Accepted, Asked, Draw, Duplicate, LineLost, Nothing, Refused, Resend}
pub use Rattle.gts_event.specs.declared.outcome.Refusal.TheVariants.{Message}
pub use Rattle.gts_record.specs.Cited.{Accept, Drew, Record, circuit_of, closed_gate, draw_size, first_seal, held, is_older, magic, open_gate, record_of, record_size, record_text, seal, seal_size, sealed}
unfoldable pub use Rattle.gts_record.specs.Cited.{written}
pub use Rattle.gts_record.specs.declared.fault.OpenFault.{OpenFault}
pub use Rattle.gts_record.specs.declared.fault.OpenFault.TheVariants.{Damaged, DiskFault, NoJournal, NoMemory, NotThis, OldVersion}
pub use Rattle.gts_record.specs.declared.version.Version.{Version}
pub use Rattle.gts_record.specs.declared.version.Version.TheVariants.{One, Two}
pub use Rattle.gts_opening.specs.Cited.{Opened, Read, admits, admits_checkpoint, agreeing, behind_header, behind_magic, bytes_open, checkpoint_opens, checkpoint_text, compacted_bytes, due, event_of_record, file_opens, files_open_in, files_read, is_choice, is_outcome, is_result, need_in, opened_of, opens_in, record_behind, records_at, selected, unowed, unowed_on, unowed_state}
pub use Rattle.gts_core.specs.Cited.{Core, Holds, IsFound, IsNew, Judges, Keeps, NewBulletin, Weighs, all_waiting, row_plan, verdict_of, verdict_told}
pub use Rattle.gts_core.specs.declared.answer.Judged.{Judged}
pub use Rattle.gts_journal.specs.Cited.{EndsAt, Gives, HasGoneOn, InHand, IsClosedAt, IsFaultOf, OnlySyncs, StandsFor, StandsOn, entry_at, fault_sought, file_of, first_fault, header_fault, is_at_checkpoint, is_checkpoint, next_entry, next_seal, selected_bytes, version_of}
pub use Rattle.gts_checkpoint.specs.Cited.{CanBegin, HasRead, HasWritten, IsDamage, WorksBeside, bytes_from, checkpoint_file}
