-- What this crate says in words of what lies below it, in one place.
pub use Rattle.std.specs.Borrow.{sem}
pub use Rattle.std.specs.Cmp.Lexicographic.{pointwise}
pub use Rattle.std.specs.List.{starts_with}
pub use Rattle.gts_alphabet.specs.declared.limits.TheConstants.{LONGEST_BODY}
pub use Rattle.gts_traits.specs.Cited.{Answer, AsksDisk, AsksDiskOf, Breaks, Call, Cuts, Did, EachSince, Files, HasCause, IsImage, IsPossible, IsSynced, IsTorn, LooksAt, LooksAtOf, OnlyTears, Outside, Rose, Says, Syncs, Tries, Writes, overwritten, said_by, seen}
pub use Rattle.gts_frame.specs.declared.kind.Kind.TheVariants.{An, Bi, Fx}
pub use Rattle.gts_directory.specs.Cited.{Directory}
pub use Rattle.gts_event.specs.Cited.{Need, State, after, empty, need, restarted}
pub use Rattle.gts_record.specs.Cited.{Accept, BeginsSealed, Drew, FitsRecord, IsRecord, Record, chain_text, closed_gate, first_seal, held, is_older, is_short, journal_text, last_seal, magic, open_gate, record_of, record_size, record_text, seal, seal_size, sealed, sealed_at, texts_of}
unfoldable pub use Rattle.gts_record.specs.Cited.{written}
pub use Rattle.gts_record.specs.declared.fault.OpenFault.{OpenFault}
pub use Rattle.gts_record.specs.declared.fault.OpenFault.TheVariants.{Damaged, DiskFault, NoJournal, NoMemory, NotThis, OldVersion}
pub use Rattle.gts_record.specs.declared.version.Version.{Version}
pub use Rattle.gts_record.specs.declared.version.Version.TheVariants.{One, Two}
pub use Rattle.gts_opening.specs.Cited.{AreAdmitted, IsClosed, MayStand, Read, admits, after_records, agreeing, checkpoint_opens, event_of_record, file_opens, files_read, gate_after, need_in, opened_of, opens, records_at, selected}
