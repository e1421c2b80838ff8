-- What this crate says in words of what lies below it, in one place.
pub use Rattle.std.specs.List.{AllByRecursion, filter, flat_map, slice_index_or}
pub use Rattle.gts_traits.specs.Cited.{Breaks, Call, Did, EachSince, Files, HasCause, HasCauseOf, IsFront, IsSynced, Outside, Rose, SaidSince, Says, SaysFront, SaysOnly, Syncs, Tries, on, said_by, seen}
pub use Rattle.gts_traits.specs.declared.failed.Failed.{Failed}
pub use Rattle.gts_traits.specs.declared.source.Source.{Ghosts as SourceMeanings}
pub use Rattle.gts_traits.specs.declared.station.Station.{Ghosts}
pub use Rattle.gts_directory.specs.Cited.{Directory, TakesOver, first_change}
pub use Rattle.gts_directory.specs.declared.fault.DirFault.{DirFault}
pub use Rattle.gts_directory.specs.declared.taking_over.Change.{Change}
pub use Rattle.gts_dirfile.specs.Cited.{directory_of_bytes}
pub use Rattle.gts_dirfile.specs.declared.limits.TheConstants.{LONGEST_DIRECTORY}
pub use Rattle.gts_event.specs.Cited.{Draws, EachOwedFew, EachRoutedOnce, EachWaitsOrDrawn, HasFrame, IsNowhereElse, IsOrdered, IsRoutedAsNamed, Need, State, after, after_all, after_entry, all_done, all_unsaid, begun, choice, drawn, draws, frame_of_draw, has, is_sound, keeps_one, need, need_of, next, on_circuit, outcome, restarted, takes_of_drain}
pub use Rattle.gts_event.specs.declared.event.Entry.{Entry}
pub use Rattle.gts_event.specs.declared.event.Entry.TheVariants.{Done, Doubt, Idle, Restarted, Unsaid}
pub use Rattle.gts_event.specs.declared.event.Event.{Event}
pub use Rattle.gts_event.specs.declared.event.Event.TheVariants.{Taken}
pub use Rattle.gts_event.specs.declared.fault.Device.{Device}
pub use Rattle.gts_event.specs.declared.fault.Device.TheVariants.{Disk, Say}
pub use Rattle.gts_event.specs.declared.fault.SwitchFault.{SwitchFault}
pub use Rattle.gts_event.specs.declared.fault.SwitchFault.TheVariants.{Stopped}
pub use Rattle.gts_event.specs.declared.outcome.Outcome.TheVariants.{Accepted}
unfoldable pub use Rattle.gts_record.specs.Cited.{written}
pub use Rattle.gts_record.specs.declared.fault.OpenFault.{OpenFault}
pub use Rattle.gts_connection.specs.Cited.{Compact, Connections, Drain, EndHead, EndsEarlyOf, IsWhole, IsWholeOf, ReadingOf, Reopen, Restart, Step, Take, after_step, compactions, entries_from, entries_of_step, events_added, head_text, no_bytes, step_text}
unfoldable pub use Rattle.gts_connection.specs.Cited.{readable}
pub use Rattle.gts_connection.specs.declared.kind.CaptureKind.{CaptureKind}
pub use Rattle.gts_connection.specs.declared.kind.CaptureKind.TheVariants.{Journaled, Traffic}
pub use Rattle.gts_opening.specs.Cited.{HasDoubt, HasRecord, HasUnsaid, IsAccepted, Opened, Read, compacted_size, done_by, files_open, files_read, full, full_compacted, new_journal, opened_of, opens, selected, used}
pub use Rattle.gts_core.specs.Cited.{Holds, Needs}
pub use Rattle.gts_journal.specs.Cited.{OnlySyncs, OpensAsBefore, is_begun, selected_bytes}
pub use Rattle.gts_checkpoint.specs.Cited.{checkpoint_file}
pub use Rattle.gts_recovery.specs.Cited.{IsAnswer, files_open_any, opens_any}
pub use Rattle.gts_lock.specs.Cited.{Known, entries, entries_under}
pub use Rattle.gts_lock.specs.declared.limits.TheConstants.{MOST_TURNS}
pub use Rattle.gts_calls.specs.Cited.{HasCallCause, IsReopenFault, Standing, settled}
pub use Rattle.gts_calls.specs.declared.switch.TheConstants.{MOST_TOGETHER}
pub use Rattle.gts_engine.specs.Cited.{Engine, GivesRoom, HasFailed, HasRead, HasSaid, IsCompactFault, IsCompaction, IsFullCompacted, IsIdleFault, IsRewritten, Keeps, Leaving, ObservedOrigin, OpensWith, Origin, StaysAt, compacted_after, origin_of, shown, state_at, switch_meanings, used_at}
pub use Rattle.gts_engine.specs.declared.mode.SayMode.{SayMode}
pub use Rattle.gts_engine.specs.declared.mode.SayMode.TheVariants.{Caller}
pub use Rattle.gts_migrate.specs.Cited.{AnswersOpening, AnswersWaiting, CountsSays, GivesRoomFor, IsDiskFaultOf, IsMigrated, IsSayFaultOf, LeavesFiles, OpensEither, SaysFor, WasOpened, sayings, waits_on_closed}
pub use Rattle.gts_migrate.specs.declared.fault.MigrateFault.{MigrateFault}
pub use Rattle.gts_migrate.specs.declared.waiting.Waiting.{Waiting}
pub use Rattle.gts_migrate.specs.declared.waiting.Waiting.TheVariants.{Dropped, Refused}
pub use Rattle.gts_count.specs.Cited.{Counts, ShowsTable, meanings_by, table}
pub use Rattle.gts_count.specs.declared.counted.Counted.{Counted}
pub use Rattle.gts_count.specs.declared.parts.CountedParts.{CountedParts}
pub use Rattle.gts_report.specs.Cited.{changes, report}
pub use Rattle.gts_replay.specs.Cited.{BreaksAtCompaction, BreaksAtRestart, Ends, HasDone, HasReplayCause, IsUnbegun, IsUnfailed, Remains, StandsFor, compacted_at, compactions_at, entries_at, origin_at, origin_behind}
pub use Rattle.gts_replay.specs.declared.end.ReplayEnd.{ReplayEnd}
pub use Rattle.gts_generate.specs.Cited.{IsFullOn, day_summary}
pub use Rattle.gts_standby.specs.Cited.{Answers, AsksToShip, EachImageReads, EachOpens, EndsAs, HasEndCounts, IsEnd, IsNamed, IsNamedEnd, IsShipFault, LeavesAlone, LeavesUnopened, OnlySyncsUnopened, SaysFrontSynced, ShipsOnly, asked_of, comes_to, own_seals, read_after, state_after, taken}
pub use Rattle.gts_standby.specs.declared.end.FollowEnd.{FollowEnd}
pub use Rattle.gts_standby.specs.declared.fault.ShipFault.{ShipFault}
pub use Rattle.gts_standby.specs.declared.since.Since.{Since}
pub use Rattle.gts_accum.specs.Cited.{CountsPack, HasUnpackCause, IsBad, IsEndAt, IsEndOf, IsLeft, IsTaken, IsUnfailedFile, Packs, SameFiles, bad_in_stream, badplace, captured, packed}
pub use Rattle.gts_accum.specs.declared.end.UnpackEnd.{UnpackEnd}
pub use Rattle.gts_accum.specs.declared.end.UnpackEnd.TheVariants.{Bad, Ended}
pub use Rattle.gts_accum.specs.declared.pack_end.PackEnd.{PackEnd}
pub use Rattle.gts_gap.specs.Cited.{HasGapsCause, IsCutAt, Names, Reads, report_of}
pub use Rattle.gts_gap.specs.declared.fault.GapsEnd.{GapsEnd}
pub use Rattle.gts_gap.specs.declared.moment.Moment.{Moment}
pub use Rattle.gts_words.specs.Cited.{command_of}
pub use Rattle.gts_words.specs.declared.command.Command.{Command}
pub use Rattle.gts_words.specs.declared.command.Command.TheVariants.{CheckFrom, CheckHeading, Generate, Serve, Unpack}
pub use Rattle.gts_receiver.specs.Cited.{fault_entries, goes_on}
pub use Rattle.gts_receiver.specs.declared.end.ReceiveEnd.{ReceiveEnd}
pub use Rattle.gts_receiver.specs.declared.limits.TheConstants.{WITHOUT_END}
pub use Rattle.gts_sender.specs.Cited.{fault_takes}
pub use Rattle.gts_sender.specs.declared.end.SendEnd.{SendEnd}
pub use Rattle.gts_circuits.specs.Causes.{history_of}
pub use Rattle.gts_circuits.specs.Cited.{AreUntouched, Beginning, GaveMost, HasFault, IsCrampedFor, IsServed, LinesSeen, ServesCircuit, Stands, first_fault, flat, lines_seen, origin_with, receiver_first, seen_lines, sender_first, threads_of}
pub use Rattle.gts_circuits.specs.declared.service.end.ServeEnd.{ServeEnd}
