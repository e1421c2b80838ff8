-- What proofs of this crate cite of its definitions, of the standard library and of crates below, in one place.
pub use Rattle.std.proofs.Common.{Bool, Err, IfErr, IsErrOf, IsTrue, List, None, Ok, OnOk, Option, Result, Some, [], ap, append_assoc, arith, cond, false, inl, inr, length, length-append, refl, replicate, rules, subst, suc, sym, take, true, ℕ, ◌*◌, ◌++◌, ◌+◌, ◌-◌, ◌<◌, ◌==◌, ◌∙◌, ◌∷◌, ◌≡◌, ◌≢◌, ◌≤◌, ◌⊎◌}
pub use Rattle.std.proofs.lemmas.Bool.{leb-true}
pub use Rattle.std.proofs.lemmas.Grind.{common_steps}
pub use Rattle.std.proofs.lemmas.List.{append-nil, length-take-le}
pub use Rattle.std.proofs.lemmas.Option.{none-some}
pub use lib.ListN.{get_elem?}
pub use mathlib.Core.Option.{some}
pub use Rattle.gts_connection.proofs.LawLemmas.{compactions_between, reads_once, whole_is_read}
pub use Rattle.gts_directory.proofs.TakingOverLemmas.{none_from}
pub use Rattle.gts_event.specs.declared.fault.SwitchFault.TheVariants.{SayFault, Spent}
pub use Rattle.gts_journal.proofs.LawLemmas.{syncs_silent}
pub use Rattle.gts_replay.specs.{BreaksIdle, BreaksOff, BreaksTogether}
pub use Rattle.gts_sender.specs.{takes}
pub use Rattle.gts_standby.specs.Taking.{Taken}
pub use Rattle.gts_app.specs.Cited.{AllByRecursion, Answers, AnswersFault, AnswersOpening, AnswersWaiting, AreRead, AreUntouched, AsksToShip, Bad, BecauseFull, BecauseFullThen, BecauseNoMemory, BecauseRecorded, BecauseTooLarge, Beginning, BeginsWith, Behind, Breaks, BreaksAt, BreaksAtCompaction, BreaksAtRestart, Call, CameTo, Capture, CaptureKind, Change, Changed, Closed, ComesTo, Command, Compact, Compacts, Connections, Counted, CountedParts, CountsEngine, CountsPack, CountsSays, CountsTraffic, Damaged, Device, Did, DirFault, Directory, Disk, DiskFault, Does, Done, Doubt, Drain, Dropped, EachImageReads, EachOpens, EachOwedFew, EachRoutedOnce, EachSince, EndHead, Ended, Ends, EndsAs, EndsIn, EndsWithoutTable, Engine, Entry, Event, Failed, Feed, File, Files, FollowEnd, FollowedAs, FollowsFeed, ForNoReason, Full, GapsEnd, GaveMost, Generate, Generates, Ghosts, GivesRoom, GivesRoomFor, Handed, HasCallCause, HasCause, HasDone, HasDoubt, HasEndCause, HasEndCounts, HasFailed, HasFault, HasGapsCause, HasNoCircuit, HasRead, HasReplayCause, HasRoom, HasSaid, HasUnpackCause, HasUnsaid, Holds, Idle, Inits, InputFault, InspectedAs, Inspects, IsAccepted, IsAnswer, IsBegunUnder, IsCalm, IsCompactFault, IsCompacted, IsCompaction, IsDiskFaultOf, IsEnd, IsEndAt, IsEndOf, IsEntryOf, IsFront, IsFullCompacted, IsFullOn, IsIdleFault, IsInitEnd, IsLeft, IsMigrated, IsNamed, IsNamedEnd, IsNowhereElse, IsOfFiles, IsOldReadEnd, IsOrdered, IsOrigin, IsReadEnd, IsRefusal, IsRefusedBy, IsReopenFault, IsReplayEnd, IsRewritten, IsRoutedAsNamed, IsSayFaultOf, IsServed, IsShipFault, IsStatusOf, IsTooLarge, IsUnbegun, IsUnfailed, IsUnfailedFile, IsUnhindered, IsWholeOf, Journaled, Keeps, KeepsFiles, KeepsLaws, Known, Lacks, LeavesAlone, LeavesFiles, LeavesJournal, LeavesUnopened, Leaving, LineFault, LinesSeen, LongSession, MOST_TURNS, MayGo, MigrateFault, MigratedAs, Migrates, Moment, NamedAs, Names, NamesGaps, Need, Needs, NeverFull, NoJournal, NoMemory, ObservedOrigin, OldDirectory, OldVersion, OnlySyncs, OnlySyncsUnopened, OpenFault, Opened, Opens, OpensAsBefore, OpensEither, OpensWith, Origin, OtherDirectory, OtherFeed, OutputFault, Outside, Over, PackEnd, PackedAs, Packs, PacksStream, Ran, Read, ReadingOf, ReadsAs, ReadsBoth, ReadsDirectory, ReadsFew, ReadsOldDirectory, ReceiveEnd, Refused, RefusedBy, Refuses, RefusesWaiting, Remains, Reopen, ReplayEnd, Replays, Reported, Restart, Restarted, Rose, SaidSince, SameFiles, Say, SayMode, Says, SaysFor, SaysFrontSince, SaysFrontSynced, SaysTable, SendEnd, Serve, ServeEnd, Serves, ServesCircuit, ShipFault, ShippedAs, ShipsFeed, ShipsOnly, Shows, ShowsTable, Since, SourceMeanings, Standing, Stands, StandsFor, State, Status, Stays, StaysAt, StaysThere, Step, Stopped, StopsAtCompacting, StopsAtReopening, SwitchFault, Syncs, Take, TakenAs, TakesFeed, TakesOver, TicketsSpent, Traffic, Tried, TriedAs, Tries, TriesMigration, UnpackEnd, Unpacks, Unsaid, Untouched, Usage, Waiting, WasOpened, WhereOpened, WithoutReason, World, after, after_all, after_entry, after_step, all_done, all_unsaid, asked_of, badplace, begun, capture_meanings, captured, changes, checkpoint_file, comes_to, command_of, compacted_after, compacted_at, compacted_size, compactions, compactions_at, counted, counted_by, day_summary, directory_of_bytes, done_by, drawn, entries, entries_at, entries_from, entries_of_step, entries_under, events_added, fault_entries, fault_takes, files_open, files_open_any, files_read, filter, first_change, first_fault, flat, flat_map, frame_of_draw, full, full_compacted, goes_on, handed, has, head_text, history, history_of, is_sound, keeps_one, meanings_by, need, need_of, no_bytes, on_circuit, opened_of, opens, opens_any, origin_at, origin_behind, origin_of, outcome, own_seals, read_after, readable, receiver_first, refusal, report, restarted, said_by, sayings, seen, seen_lines, selected, selected_bytes, sender_first, settled, shown, since_at, slice_index_or, state_after, state_at, state_of, status_compacted, status_followed, status_migrated, status_named, status_of, status_of_fault, status_packed, status_said, status_served, status_shipped, status_unpacked, step_text, switch_meanings, table, table_behind, taken, takes_of_drain, threads_of, unpacked, used_at, waits_on_closed, world, written}
pub use Rattle.gts_app.specs.declared.reading.TheConstants.{MOST}
