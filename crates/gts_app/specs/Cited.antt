-- What files of this crate and of those above cite of it, in one place, and what it cites of those below.
pub mod Below
pub use Rattle.gts_app.specs.Reading.{EndsIn, IsOldReadEnd, IsReadEnd, ReadsAs, ReadsDirectory, ReadsFew, ReadsOldDirectory, Stays}
pub use Rattle.gts_app.specs.Laws.{IsEntryOf, KeepsLaws, state_of}
pub use Rattle.gts_app.specs.Commands.{IsCommand, IsSettled, WithDirectoryAlone, moment_at, since_at}
pub use Rattle.gts_app.specs.Init.{Inits, IsInitEnd}
pub use Rattle.gts_app.specs.Generate.{Generates}
pub use Rattle.gts_app.specs.Ending.{refusal, status_compacted, status_of, status_said}
pub use Rattle.gts_app.specs.Opening.{AnswersFault, BeginsWith, IsOfFiles, IsOrigin, IsRefusal, NoneFalls, Opens, Refuses, WhereOpened, handed}
pub use Rattle.gts_app.specs.Replay.{BecauseFull, BecauseRecorded, BecauseTooLarge, BreaksAt, BreaksTogether, Does, EndsWhole, ForNoReason, HasRoom, IsNoCapture, IsReplayEnd, Lacks, NeverFull, Replays, StopsAtCompacting, StopsAtReopening, Untouched, WithoutReason, World, counted, counted_by, history, world}
pub use Rattle.gts_app.specs.Sound.{NoneFailed}
pub use Rattle.gts_app.specs.Show.{Reported, Shows}
pub use Rattle.gts_app.specs.Compact.{Compacts, IsCompactEnd, IsCompacted, IsTooLarge, Over, StaysThere}
pub use Rattle.gts_app.specs.Serve.{BecauseFullThen, BecauseNoMemory, CameTo, HasEndCause, IsUnhindered, Ran, Serves, ServesIn, status_of_fault, status_served}
pub use Rattle.gts_app.specs.Pack.{KeepsFiles, PackedAs, PacksStream, status_packed}
pub use Rattle.gts_app.specs.Gaps.{NamedAs, NamesGaps, status_named}
pub use Rattle.gts_app.specs.Inspect.{InspectedAs, Inspects}
pub use Rattle.gts_app.specs.Unpack.{HasNoCircuit, IsStatusOf, Unpacks, capture_meanings, status_unpacked, unpacked}
pub use Rattle.gts_app.specs.Migrate.{AreRead, IsBegunUnder, IsCalm, IsRefusedBy, LeavesJournal, MayGo, MigratedAs, Migrates, ReadsBoth, RefusesWaiting, SaysFrontSince, UnderBoth, status_migrated}
pub use Rattle.gts_app.specs.Trying.{MayHaveSaid, Tried, TriedAs, TriesMigration}
pub use Rattle.gts_app.specs.Ship.{ShippedAs, ShipsFeed, status_shipped}
pub use Rattle.gts_app.specs.Follow.{ComesTo, FollowedAs, FollowsFeed, RefusedBy, TakenAs, TakesFeed, status_followed}
pub use Rattle.gts_app.specs.Count.{Behind, CountsEngine, CountsTraffic, EndsWithoutTable, SaysTable, table_behind}
pub use Rattle.gts_app.specs.declared.status.Status.{Status}
pub use Rattle.gts_app.specs.declared.world.Handed.{Handed}
pub use Rattle.gts_app.specs.declared.status.Status.TheVariants.{Capture, Changed, Closed, Damaged, Directory, DiskFault, Done, Exists, Feed, File, Full, InputFault, LineFault, LongSession, NoJournal, NoMemory, OldDirectory, OldVersion, OtherDirectory, OtherFeed, OutputFault, TicketsSpent, Usage}
unfoldable pub use Below.*
