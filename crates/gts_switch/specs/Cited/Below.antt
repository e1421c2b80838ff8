-- What this crate says in words of what lies below it, in one place.
pub use Rattle.gts_directory.specs.Cited.{part_text}
pub use Rattle.gts_app.specs.declared.status.Status.{Status}
pub use Rattle.gts_app.specs.declared.status.Status.TheVariants.{Capture, Changed, Closed, Damaged, Directory, DiskFault, Done, Exists, Feed, File, Full, InputFault, LineFault, LongSession, NoJournal, NoMemory, OldDirectory, OldVersion, OtherDirectory, OtherFeed, OutputFault, TicketsSpent, Usage}
