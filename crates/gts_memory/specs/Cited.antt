-- What files of this crate and of those above cite of it, in one place, and what it cites of those below.
pub mod Below
pub use Rattle.gts_memory.specs.Counter.{Count, Counted, CountedCall, CountedTrace, is_listed, next, no_calls}
pub use Rattle.gts_memory.specs.Past.{Keeps, KeepsChannels, Noted, broke, calls_of, contents, did, fits, kept_call, saying_of, sayings, three_files, unchanged}
pub use Rattle.gts_memory.specs.DeedView.{doing_of, noted_of, past_of}
pub use Rattle.gts_memory.specs.Kept.{Keeping, LeadsTo, LeadsToAll, said_before}
pub use Rattle.gts_memory.specs.PastView.{PastIsSound}
pub use Rattle.gts_memory.specs.Possible.{kept_call_is_possible, kept_calls_are_possible}
pub use Rattle.gts_memory.specs.LeftView.{Stands}
pub use Rattle.gts_memory.specs.Crash.{HoldsAt, IsImageIn, IsLeft, at_crash, before, in_work, is_below, is_sync, laid, with_work}
pub use Rattle.gts_memory.specs.Objects.{ClosesOne, OpensOne, StationInMemory, begun_in, bytes_in, circuit_in, faults_in, handed_back, is_open_in, is_within, new_sink, new_source, new_station, next_of, place_in, still}
pub use Rattle.gts_memory.specs.declared.deed.Made.{Made}
pub use Rattle.gts_memory.specs.declared.past.Past.TheInside.{Inside}
pub use Rattle.gts_memory.specs.declared.touched.Touched.{Touched}
pub use Below.*
