-- What files of this crate and of those above cite of it, in one place, and what it cites of those below.
pub mod Below
pub use Rattle.gts_traits.specs.Counts.{HasCause, HasCauseOf, Rose, counted}
pub use Rattle.gts_traits.specs.Asking.{AsksDisk, AsksDiskOf, AsksOutput, LooksAt, LooksAtOf}
pub use Rattle.gts_traits.specs.Source.{Takes}
pub use Rattle.gts_traits.specs.Sink.{Appends}
pub use Rattle.gts_traits.specs.Calls.{Broken, Call, Cuts, Did, Doing, Outside, SaidSince, Says, Syncs, Writes, channel_bytes, on, said_by, to_say}
pub use Rattle.gts_traits.specs.Disk.{Agree, Files, IsImage, IsImageDuring, IsSynced, overwritten, seen, stable, touched, touches}
pub use Rattle.gts_traits.specs.Station.{Answer, Breaks, IsFront, IsPossible, MayBreakTo, Tries}
pub use Rattle.gts_traits.specs.Moments.{AsSeen, Behind, EachSince, GoesOn, InCall, InSay, IsTorn, MayLeave, MayLeaveAlong, OnlyAdds, OnlyCuts, OnlyTears}
pub use Rattle.gts_traits.specs.Connections.{Begins, Begun, HasParts, Part, first_connection}
pub use Rattle.gts_traits.specs.Places.{PlaceSeen, nowhere, place_seen}
pub use Rattle.gts_traits.specs.Lines.{CircuitBytes, CountsSockets, SameElsewhere, no_bytes}
pub use Rattle.gts_traits.specs.Say.{EachTouchesNone, SaysFront, SaysOnly, Tells, TouchesNone, WritesNothing}
pub use Rattle.gts_traits.specs.declared.failed.Failed.{Failed}
pub use Below.*
