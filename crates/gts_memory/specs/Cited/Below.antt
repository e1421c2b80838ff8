-- What this crate says in words of what lies below it, in one place.
pub use Rattle.std.specs.List.{list_any}
pub use Rattle.std.specs.declared.alloc.Global.{Global}
pub use Rattle.gts_alphabet.specs.declared.limits.TheConstants.{CHANNELS, MOST_CIRCUITS}
pub use Rattle.gts_traits.specs.Cited.{Agree, Appends, Begins, Begun, Broken, Call, CircuitBytes, CountsSockets, Cuts, Did, Doing, Files, HasCause, HasParts, IsImage, IsImageDuring, IsPossible, IsSynced, Part, PlaceSeen, Rose, SameElsewhere, Says, Syncs, Takes, Tries, Writes, channel_bytes, counted, first_connection, nowhere, on, overwritten, place_seen, said_by, seen, stable, touched, touches}
