-- What this crate says in words of what lies below it, in one place.
pub use Rattle.std.specs.List.{filter}
pub use Rattle.gts_alphabet.specs.declared.limits.TheConstants.{LONGEST_MESSAGE}
pub use Rattle.gts_traits.specs.Cited.{Begun, HasParts, Part, Rose}
pub use Rattle.gts_traits.specs.declared.source.Source.{Ghosts}
pub use Rattle.gts_frame.specs.Cited.{Decoding, IsStreamFront, held_in}
pub use Rattle.gts_frame.specs.declared.kind.Kind.{Kind}
pub use Rattle.gts_frame.specs.declared.lost.FrameField.{FrameField}
pub use Rattle.gts_event.specs.Cited.{State, all_done, all_unsaid, outcome}
pub use Rattle.gts_event.specs.declared.event.Entry.{Entry}
pub use Rattle.gts_event.specs.declared.event.Entry.TheVariants.{Done, Doubt, Idle, Unsaid}
pub use Rattle.gts_event.specs.declared.event.Event.{Event}
pub use Rattle.gts_event.specs.declared.event.Event.TheVariants.{Heard, Lost, Taken}
pub use Rattle.gts_event.specs.declared.fault.Device.{Device}
pub use Rattle.gts_event.specs.declared.fault.SwitchFault.{SwitchFault}
pub use Rattle.gts_event.specs.declared.fault.SwitchFault.TheVariants.{DiskFault, Full, NoMemory, SayFault, Spent, Stopped}
pub use Rattle.gts_event.specs.declared.outcome.Outcome.{Outcome}
pub use Rattle.gts_connection.specs.Cited.{connection, events_added, events_of_signs}
pub use Rattle.gts_calls.specs.Cited.{AddsAny, AddsAtFault, AddsEntries, AddsFed, AddsJust, Answers, EndsOver, EndsWith, GoesOn, IsSpent, IsWanting, LeavesLast, LosesLast, PassesBetween, SaysNoMore, Seen, Takes, TurnsTogether, entry_of, own}
pub use Rattle.gts_calls.specs.declared.fed.Fed.{Fed}
pub use Rattle.gts_calls.specs.declared.fed.FeedEnd.{FeedEnd}
