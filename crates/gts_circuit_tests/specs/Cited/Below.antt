-- What this crate says in words of what lies below it, in one place.
pub use Rattle.gts_alphabet.specs.Cited.{message_of}
unfoldable pub use Rattle.gts_alphabet.specs.Cited.{dec}
pub use Rattle.gts_traits.specs.Cited.{seen}
pub use Rattle.gts_frame.specs.Cited.{frame, signs_of_step}
pub use Rattle.gts_frame.specs.declared.kind.Kind.TheVariants.{An}
pub use Rattle.gts_frame.specs.declared.step.Step.{Step}
pub use Rattle.gts_directory.specs.Cited.{Directory, circuit_of, localhost}
pub use Rattle.gts_event.specs.Cited.{Need, State, after, after_all, begun, outcome}
pub use Rattle.gts_event.specs.declared.event.Entry.{Entry}
pub use Rattle.gts_event.specs.declared.event.Entry.TheVariants.{Done}
pub use Rattle.gts_event.specs.declared.event.Event.{Event}
pub use Rattle.gts_event.specs.declared.event.Event.TheVariants.{Heard, Lost, Taken}
pub use Rattle.gts_event.specs.declared.fault.SwitchFault.TheVariants.{Spent}
pub use Rattle.gts_event.specs.declared.outcome.Outcome.TheVariants.{Nothing}
pub use Rattle.gts_connection.specs.Cited.{events_added, events_of_signs}
pub use Rattle.gts_opening.specs.Cited.{IsCaused}
pub use Rattle.gts_calls.specs.Cited.{Feeds, Frame, HasCauses, IsSpent, Seen, TakesSome, history_of, is_event, state_at}
pub use Rattle.gts_engine.specs.declared.mode.SayMode.TheVariants.{Caller}
pub use Rattle.gts_receiver.specs.Cited.{goes_on}
pub use Rattle.gts_circuits.specs.Cited.{opened_as}
