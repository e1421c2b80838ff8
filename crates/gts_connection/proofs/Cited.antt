-- What proofs of this crate cite of its definitions, of the standard library and of crates below, in one place.
pub use Rattle.std.proofs.Common.{Bool, IsSome, List, None, Option, Some, [], ap, arith, codes, cond, drop, false, find, get_or, inl, inr, length, min, nat_eq, nat_lt, refl, replicate, subst, suc, sym, take, true, zero, ℕ, ◌++◌, ◌+◌, ◌-◌, ◌<◌, ◌==◌, ◌∙◌, ◌∷◌, ◌≡◌, ◌≤◌, ◌⊎◌}
pub use Rattle.std.proofs.Math.Seq.{drop-append_seam, take-append-add, take-append_seam}
pub use Rattle.std.proofs.lemmas.Bool.{and_from, and_parts, cases_Bool, cases_lt, eqb-true, lt-ltb}
pub use Rattle.std.proofs.lemmas.Grind.{common_steps}
pub use Rattle.std.proofs.lemmas.List.{append-nil, append_assoc, append_cancel_left, get_or-set_same, length-append, length-map, length-set, length-take, length-take-le, map-append, set-set, take-append-drop, take_all}
pub use Rattle.std.proofs.lemmas.List.Folds.{list_all-append}
unfoldable pub use Rattle.std.specs.Fmt.{digits}
pub use Rattle.gts_alphabet.proofs.LawLemmas.{digits_value-dec}
pub use Rattle.gts_event.proofs.LawLemmas.{after_all-append}
pub use Rattle.gts_event.specs.Worked.{two}
pub use Rattle.gts_frame.proofs.LawLemmas.{front-computed, front-is, front-open, open-front, reads-lost, reads-open, same_bytes, shows-computed, shows-one, signs-piece}
pub use Rattle.gts_connection.specs.Cited.{AllByRecursion, An, AreSteps, AreStepsOf, Bad, Bi, Breaks, CaptureKind, Carries, Compact, CompactHead, Connections, Decoding, Directory, Drain, DrainHead, EndHead, EndsEarlyOf, EndsInFeed, EndsInHead, Entry, Event, Feed, FeedHead, Frame, FrameField, Fx, Head, Heard, IsConnection, IsEarly, IsFramed, IsHead, IsHeadFront, IsHeadOf, IsPartialHead, IsStreamFront, IsWholeOf, Journaled, KeepAlive, KeepsAlive, Kind, LONGEST_CAPTURE, Lost, Piece, ReadingIn, ReadingOf, ReadsOn, Reopen, ReopenHead, Restart, RestartHead, Shows, Sign, State, Step, Take, TakeHead, Taken, Traffic, Whole, after_all, after_step, all_done, break_at, break_of, bytes_of_step, circuit_of_event, compactions, compactions_from, connection, connections_after, count_at, digits_value, entries, entries_from, entries_of_step, event_at, events_added, events_in, events_of, events_of_signs, flat_map, frame, has_piece, head_of, head_text, held_in, is_here, is_lost, join, joined, left_to_give, length_in, letters, list_all, list_any, loss_at, loss_of, no_bytes, on_circuit, open_part, pointwise, same_text, sign_at, signs_from, signs_in, signs_of, signs_of_step, starts_with, step_text}
unfoldable pub use Rattle.gts_connection.specs.Cited.{bare_group_at, bare_heading_at, body_at, dec, heading_at, heading_text, message_group_at, number_at, plain_heading_at, readable, request_at, split_at, text_at}
pub use Rattle.gts_connection.specs.Worked.{frame_1}
