-- What proofs of this crate cite of its definitions, of the standard library and of crates below, in one place.
pub use Rattle.std.proofs.Common.{Bool, Err, IfSome, IsNone, List, None, Ok, OnErr, OnOk, Option, Result, Some, Vec, [], ap, append_assoc, arith, cond, drop, eq-eqb, false, get_or, if◌then◌else◌, inl, inr, length, map, min, nat_le, nat_lt, refl, replicate, reverse, rules, set, slice_get, slice_index, slice_index_or, subst, suc, sym, take, true, vec_len, zero, ℕ, ◌&&◌, ◌++◌, ◌+◌, ◌-◌, ◌<◌, ◌==◌, ◌||◌, ◌∙◌, ◌∷◌, ◌≡◌, ◌≤◌}
pub use Rattle.std.proofs.Math.Seq.{take-add}
pub use Rattle.std.proofs.lemmas.Bool.{and_parts, cases_eq}
pub use Rattle.std.proofs.lemmas.Bool.Decides.{nat_tests}
pub use Rattle.std.proofs.lemmas.Grind.{get_or_default_zero}
pub use Rattle.std.proofs.lemmas.List.{append-nil, drop-drop, get_or-map, get_or-replicate, get_or-set_other, get_or-set_same, length-append, length-set, length-take, map-append, map-set, reverse-append, set-get_or, take-append-drop, take_at, take_more, take_rest}
pub use Rattle.std.proofs.lemmas.Option.{IfSome_then}
pub use Rattle.std.proofs.lemmas.Result.{err_from_is_err_and}
pub use Rattle.gts_traits.proofs.LawLemmas.{channel_bytes-append, channel_bytes-on, channel_bytes-on_other}
pub use Rattle.gts_traits.specs.Connections.{Part}
pub use Rattle.gts_memory.specs.Cited.{Agree, Broken, CHANNELS, Call, Cuts, Did, Doing, Files, Global, HoldsAt, Inside, IsImage, IsImageDuring, IsImageIn, IsLeft, IsPossible, Keeping, KeepsChannels, LeadsTo, LeadsToAll, Made, Noted, PastIsSound, Says, Stands, Syncs, Touched, Writes, at_crash, before, calls_of, channel_bytes, contents, did, doing_of, fits, in_work, is_sync, kept_call, kept_call_is_possible, kept_calls_are_possible, laid, noted_of, on, overwritten, past_of, said_before, said_by, saying_of, sayings, seen, stable, three_files, touched, touches, unchanged, with_work}
pub use Rattle.gts_memory.specs.Objects.{still}
