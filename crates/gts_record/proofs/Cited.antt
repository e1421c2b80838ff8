-- What proofs of this crate cite of its definitions, of the standard library and of crates below, in one place.
pub use Rattle.std.proofs.Common.{Bool, IfNone, IfSome, IsTrue, List, None, Option, Some, [], ap, append_assoc, arith, cond, drop, false, get_or, length, length-append, nat_eq, nat_le, option_map, refl, rules, subst, suc, sym, take, take-append-drop, true, zero, ℕ, ◌%◌, ◌&&◌, ◌*◌, ◌++◌, ◌+◌, ◌/◌, ◌<◌, ◌==◌, ◌^◌, ◌∙◌, ◌∷◌, ◌≡◌, ◌≤◌}
pub use Rattle.std.proofs.Math.Seq.{take-append_seam}
pub use Rattle.std.proofs.lemmas.Bool.{and_from, le-leb, leb-true}
pub use Rattle.std.proofs.lemmas.Bool.Decides.{nat_tests}
pub use Rattle.std.proofs.lemmas.List.{append-nil, drop_at, take_all, take_at}
pub use Rattle.std.proofs.lemmas.List.Sums.{fold-append}
unfoldable pub use Rattle.sha2.specs.Sha256.{digest_bytes, sha256}
pub use Rattle.gts_frame.proofs.LawLemmas.{same_bytes}
pub use Rattle.gts_record.specs.Cited.{Accept, An, BeginsSealed, BeginsWith, BeginsWithNoAccept, BeginsWithNoDraw, Bi, Drew, FitsRecord, Fx, Holds256, IsRecord, Kind, LONGEST_BODY, One, Record, Two, Version, bytes_of, chain_text, held, is_sealed, is_short, kind_of, last_seal, letters, number_in, open_gate, pointwise, record_at, record_in, record_of, record_text, same_text, seal, seal_size, sealed, sealed_at, starts_with}
unfoldable pub use Rattle.gts_record.specs.Cited.{Seals}
unfoldable pub use Rattle.gts_record.specs.Format.{written}
