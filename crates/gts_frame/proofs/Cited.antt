-- What proofs of this crate cite of its definitions, of the standard library and of crates below, in one place.
pub use Rattle.std.proofs.Common.{Bool, IfNone, IfSome, IsSome, IsTrue, List, None, Option, Some, [], add-mul, add-one, ap, arith, cond, drop, false, get_or, inl, inr, length, min, mul-le-mul_right, mul_assoc, mul_comm, nat_eq, nat_le, nat_lt, not, pow-add, pow-suc, refl, replicate, subst, suc, sym, take, true, zero, ℕ, ◌%◌, ◌&&◌, ◌*◌, ◌++◌, ◌+◌, ◌-◌, ◌/◌, ◌<◌, ◌==◌, ◌^◌, ◌||◌, ◌↔◌, ◌∙◌, ◌∷◌, ◌≡◌, ◌≤◌, ◌⊎◌}
pub use Rattle.std.proofs.Math.Seq.{split_at, take-append_seam, take-length, take-suc}
pub use Rattle.std.proofs.lemmas.Bool.{and_from, and_parts, cases_lt, eq-eqb, eqb-true, false_from_ne_true, le-leb, leb-true, lt-ltb, ltb-true, ne_eqb, not-true, or_cases, or_left, or_right}
pub use Rattle.std.proofs.lemmas.Grind.{common_steps}
pub use Rattle.std.proofs.lemmas.Int.Digits.{digits_value-lt}
pub use Rattle.std.proofs.lemmas.List.{append-nil, append_assoc, drop-drop, drop_all, drop_at, length-append, length-drop, length-replicate, length-take, length-take-le, nil_from_length, take-append-drop, take-append-le, take-take, take_all, take_at}
pub use Rattle.std.proofs.lemmas.List.Concat.{flat_map-append}
pub use Rattle.gts_alphabet.proofs.LawLemmas.{AllDigits-dec, dec-digits_value, digits_value-dec, length-dec, test_from_AllDigits, value_from_is_digit}
pub use Rattle.gts_frame.specs.Cited.{AllByRecursion, AllDigits, An, Bi, Breaks, Carries, Decoding, Drops, EOL, ETX, EndsWithEtx, FRAME_HEAD, Frame, FrameField, Fx, Head, IsCount, IsFramed, IsFront, IsHead, IsInMessage, IsPartial, IsPiece, IsStreamFront, KeepAlive, KeepsAlive, Kind, LONGEST_BODY, LONGEST_MESSAGE, Loss, Makes, Part, Piece, ReadsOn, Rest, SOH, Shows, Sign, Step, Taken, Takes, after_step, begins_kind, begins_length, begins_message, begins_with_soh, break_at, break_of, decoding, digit_value, digits_value, digits_value_after, ends_with, field_at, find, flat_map, frame, has_length, has_piece, held_from, held_in, is_ascii_digit, is_break, is_front, is_part, is_whole, keep_alive, length_in, letters, list_all, message_of, open_part, piece_text, pointwise, range_with_len, sign_at, signs_from, signs_in, signs_of, signs_of_step, starts_with}
unfoldable pub use Rattle.gts_frame.specs.Cited.{dec}
