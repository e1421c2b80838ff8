-- What proofs of this crate cite of its definitions, of the standard library and of crates below, in one place.
pub use Rattle.std.proofs.Common.{Bool, Err, IsTrue, List, None, Ok, Option, Result, Some, [], ap, append_assoc, arith, drop, false, if◌then◌else◌, inl, inr, is_ok, length, length-drop, map, nat_eq, nat_le, refl, subst, suc, sym, take, take_while, true, zero, ℕ, ◌&&◌, ◌*◌, ◌++◌, ◌+◌, ◌<◌, ◌==◌, ◌^◌, ◌||◌, ◌↔◌, ◌∙◌, ◌∷◌, ◌≡◌, ◌≤◌, ◌⊎◌}
pub use Rattle.std.proofs.lemmas.Bool.{and_parts, eq-eqb, eqb-true, false≢true, le-leb, leb-true}
pub use Rattle.std.proofs.lemmas.Grind.{common_steps}
pub use Rattle.std.proofs.lemmas.Int.Digits.{digits_value-lt}
pub use Rattle.std.proofs.lemmas.List.{append-nil, drop_at, length-append, length-take, length-take-le, take-append-drop, take_at}
pub use Rattle.std.proofs.lemmas.List.Sums.{sum_by-cons, take_while-cons}
pub use Rattle.std.proofs.lemmas.Result.{err_from_is_err_and}
pub use Rattle.gts_alphabet.proofs.LawLemmas.{AllDigits-dec, AllDigits-from_test, dec-digits_value, digits_value-dec, length-dec, test_from_AllDigits}
pub use Rattle.gts_heading.proofs.LawLemmas.{bare_again, bare_is_spelled, word_takes}
pub use Rattle.gts_request.specs.Cited.{Aa, Ahd, AllByRecursion, AskedHeading, AskedLine, Asker, Cccc, Day, EndsBefore, Entry, HeadingFields, Hour, Ii, IsAsker, IsCount, IsEntry, IsItem, IsLine, IsRequestFor, Item, Lacks, LacksEnd, LacksEntry, LacksLine, Latest, Line, LineEnd, LineStart, MessageField, Minute, Number, Numbers, One, Place, Range, Reads, RequestField, Sqn, StopsAt, StopsAtLine, StopsInLine, Tt, after_word, are_capitals, asked, asked_in, behind_asker, behind_item, behind_line, bytes_from, capitals_at, count_at, dec, digits_value, entry_text, heading_item, is_ascii_digit, item_at, item_of, items_at, line_items, line_start, line_start_at, line_text, lines_items, lines_text, list_all, next_of, number_at, numbers_at, place_of, places_in, prefix_len, range_in, result_ok, run_at, slashed, starts_with, step_at, step_of, two_digits_at}
unfoldable pub use Rattle.gts_request.specs.Cited.{bare_group_at, bare_heading_at, items_from, items_left, plain_heading_at, request_at}
pub use Rattle.gts_request.specs.Request.{◌>>=◌}
