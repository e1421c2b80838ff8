-- What proofs of this crate cite of its definitions, of the standard library and of crates below, in one place.
pub use Rattle.std.proofs.Common.{Bool, Err, IfOk, IsOkAnd, IsTrue, List, None, Ok, Option, Result, Some, [], ap, append_assoc, arith, cond, drop, eqb, false, inl, inr, leb, length, nat_eq, nat_le, refl, rules, subst, suc, sym, take, true, ℕ, ◌&&◌, ◌++◌, ◌-◌, ◌<◌, ◌∙◌, ◌∷◌, ◌≡◌, ◌≤◌, ◌⊎◌}
pub use Rattle.std.proofs.lemmas.Bool.{and_parts, le-leb, leb-true, ne_eqb, true≢false}
pub use Rattle.std.proofs.lemmas.Bool.Decides.{Decides-eqb, same_from_decides}
pub use Rattle.std.proofs.lemmas.Grind.{common_steps}
pub use Rattle.std.proofs.lemmas.List.{append-nil, append_cancel_right, drop_at, length-append, length-drop, length-take-le, take-append-drop, take_at}
pub use Rattle.std.proofs.lemmas.Slice.Eq.{starts_is}
pub use Rattle.gts_alphabet.proofs.LawLemmas.{AllDigits-dec, AllDigits-from_test, dec-digits_value, digits_value-dec, length-dec, test_from_AllDigits}
pub use Rattle.gts_heading.specs.Cited.{Aa, Cccc, Day, Decides, EOL, Heading, HeadingEnd, HeadingFields, Hour, Ii, IsGap, IsHeading, IsHeadingLine, MessageField, Minute, NoBlank, Reads, Tt, after_gap, after_word, are_capitals, bytes_decides, capitals_at, dec, digits_value, fields_of, group_at, group_text, is_ascii_digit, is_bbb, is_group, is_same_heading, letters_at, list_all, option_eq, pointwise, starts_with, two_digits_at, with_group}
unfoldable pub use Rattle.gts_heading.specs.Cited.{bare_group_at, bare_heading_at, heading_at, heading_text, message_group_at, plain_heading_at}
pub use Rattle.gts_heading.specs.Reading.{◌>>=◌}
