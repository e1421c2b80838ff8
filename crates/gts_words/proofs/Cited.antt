-- What proofs of this crate cite of its definitions, of the standard library and of crates below, in one place.
pub use Rattle.std.proofs.Common.{Bool, Err, List, None, Option, Result, Some, [], ap, ap₂, arith, codes, cond, drop, false, get_or, length, length-drop, map, nat_le, option_map, refl, rules, subst, sym, take, take-append-drop, true, ℕ, ◌%◌, ◌&&◌, ◌*◌, ◌++◌, ◌+◌, ◌-◌, ◌/◌, ◌<◌, ◌==◌, ◌∙◌, ◌∷◌, ◌≡◌, ◌≤◌}
pub use Rattle.std.proofs.lemmas.Bool.{and_parts, false_from_ne_true, le-leb, leb-true, true≢false}
pub use Rattle.std.proofs.lemmas.Grind.{common_steps}
pub use Rattle.std.proofs.lemmas.Int.Digits.{digits_value_push}
pub use Rattle.std.proofs.lemmas.List.{drop_more, take_all}
pub use Rattle.std.proofs.lemmas.List.Folds.{list_all-append}
pub use Rattle.std.proofs.lemmas.Slice.Eq.{text_from_reads}
unfoldable pub use Rattle.clap.proofs.OnLiterals.{clap_on_literals}
pub use Rattle.clap.proofs.WalkLemmas.{first_value-rows}
pub use Rattle.gts_words.specs.Cited.{Answers, Check, CheckFrom, CheckHeading, Command, Compact, Count, Follow, Gaps, Generate, Init, LONGEST_CONNECTIONS, LONGEST_COUNT, LONGEST_USED, MOST_CONNECTIONS, MOST_GENERATED, Migrate, MigrateCheck, MigrateDrop, Pack, Replay, Serve, ServeAlways, Ship, ShipSince, Show, Text, Unpack, WordsFault, alone, app_of, check_from, checking, circuit_in, command_in, command_of, count_in, counted, digit_value, digits_value, first_of, first_value, found_of, front_in, gaps_of, grammar, is_ascii_digit, is_count, is_moment, is_option, is_simple, is_used, list_all, matches_of, migrating, moment_in, number_in, or_words, routed, rows_of, same, seal_in, serving, ship_behind, shipped, slice_get, takes, used_in}
