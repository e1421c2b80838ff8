-- What files of this crate and of those above cite of it, in one place, and what it cites of those below.
pub mod Below
pub use Rattle.gts_words.specs.Commands.{Answers, alone, check_from, checking, circuit_in, command_in, command_of, count_in, counted, front_in, gaps_of, is_count, is_moment, is_option, is_used, migrating, moment_in, number_in, or_words, routed, same, seal_in, serving, ship_behind, shipped, used_in}
pub use Rattle.gts_words.specs.Grammar.{grammar}
pub use Rattle.gts_words.specs.declared.command.Command.{Command}
pub use Rattle.gts_words.specs.declared.command.Command.TheVariants.{Check, CheckFrom, CheckHeading, Compact, Count, Follow, Gaps, Generate, Init, Migrate, MigrateCheck, MigrateDrop, Pack, Replay, Serve, ServeAlways, Ship, ShipSince, Show, Unpack}
pub use Rattle.gts_words.specs.declared.command.WordsFault.{WordsFault}
pub use Rattle.gts_words.specs.declared.count.TheConstants.{LONGEST_CONNECTIONS, LONGEST_COUNT, LONGEST_USED, MOST_CONNECTIONS, MOST_GENERATED}
pub use Below.*
