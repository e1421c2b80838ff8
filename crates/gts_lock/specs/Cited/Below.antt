-- What this crate says in words of what lies below it, in one place.
pub use Rattle.atomic_table.specs.Seated.{TableId}
pub use Rattle.atomic_table.specs.Table.{Act, Allows, Final, Joins, Me, Seen, Splits, State, Step, gives, keeps, opening, rest, step, stepped, takes}
pub use Rattle.std.specs.List.{filter}
