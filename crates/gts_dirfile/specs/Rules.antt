-- The rows of a directory's rules, each of which names circuits that are there.
use Rattle.std.specs.Prelude.{◌≡◌, ◌^◌, ◌<◌, List, length, map}
use Rattle.gts_dirfile.specs.Cited.Below.{All, Directory, RuleRow, rule_of_row}

-- These rows are the rules of a directory, and a mask has no bit of a circuit that isn't there.
pub record AreRulesOf (rows : List RuleRow) (d : Directory) : Type 0 where
  pub same : map (rule_of_row (length d.circuits)) rows ≡ d.rules
  pub within : All (λ row. row.to < 2 ^ length d.circuits) rows
