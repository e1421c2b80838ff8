-- What a generated capture keeps, as contracts see it.
use Rattle.std.specs.Prelude.{ℕ, zero, suc, ◌+◌, ◌-◌, ◌≤◌, List, [], ◌++◌, length, drop}
use Rattle.gts_generate.specs.declared.TheConstants.{MOST_MESSAGES}
use Rattle.gts_generate.specs.declared.generated.GeneratedParts.{GeneratedParts}
use Rattle.gts_generate.specs.Day.{capture_from}

-- so many pieces from that of message `next` on: one for each message, and one behind all
abbrev pub pieces_from : ℕ → ℕ → List ℕ
pieces_from next zero = []
pieces_from next (suc more) = capture_from next more

-- what is left behind a piece
abbrev pub pieces_left : ℕ → ℕ → List ℕ
pieces_left next count = pieces_from next (count + 1 - next)

abbrev pub bytes_left : GeneratedParts → List ℕ
bytes_left parts = drop parts.taken parts.piece ++ pieces_left parts.next parts.count

-- no more of a piece was taken than it has, and no piece is made behind the last one
pub record IsSound (parts : GeneratedParts) : Type 0 where
  pub taken : parts.taken ≤ length parts.piece
  pub next : parts.next ≤ parts.count + 1
  pub count : parts.count ≤ MOST_MESSAGES
