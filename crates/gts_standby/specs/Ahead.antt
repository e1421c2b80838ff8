-- The bytes of a feed that were read ahead, as contracts see them.
use Rattle.std.specs.Prelude.{ℕ, Bool, List}

-- the bytes that were read and not taken yet, and whether the source has no more
pub record InFeed : Type 0 where
  pub bytes : List ℕ
  pub is_all : Bool
