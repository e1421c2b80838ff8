-- What a standby station has of a feed, and what it lacks.
use Rattle.std.specs.Prelude.{◌≡◌, ℕ, List, [], ◌∷◌, ◌++◌, Some}
use Rattle.gts_standby.specs.Cited.Below.{Directory, Files, State, Version, first_seal, magic, seal, sealed, selected_bytes, written}
use Rattle.gts_standby.specs.Since.{found_since}
use Rattle.gts_standby.specs.Fronts.{IsFeedOf}

-- the last seal behind records of these bytes, the latest first, where this seal stands before them
abbrev pub seal_behind : Version → List ℕ → List (List ℕ) → List ℕ
seal_behind v before [] = before
seal_behind v before (text ∷ texts) = seal v (seal_behind v before texts) text

-- these records as a feed has them, in order, each with its seal
abbrev pub records_fed : Version → List ℕ → List (List ℕ) → List ℕ
records_fed v before [] = []
records_fed v before (text ∷ texts) = records_fed v before texts ++ sealed v (seal_behind v before texts) text

-- A record of these bytes stands in the feed of a directory with this mark, behind others, of which the last one has this seal.
pub record StandsFed (v : Version) (mark fed before text : List ℕ) : Type 0 where
  pub texts : List (List ℕ)
  pub before_is : before ≡ seal_behind v (first_seal v mark) texts
  pub more : List ℕ
  pub is : fed ≡ (magic v ++ mark) ++ records_fed v (first_seal v mark) (text ∷ texts) ++ more

-- A record of one feed and one of another that have the same seal have the same bytes, and the same seal before them.
abbrev pub AreOneBySeal : Version → List ℕ → List ℕ → List ℕ → Type 0
AreOneBySeal v mark one other =
    (before text then next : List ℕ) → StandsFed v mark one before text → StandsFed v mark other then next
    → seal v before text ≡ seal v then next → (before ≡ then) × (text ≡ next)

-- The journals in these files have these feeds; what is behind the end of the first one was found in the other, by its last seal;
-- and no two records of them that are not the same have one seal.
pub record IsFoundBehind (d : Directory) (own files : Files) (fed whole left : List ℕ) : Type 0 where
  pub from : State × ℕ × List ℕ
  pub read : State × ℕ × List ℕ
  pub has : IsFeedOf d own from fed
  pub all : IsFeedOf d files read whole
  pub found : found_since written d.mark (selected_bytes files) from.1 from.2 ≡ Some left
  pub one : AreOneBySeal written d.mark fed whole
