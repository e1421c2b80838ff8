-- The view of a pass, as the rule sees it: how callers see it, and what each step makes of it.
use Rattle.std.specs.Prelude.{◌≡◌, ℕ, ◌<◌, ◌+◌, length, List, [], ◌∷◌, ◌++◌, map, true, false, ◌||◌, Some, None, Option}
use Rattle.atomic_table.specs.Seated.{TableId}
use Rattle.gts_lock.specs.declared.limits.TheConstants.{MOST_TURNS}
use Rattle.gts_lock.specs.declared.view.View.{View}
use Rattle.gts_lock.specs.declared.view.Stage.{Stage}
use Rattle.gts_lock.specs.declared.view.Stage.TheVariants.{Idle, Waiting, Holding, Spent}
use Rattle.gts_lock.specs.History.{entries_under, longer, shorter}
use Rattle.gts_lock.specs.Passes.{Known}

-- the hall of a pass, or none where it was closed
abbrev pub hall_of : Stage → TableId → Option TableId
hall_of Spent hall = None
hall_of Idle hall = Some hall
hall_of (Waiting t) hall = Some hall
hall_of (Holding t) hall = Some hall

-- the pass waits for no turn and has none
abbrev pub IsRestingAt : Stage → Type 0
IsRestingAt Idle = Unit {0}
IsRestingAt Spent = Unit {0}
IsRestingAt (Waiting t) = ⊥
IsRestingAt (Holding t) = ⊥

module _ {E : Type 0} where
  -- what callers see of a pass
  abbrev pub known : TableId → View E → Known E
  known hall v = record {
    hall = hall_of v.stage hall;
    name = v.name;
    seen = v.seen;
    own = v.own;
    full = v.full;
    parted = v.parted;
    joined = v.joined;
  }

  abbrev pub IsResting : View E → Type 0
  IsResting v = IsRestingAt v.stage

  -- the pass has a turn: there is room for its entry, and its own entries are those of the history
  abbrev pub IsHolding : View E → Type 0
  IsHolding v = (t : ℕ) × (v.stage ≡ Holding t) × (length v.seen < MOST_TURNS) × (v.own ≡ entries_under v.name v.seen)

  -- at another stage
  abbrev pub staged : Stage → View E → View E
  staged stage v = record v { stage = stage }

  -- no ticket is left
  abbrev pub marked : View E → View E
  marked v = record v { full = true }

  -- the turn is taken, where this is the history
  abbrev pub holding : ℕ → List (ℕ × E) → View E → View E
  holding t history v = record v { stage = Holding t; seen = history }

  -- the turn ends, and added these entries
  abbrev pub ended : List E → View E → View E
  ended es v = record v { stage = Idle; seen = v.seen ++ map (λ e. (v.name, e)) es; own = v.own ++ es }

  -- the first pass of a new hall
  abbrev pub newcomer : View E
  newcomer = record { name = 0; stage = Idle; seen = []; other_seen = []; own = []; full = false; parted = 0; joined = [] }

  -- the first pass once another is split off it
  abbrev pub parting : View E → View E
  parting v = record v { parted = v.parted + 1 }

  -- that other pass
  abbrev pub part : View E → View E
  part v = record { name = v.parted + 1; stage = Idle; seen = v.seen; other_seen = []; own = []; full = false; parted = 0; joined = [] }

  -- the first pass once another is joined into it
  abbrev pub joining : View E → View E → View E
  joining v w = record v {
    seen = longer v.seen w.seen;
    other_seen = shorter v.seen w.seen;
    full = v.full || w.full;
    joined = v.joined ++ (w.name, w.own) ∷ [];
  }

  -- what is left of that other pass
  abbrev pub spent : View E
  spent = staged Spent newcomer

  -- a copy that says the same, which the rule doesn't look at
  abbrev pub copy : View E → View E
  copy v = staged Spent v
