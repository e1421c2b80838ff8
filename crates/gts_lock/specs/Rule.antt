-- The rule of a hall, over the two words, the value at home and the views of all passes. Each step keeps it.
-- Word 0 is the ticket that is served, word 1 the next ticket to be drawn, and slot 0 has the value.
use Rattle.std.specs.Prelude.{◌≡◌, ◌≢◌, ◌<◌, ◌≤◌, ◌+◌, ℕ, List, [], ◌∷◌, length, true, Option, Some, ◌⊎◌}
use mathlib.Core.Option.{none, some}
use lib.ListN.{get_elem?}
use Rattle.atomic_table.specs.Table.{State}
use Rattle.gts_lock.specs.declared.limits.TheConstants.{MOST_TURNS}
use Rattle.gts_lock.specs.declared.view.View.{View}
use Rattle.gts_lock.specs.declared.view.Stage.{Stage}
use Rattle.gts_lock.specs.declared.view.Stage.TheVariants.{Idle, Waiting, Holding, Spent}
use Rattle.gts_lock.specs.History.{entries, entries_under, StartsWith, EndsWith}
use Rattle.gts_lock.specs.Passes.{IsAmong}

-- where a name is used: by the view of a seat, or as the k-th joined name
pub data Place : Type 0 where
  sits : ℕ → Place
  joined_as : ℕ → Place

-- a view that isn't spent
abbrev pub Live : Stage → Type 0
Live Idle = Unit {0}
Live (Waiting t) = Unit {0}
Live (Holding t) = Unit {0}
Live Spent = ⊥

-- 1 where the view has a ticket
abbrev pub tickets : Stage → ℕ
tickets Idle = 0
tickets (Waiting t) = 1
tickets (Holding t) = 1
tickets Spent = 0

-- What is the same for all views: the one history, the two words, how many passes were split off,
-- the joined names with their entries, where each name is used, and which seat drew each ticket
pub record Common (E : Type 0) : Type 0 where
  pub history : List (ℕ × E)
  pub serving : ℕ
  pub next : ℕ
  pub parted : ℕ
  pub joined : List (ℕ × List E)
  pub place : ℕ → Place
  pub drawer : ℕ → ℕ

module _ {E : Type 0} where
  -- how many views have a ticket
  abbrev pub tickets_of : List (View E) → ℕ
  tickets_of [] = 0
  tickets_of (v ∷ vs) = tickets v.stage + tickets_of vs

  -- some view that isn't spent has this name
  abbrev pub IsNamed : List (View E) → ℕ → Type 0
  IsNamed views name = (i : ℕ) × (v : View E) × (get_elem? views i ≡ some v) × Live v.stage × (v.name ≡ name)

  abbrev pub NoneHolds : List (View E) → Type 0
  NoneHolds views = (i : ℕ) (v : View E) (t : ℕ) → get_elem? views i ≡ some v → v.stage ≢ Holding t

  abbrev pub SomeHolds : List (View E) → Type 0
  SomeHolds views = (i : ℕ) × (v : View E) × (t : ℕ) × (get_elem? views i ≡ some v) × (v.stage ≡ Holding t)

  -- a ticket isn't served yet or is the one that is, it was drawn, and the seat drew it;
  -- who holds has the ticket that is served, and has seen the whole history
  abbrev pub FitsStage : Common E → ℕ → List (ℕ × E) → Stage → Type 0
  FitsStage c i seen Idle = Unit {0}
  FitsStage c i seen (Waiting t) = (c.serving ≤ t) × (t < c.next) × (c.drawer t ≡ i)
  FitsStage c i seen (Holding t) = (t ≡ c.serving) × (t < c.next) × (c.drawer t ≡ i) × (seen ≡ c.history)
  FitsStage c i seen Spent = Unit {0}

  -- What the rule says of the view of the seat i
  pub record Fits (c : Common E) (i : ℕ) (v : View E) : Type 0 where
    -- its name is used by no other view and is no joined one; it is 0, or was given by a split
    pub named : c.place v.name ≡ sits i
    pub within : v.name ≤ c.parted
    -- it has seen a beginning of the history
    pub seen : StartsWith c.history v.seen
    pub other_seen : StartsWith c.history v.other_seen
    -- its entries are those of the history under its name
    pub own : v.own ≡ entries_under v.name c.history
    -- where the last entry is its own, or that of a pass joined into it, it has seen the whole history
    pub latest : (x : ℕ × E) → EndsWith c.history x → (v.name ≡ x.0) ⊎ IsAmong v.joined x.0 → v.seen ≡ c.history
    -- the first pass alone is split, and alone is joined into
    pub first : v.name ≡ 0 → (v.parted ≡ c.parted) × (v.joined ≡ c.joined)
    pub other : v.name ≢ 0 → v.joined ≡ []
    pub turn : FitsStage c i v.seen v.stage
    -- it is marked only where no ticket is left
    pub full : v.full ≡ true → c.next ≡ MOST_TURNS

  -- What the rule says of the k-th joined name
  pub record FitsJoined (c : Common E) (k : ℕ) (x : ℕ × List E) : Type 0 where
    -- it is used by no view and is no other joined one; it was given by a split
    pub named : c.place x.0 ≡ joined_as k
    pub above : 0 < x.0
    pub within : x.0 ≤ c.parted
    -- its entries are those of the history under it
    pub own : x.1 ≡ entries_under x.0 c.history

module _ {T E : Type 0} (stands : T → List E → Type 0) where
  -- The rule
  pub record InTurn (s : State (Option T) (View E)) : Type 0 where
    pub common : Common E
    -- the ticket that is served is at most the next one, which is at most the last
    pub words : s.words ≡ common.serving ∷ common.next ∷ []
    pub low : common.serving ≤ common.next
    pub high : common.next ≤ MOST_TURNS
    -- the history has one entry for each ticket that was served
    pub served : length common.history ≡ common.serving
    -- each ticket that was drawn and not served is one view's
    pub counted : common.serving + tickets_of s.views ≡ common.next
    pub each : (i : ℕ) (v : View E) → get_elem? s.views i ≡ some v → Live v.stage → Fits common i v
    pub each_joined : (k : ℕ) (x : ℕ × List E) → get_elem? common.joined k ≡ some x → FitsJoined common k x
    -- each name in the history is that of a view, or a joined one
    pub named : (k : ℕ) (x : ℕ × E) → get_elem? common.history k ≡ some x → IsNamed s.views x.0 ⊎ IsAmong common.joined x.0
    pub first : IsNamed s.views 0
    -- where no view holds, the value is at home and stands for the history; else it is away
    pub at_home : NoneHolds s.views → (x : T) × (s.homes ≡ some (Some x) ∷ []) × stands x (entries common.history)
    pub away : SomeHolds s.views → s.homes ≡ none ∷ []
