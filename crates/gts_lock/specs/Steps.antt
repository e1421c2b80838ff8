-- What each kind of step tells the pass that makes it: of the words, of its seat before, of the word found, and of its seat after.
-- Word 0 is the ticket that is served, word 1 the next ticket to be drawn, and slot 0 has the value.
use Rattle.std.specs.Prelude.{◌≡◌, ◌≢◌, ◌<◌, ◌≤◌, ℕ, List, [], ◌∷◌, length, Option, Some}
use mathlib.Core.Option.{some}
use lib.ListN.{get_elem?}
use Rattle.atomic_table.specs.Table.{Me, Step, rest}
use Rattle.gts_lock.specs.declared.limits.TheConstants.{MOST_TURNS}
use Rattle.gts_lock.specs.declared.view.View.{View}
use Rattle.gts_lock.specs.declared.view.Stage.TheVariants.{Waiting}
use Rattle.gts_lock.specs.History.{entries, entries_under, StartsWith}
use Rattle.gts_lock.specs.Views.{staged, marked, holding, ended}

module _ {T E : Type 0} where
  -- a ticket is drawn where it was the next one; a failed try tells the word, and marks the view where no ticket is left
  abbrev pub Draws : Step (Option T) → Me (Option T) (View E) → ℕ → Me (Option T) (View E) → Type 0
  Draws st m found n =
      (found ≤ MOST_TURNS) × (n.1 ≡ m.1)
      × (found ≡ st.first → n.0 ≡ staged (Waiting found) m.0)
      × (found ≢ st.first → found ≡ MOST_TURNS → n.0 ≡ marked m.0)
      × (found ≢ st.first → found ≢ MOST_TURNS → n.0 ≡ m.0)

  -- the history is served as far as this turn, there is room for an entry, and the entries known are those that it has
  pub record TurnComes (m : Me (Option T) (View E)) (history : List (ℕ × E)) : Type 0 where
    pub later : StartsWith history m.0.seen
    pub own : m.0.own ≡ entries_under m.0.name history
    pub room : length history < MOST_TURNS
    pub joined : (k : ℕ) (y : ℕ × List E) → get_elem? m.0.joined k ≡ some y → y.1 ≡ entries_under y.0 history

  module _ (stands : T → List E → Type 0) where
    -- the turn is taken: the seat has the value, which stands for the whole history, and the view has seen it
    pub record Takes (t : ℕ) (m n : Me (Option T) (View E)) : Type 0 where
      pub history : List (ℕ × E)
      pub value : T
      pub now : n ≡ (holding t history m.0, (0, Some value) ∷ m.1)
      pub comes : TurnComes m history
      pub told : stands value (entries history)

    -- the ticket that is served is looked at: the turn is taken where it is the view's, else nothing changes
    abbrev pub Looks : Step (Option T) → Me (Option T) (View E) → ℕ → Me (Option T) (View E) → Type 0
    Looks st m found n = (t : ℕ) → m.0.stage ≡ Waiting t → (found ≡ t → Takes t m n) × (found ≢ t → n ≡ m)

  -- the next ticket is served, and the turn added these entries
  abbrev pub Raises : List E → Step (Option T) → Me (Option T) (View E) → ℕ → Me (Option T) (View E) → Type 0
  Raises es st m found n = n ≡ (ended es m.0, rest m.1)

  -- the next ticket is served, and the turn added an entry of which this holds
  abbrev pub RaisesSome : (E → Type 0) → Step (Option T) → Me (Option T) (View E) → ℕ → Me (Option T) (View E) → Type 0
  RaisesSome fact st m found n = (entry : E) × fact entry × (n ≡ (ended (entry ∷ []) m.0, rest m.1))

  -- nothing changes; what the other of two joined views had seen is a beginning of what is seen now, if it isn't longer
  abbrev pub Compares : Step (Option T) → Me (Option T) (View E) → ℕ → Me (Option T) (View E) → Type 0
  Compares st m found n = (n ≡ m) × (length m.0.other_seen ≤ length m.0.seen → StartsWith m.0.seen m.0.other_seen)
