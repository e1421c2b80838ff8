-- What the rule says of two views at once.
use Rattle.std.specs.Prelude.{◌≡◌, ◌≢◌, ◌⊎◌, ℕ, List}
use mathlib.Core.Option.{some}
use lib.ListN.{get_elem?}
use Rattle.gts_lock.specs.declared.view.View.{View}
use Rattle.gts_lock.specs.declared.view.Stage.{Stage}
use Rattle.gts_lock.specs.declared.view.Stage.TheVariants.{Waiting, Holding}
use Rattle.gts_lock.specs.Rule.{Live}

-- the view waits with this ticket, or holds with it
abbrev pub HasTicket : Stage → ℕ → Type 0
HasTicket stage t = (stage ≡ Waiting t) ⊎ (stage ≡ Holding t)

module _ {E : Type 0} (views : List (View E)) where
  -- no two views have one ticket
  abbrev pub TicketsDiffer : Type 0
  TicketsDiffer = (i j : ℕ) (v w : View E) (t : ℕ) → get_elem? views i ≡ some v → get_elem? views j ≡ some w →
      HasTicket v.stage t → HasTicket w.stage t → i ≡ j

  -- no two views hold
  abbrev pub OneHolds : Type 0
  OneHolds = (i j : ℕ) (v w : View E) (t u : ℕ) → get_elem? views i ≡ some v → get_elem? views j ≡ some w →
      v.stage ≡ Holding t → w.stage ≡ Holding u → i ≡ j

  -- no two views that aren't spent have one name
  abbrev pub NamesDiffer : Type 0
  NamesDiffer = (i j : ℕ) (v w : View E) → get_elem? views i ≡ some v → get_elem? views j ≡ some w →
      Live v.stage → Live w.stage → v.name ≡ w.name → i ≡ j

  -- the joined names differ from one another and from those of all views that aren't spent
  abbrev pub JoinedNamesDiffer : List (ℕ × List E) → Type 0
  JoinedNamesDiffer joined =
      ((j k : ℕ) (x y : ℕ × List E) → get_elem? joined j ≡ some x → get_elem? joined k ≡ some y → x.0 ≡ y.0 → j ≡ k)
      × ((i k : ℕ) (v : View E) (x : ℕ × List E) → get_elem? views i ≡ some v → Live v.stage →
      get_elem? joined k ≡ some x → v.name ≢ x.0)
