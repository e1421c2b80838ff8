-- What a pass and a turn know, and what each call makes of it.
use Rattle.std.specs.Prelude.{◌≡◌, ◌<◌, ◌≤◌, ℕ, List, [], ◌∷◌, ◌++◌, Bool, false, Option, Some, ◌⊎◌, ◌+◌, ◌||◌}
use mathlib.Core.Option.{some}
use lib.ListN.{get_elem?}
use Rattle.atomic_table.specs.Seated.{TableId}
use Rattle.gts_lock.specs.History.{entries_under, longer}

-- What a pass knows. Its hall is None once that is closed. `own` are the entries of its own turns.
-- The first pass, whose name is 0, has the number of passes that were split off it, and those that were joined into it.
pub record Known (E : Type 0) : Type 0 where
  pub hall : Option TableId
  pub name : ℕ
  pub seen : List (ℕ × E)
  pub own : List E
  pub full : Bool
  pub parted : ℕ
  pub joined : List (ℕ × List E)

-- What a turn knows: its pass, which has seen the whole history, and the value.
pub record Held (T E : Type 0) : Type 0 where
  pub pass : Known E
  pub value : T

-- the turn with another value
abbrev pub with_value : {T E : Type 0} → Held T E → T → Held T E
with_value turn x = record turn { value = x }

module _ {E : Type 0} where
  -- the first pass of a new hall
  abbrev pub first_pass : TableId → Known E
  first_pass hall = record { hall = Some hall; name = 0; seen = []; own = []; full = false; parted = 0; joined = [] }

  -- the pass once it has seen this history
  abbrev pub after_seeing : Known E → List (ℕ × E) → Known E
  after_seeing p history = record p { seen = history }

  -- the pass once a turn of it added this entry, under its name
  abbrev pub after_adding : Known E → E → Known E
  after_adding p entry = record p { seen = p.seen ++ (p.name, entry) ∷ []; own = p.own ++ entry ∷ [] }

  -- the first pass once another was split off it
  abbrev pub after_split : Known E → Known E
  after_split p = record p { parted = p.parted + 1 }

  -- that other pass, which has the next name, has seen as much, and has no entry
  abbrev pub split_off : Known E → Known E
  split_off p = record { hall = p.hall; name = p.parted + 1; seen = p.seen; own = []; full = false; parted = 0; joined = [] }

  -- the first pass once another was joined into it
  abbrev pub after_join : Known E → Known E → Known E
  after_join p q = record p { seen = longer p.seen q.seen; full = p.full || q.full; joined = p.joined ++ (q.name, q.own) ∷ [] }

  -- a pass of this name was joined
  abbrev pub IsAmong : List (ℕ × List E) → ℕ → Type 0
  IsAmong joined name = (k : ℕ) × (own : List E) × (get_elem? joined k ≡ some (name, own))

  -- each pass that was split off this one was joined into it
  abbrev pub AllJoined : Known E → Type 0
  AllJoined p = (name : ℕ) → 0 < name → name ≤ p.parted → IsAmong p.joined name

  -- what the pass knows of entries is so: the history has its own under its name, and those of each joined pass under that one's
  abbrev pub Accounts : Known E → List (ℕ × E) → Type 0
  Accounts p history =
      (p.own ≡ entries_under p.name history)
      × ((k : ℕ) (x : ℕ × List E) → get_elem? p.joined k ≡ some x → x.1 ≡ entries_under x.0 history)

  -- each name in the history is 0 or that of a joined pass
  abbrev pub NamesAreJoined : Known E → List (ℕ × E) → Type 0
  NamesAreJoined p history = (k : ℕ) (x : ℕ × E) → get_elem? history k ≡ some x → (x.0 ≡ 0) ⊎ IsAmong p.joined x.0
