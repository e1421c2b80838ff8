-- What is said where what waits on closed circuits is dropped: a line for the operator for each (profile).
use Rattle.std.specs.Prelude.{◌≡◌, ◌⊎◌, ℕ, ◌+◌, Bool, is_ok, ◌==◌, List, [], ◌∷◌, ◌++◌, get_or, Some, None, Result, IsOk, if◌then◌else◌, IsTrue, codes}
use Rattle.gts_migrate.specs.Cited.Below.{Bulletin, Call, Circuit, CircuitNeed, Directory, HeadingFields, Need, Outside, Says, Tries, ascends, body_at, find, flat_map, has, heading_of, heading_text, is_sound, is_there, list_all, no_heading, on, positions_of, then_number, unused}
use Rattle.gts_migrate.specs.declared.waiting.Waiting.{Waiting}
use Rattle.gts_migrate.specs.declared.waiting.Waiting.TheVariants.{Refused, Dropped}

-- DRP circuit position heading, ended by LF (10) like every line
abbrev pub dropped_text : ℕ → ℕ → HeadingFields → List ℕ
dropped_text circuit position heading =
    codes "DRP" ++ then_number circuit ++ then_number position ++ 32 ∷ heading_text heading ++ 10 ∷ []

-- the heading of the bulletin at a position
abbrev pub heading_among : List Bulletin → ℕ → HeadingFields
heading_among bulletins position =
    elim (find (λ b. b.position == position) bulletins) [ None ↦ no_heading | Some b ↦ heading_of b.body ]

-- a receipt for each position that waits on a circuit, in the order in which they wait
abbrev pub receipts_on : ℕ → List Bulletin → List ℕ → List ℕ
receipts_on circuit bulletins waiting = flat_map (λ p. dropped_text circuit p (heading_among bulletins p)) waiting

-- those of a circuit under its row: none where it is open
abbrev pub receipts_under : ℕ → List Bulletin → Circuit → CircuitNeed → List ℕ
receipts_under circuit bulletins row q = if row.closed then receipts_on circuit bulletins q.waiting else []

-- those of each circuit, where circuits count from c
abbrev pub receipts_from : ℕ → List Bulletin → List Circuit → List CircuitNeed → List ℕ
receipts_from c bulletins [] cs = []
receipts_from c bulletins (row ∷ rows) [] = []
receipts_from c bulletins (row ∷ rows) (q ∷ cs) = receipts_under c bulletins row q ++ receipts_from (c + 1) bulletins rows cs

-- the receipts of all that waits on circuits which are closed in a directory: circuit by circuit
abbrev pub drop_receipts : Directory → Need → List ℕ
drop_receipts new n = receipts_from 0 n.bulletins new.circuits n.circuits

-- what is said of what waits there, on the channel of receipts
abbrev pub sayings : Waiting → Directory → Need → Outside
sayings Refused new n = []
sayings Dropped new n = on 0 (drop_receipts new n)

-- ---- the pieces in which they are written

-- a need that is sound under some directory
abbrev pub IsStart : Need → Type 0
IsStart n = (d : Directory) × IsTrue (is_sound d n)

-- each bulletin has a body
abbrev pub have_bodies : List Bulletin → Bool
have_bodies bulletins = list_all (λ b. is_ok (body_at b.body)) bulletins

-- These bulletins stand in their order, each with a body; and what waits ascends, and each has its bulletin.
pub record CanDrop (bulletins : List Bulletin) (waiting : List ℕ) : Type 0 where
  pub order : IsTrue (ascends (positions_of bulletins))
  pub bodies : IsTrue (have_bodies bulletins)
  pub up : IsTrue (ascends waiting)
  pub known : IsTrue (list_all (is_there bulletins) waiting)

-- the receipt of a bulletin where it is among those that wait
abbrev pub receipt_among : ℕ → List ℕ → Bulletin → List ℕ
receipt_among circuit waiting b = if has waiting b.position then dropped_text circuit b.position (heading_of b.body) else []

-- what waits on a circuit of a need, by its number
abbrev pub waiting_at : Need → ℕ → List ℕ
waiting_at n c = (get_or n.circuits c unused).waiting

-- These bytes were to be said on the channel of receipts, and that was tried; or there were none, and nothing was done.
abbrev pub SaysAll : {T E : Type 0} → List ℕ → Result T E → (before after : List Call) → Type 0
SaysAll bytes result before after = ((bytes ≡ []) × (after ≡ before) × IsOk result) ⊎ Tries (Says 0 bytes) result before after
