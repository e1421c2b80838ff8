-- A switch with running numbers beside it.
use Rattle.std.specs.Prelude.{◌≡◌, ℕ, List}
use Rattle.gts_count.specs.Cited.Below.{Directory, Entry, HasDoubt, HasUnsaid, Need, Standing, State, after_all, all_done, need, settled}
use Rattle.gts_count.specs.declared.parts.CountedParts.{CountedParts}
use Rattle.gts_count.specs.Table.{table}
use Rattle.gts_count.specs.Counting.{Counts, StandsAt}

-- the state for which a switch stands
abbrev pub state_at : {O W : Type 0} → Standing O W → W → O → List Entry → State
state_at meanings now o h = after_all (meanings.directory now) (meanings.begin o) h

-- What stands for what its parts do: for what the switch stands for; and the numbers are those of the need there, with the events
-- that it has gathered, counted from scratch, until a device failed.
abbrev pub meanings_by : {O T W : Type 0} → (W → CountedParts T) → Standing O T → Standing O W
meanings_by parts meanings = record {
  directory = λ w. meanings.directory (parts w).switch;
  begin = meanings.begin;
  gathers = λ o entries events w. meanings.gathers o entries events (parts w).switch
      × (let d : Directory = meanings.directory (parts w).switch in
      Counts d (after_all d (state_at meanings (parts w).switch o entries) (all_done events)) entries (parts w).counting);
  few = λ o entries events w gathered. meanings.few o entries events (parts w).switch gathered.0;
  is_full = meanings.is_full;
  compacts = meanings.compacts;
  left = λ o h w. meanings.left o h (parts w).switch;
  is_full_compacted = meanings.is_full_compacted;
}

-- of the parts themselves
abbrev pub counted_meanings : {O T : Type 0} → Standing O T → Standing O (CountedParts T)
counted_meanings meanings = meanings_by (λ parts. parts) meanings

-- parts stand for what a switch stands for, where that is a state with this need under this directory
abbrev pub StandsWhere : {O T : Type 0} → Standing O T → Directory → Need → T → CountedParts T → Type 0
StandsWhere {O} meanings d n switch parts =
    (o : O) (h : List Entry) → settled meanings o h switch → StandsAt d (state_at meanings switch o h) n
    → settled (counted_meanings meanings) o h parts

-- it is the table of the need where the switch stands, unless a device failed before
abbrev pub ShowsTable : {O T : Type 0} → Standing O T → CountedParts T → List ℕ → Type 0
ShowsTable {O} meanings parts text =
    (o : O) (h : List Entry) → settled (counted_meanings meanings) o h parts → (HasUnsaid h → ⊥) → (HasDoubt h → ⊥)
    → let d : Directory = meanings.directory parts.switch in text ≡ table d (need d (state_at meanings parts.switch o h))
