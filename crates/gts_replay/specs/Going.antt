-- Entries that a run was to add, and those that it added.
use Rattle.std.specs.Prelude.{IsTrue, List, [], length, map, take, ℕ, ◌++◌, ◌∷◌, ◌≡◌}
use Rattle.gts_replay.specs.Cited.Below.{Connections, Decoding, Directory, DiskFault, EachOwedFew, EachRoutedOnce, Entry, IsOrdered, IsReopenFault, OpenFault, Restarted, Standing, Stands, State, SwitchFault, after_all, all_done, done_by, events_added, held_in, keeps_one, settled}
pub use Rattle.gts_calls.specs.Going.{BreaksTogether, BreaksIdle, BreaksOff, Goes}

-- A state from which a drain ends: each circuit keeps a draw, and what each state of a history keeps is there; no position
-- was routed twice to a circuit, and no circuit is owed more than it may be.
pub record IsStart (d : Directory) (s : State) : Type 0 where
  pub keeps : IsTrue (keeps_one d)
  pub ordered : IsOrdered d s
  pub once : EachRoutedOnce s
  pub few : EachOwedFew s

-- The switch stands for these entries since this origin. The last of them may be gathered, but none of the first so many.
pub record StandsFor {O W : Type 0} (meanings : Standing O W) (o : O) (first : ℕ) (h : List Entry) (now : W) : Type 0 where
  pub start : IsStart (meanings.directory now) (meanings.begin o)
  pub stands : Stands meanings o first h now

-- the state behind these entries since an origin
abbrev pub state_at : {O W : Type 0} → Standing O W → W → O → List Entry → State
state_at meanings now o h = after_all (meanings.directory now) (meanings.begin o) h

-- the origin once the journal was compacted behind so many of these entries each
abbrev pub compacted_at : {O W : Type 0} → Standing O W → O → List Entry → List ℕ → O
compacted_at meanings o entries [] = o
compacted_at meanings o entries (k ∷ ks) = compacted_at meanings (meanings.compacts o (take k entries)) entries ks

-- the origin behind these entries: of these compactions those were done that come behind no more
abbrev pub origin_behind : {O W : Type 0} → Standing O W → O → List ℕ → List Entry → O
origin_behind meanings o ks entries = compacted_at meanings o entries (done_by (length entries) ks)

-- Of the entries that were to be added, those before one were: the journal was not opened again there. Over a station that
-- tells, only the disk and want of memory prevent that.
pub record BreaksAtRestart {O W : Type 0} (meanings : Standing O W) (station : Type 0)
    (at : List Entry → O) (h more : List Entry) (fault : OpenFault) (now : W) : Type 0 where
  pub front : List Entry
  pub behind : List Entry
  pub parts : more ≡ front ++ Restarted ∷ behind
  pub stands : settled meanings (at (h ++ front)) (h ++ front) now
  pub fault_is : station → IsReopenFault fault

-- What stays of a switch whose journal was to be compacted: it was left by the disk, or nothing changed.
abbrev pub Remains : {O W : Type 0} → Standing O W → O → List Entry → SwitchFault → W → Type 0
Remains meanings o h DiskFault now = meanings.left o h now
Remains meanings o h _ now = settled meanings o h now

-- the decoders of connections that have these bytes
abbrev pub Decode : List Decoding → Connections → Type 0
Decode decoders connections = map (λ d. d.held) decoders ≡ map held_in connections

-- These bytes came on a circuit, and were dealt with: the decoder took them, and what they add was added.
pub record IsFed {O W : Type 0} (meanings : Standing O W) (c : ℕ) (old : Decoding) (begun : W)
    (bytes : List ℕ) (decoder : Decoding) (now : W) : Type 0 where
  pub held : (before : List ℕ) → old.held ≡ held_in before → decoder.held ≡ held_in (before ++ bytes)
  pub adds : (before : List ℕ) (o : O) (first : ℕ) (h : List Entry) → old.held ≡ held_in before → Stands meanings o first h begun
      → Stands meanings o first (h ++ all_done (events_added c before bytes)) now

-- these bytes came on a circuit, and the switch answered with a fault while they were dealt with
abbrev pub BreaksFeed : {O W : Type 0} → Standing O W → ℕ → Decoding → W → List ℕ → SwitchFault → W → Type 0
BreaksFeed meanings c old begun bytes fault now =
    (before : List ℕ) (o : _) (first : ℕ) (h : List Entry) → old.held ≡ held_in before → Stands meanings o first h begun
    → BreaksOff meanings (λ _. o) first h (all_done (events_added c before bytes)) fault now
