-- Captures: what came on the circuits and when something was taken, as a text of steps (profile).
use Rattle.std.specs.Prelude.{◌≡◌, ℕ, ◌+◌, ◌<◌, ◌≤◌, ◌==◌, if◌then◌else◌, List, [], ◌∷◌, ◌++◌, length, map, take, codes, flat_map}
use Rattle.gts_connection.specs.Cited.Below.{AllByRecursion, Directory, Done, Entry, Restarted, State, Taken, after_all, all_done, dec, slice_index_or, slice_set, takes_of_drain}
use Rattle.gts_connection.specs.declared.kind.CaptureKind.{CaptureKind}
use Rattle.gts_connection.specs.declared.kind.CaptureKind.TheVariants.{Journaled}
use Rattle.gts_connection.specs.declared.limits.TheConstants.{LONGEST_CAPTURE}
use Rattle.gts_connection.specs.Connection.{events_added}

-- A step: bytes come on a circuit; one take on a circuit; a circuit begins a new connection; takes on a circuit until one
-- gives nothing; the journal is opened again; the journal is compacted.
pub data Step : Type 0 where
  Feed : (circuit : ℕ) → (bytes : List ℕ) → Step
  Take : (circuit : ℕ) → Step
  Reopen : (circuit : ℕ) → Step
  Drain : (circuit : ℕ) → Step
  Restart : Step
  Compact : Step

-- The head line of a step, or of the end. Bytes that come are announced by their number.
pub data Head : Type 0 where
  FeedHead : (circuit size : ℕ) → Head
  TakeHead : (circuit : ℕ) → Head
  ReopenHead : (circuit : ℕ) → Head
  DrainHead : (circuit : ℕ) → Head
  RestartHead : Head
  CompactHead : Head
  EndHead : Head

-- the line of a head, ended by LF (10)
abbrev pub head_text : Head → List ℕ
head_text (FeedHead circuit size) = codes "F " ++ dec 2 circuit ++ codes " " ++ dec 6 size ++ codes "\n"
head_text (TakeHead circuit) = codes "T " ++ dec 2 circuit ++ codes "\n"
head_text (ReopenHead circuit) = codes "O " ++ dec 2 circuit ++ codes "\n"
head_text (DrainHead circuit) = codes "D " ++ dec 2 circuit ++ codes "\n"
head_text RestartHead = codes "R\n"
head_text CompactHead = codes "C\n"
head_text EndHead = codes "E\n"

-- In a capture of so many circuits a head names one of them, and at most 999,999 bytes; one of traffic has no `R` and no `C`.
abbrev pub IsHeadIn : (circuits : ℕ) → CaptureKind → Head → Type 0
IsHeadIn circuits kind (FeedHead circuit size) = (circuit < circuits) × (size ≤ 999999)
IsHeadIn circuits kind (TakeHead circuit) = circuit < circuits
IsHeadIn circuits kind (ReopenHead circuit) = circuit < circuits
IsHeadIn circuits kind (DrainHead circuit) = circuit < circuits
IsHeadIn circuits kind RestartHead = kind ≡ Journaled
IsHeadIn circuits kind CompactHead = kind ≡ Journaled
IsHeadIn circuits kind EndHead = Unit {0}

-- under a directory, in a capture of this kind; and in one of a switch that keeps a journal
abbrev pub IsHeadOf : CaptureKind → Directory → Head → Type 0
IsHeadOf kind d head = IsHeadIn (length d.circuits) kind head

abbrev pub IsHead : Directory → Head → Type 0
IsHead d head = IsHeadOf Journaled d head

-- the head of a step
abbrev pub head_of : Step → Head
head_of (Feed circuit bytes) = FeedHead circuit (length bytes)
head_of (Take circuit) = TakeHead circuit
head_of (Reopen circuit) = ReopenHead circuit
head_of (Drain circuit) = DrainHead circuit
head_of Restart = RestartHead
head_of Compact = CompactHead

-- the bytes that stand behind the head of a step
abbrev pub bytes_of_step : Step → List ℕ
bytes_of_step (Feed circuit bytes) = bytes
bytes_of_step _ = []

-- a step as text: its head, and its bytes behind it
abbrev pub step_text : Step → List ℕ
step_text step = head_text (head_of step) ++ bytes_of_step step

-- steps of a capture: each has a head that may stand there
abbrev pub AreStepsOf : CaptureKind → Directory → List Step → Type 0
AreStepsOf kind d steps = AllByRecursion (λ step. IsHeadOf kind d (head_of step)) steps

abbrev pub AreSteps : Directory → List Step → Type 0
AreSteps d steps = AreStepsOf Journaled d steps

-- some head begins with these bytes, and goes on behind them
abbrev pub IsPartIn : (circuits : ℕ) → CaptureKind → List ℕ → Type 0
IsPartIn circuits kind bytes =
    (head : Head) × (next : ℕ) × (more : List ℕ) × IsHeadIn circuits kind head × (head_text head ≡ bytes ++ next ∷ more)

-- some head begins with these bytes
abbrev pub IsFrontIn : (circuits : ℕ) → CaptureKind → List ℕ → Type 0
IsFrontIn circuits kind bytes = (head : Head) × (more : List ℕ) × IsHeadIn circuits kind head × (head_text head ≡ bytes ++ more)

abbrev pub IsPartialHead : CaptureKind → Directory → List ℕ → Type 0
IsPartialHead kind d bytes = IsPartIn (length d.circuits) kind bytes

abbrev pub IsHeadFront : CaptureKind → Directory → List ℕ → Type 0
IsHeadFront kind d bytes = IsFrontIn (length d.circuits) kind bytes

-- What bytes are read as, however many there are, and up to which place: steps through the end, behind which nothing is read;
-- steps before the first byte that no capture has in its place, or before the end of bytes that end too early, in a head or in a
-- feed.
pub data ReadingIn (kind : CaptureKind) (d : Directory) (bytes : List ℕ) (steps : List Step) (at : ℕ) : Type 0 where
  Whole : (unread : List ℕ) → AreStepsOf kind d steps → bytes ≡ flat_map step_text steps ++ head_text EndHead ++ unread
      → at + length unread ≡ length bytes → ReadingIn kind d bytes steps at
  Bad : (front : List ℕ) (byte : ℕ) (unread : List ℕ) → AreStepsOf kind d steps → IsPartialHead kind d front
      → (IsHeadFront kind d (front ++ byte ∷ []) → ⊥)
      → bytes ≡ flat_map step_text steps ++ front ++ byte ∷ unread → at + 1 + length unread ≡ length bytes → ReadingIn kind d bytes steps at
  EndsInHead : (front : List ℕ) → AreStepsOf kind d steps → IsPartialHead kind d front → bytes ≡ flat_map step_text steps ++ front
      → at ≡ length bytes → ReadingIn kind d bytes steps at
  EndsInFeed : (before : List Step) (circuit size : ℕ) (piece : List ℕ) → AreStepsOf kind d before → IsHeadOf kind d (FeedHead circuit size)
      → length piece < size
      → steps ≡ before ++ Feed circuit piece ∷ [] → bytes ≡ flat_map step_text before ++ head_text (FeedHead circuit size) ++ piece
      → at ≡ length bytes → ReadingIn kind d bytes steps at

-- The bytes that are read of a capture: the longest has so many.
unfoldable pub readable : List ℕ → List ℕ
readable bytes = take LONGEST_CAPTURE bytes

-- What a capture is read as, and up to which place. One that goes on behind the longest is bad at the first byte behind that: as a
-- capture that ends there too early.
abbrev pub ReadingOf : CaptureKind → Directory → List ℕ → List Step → ℕ → Type 0
ReadingOf kind d bytes steps at = ReadingIn kind d (readable bytes) steps at

-- the capture of these steps stands at the front of the bytes, and is no longer than the longest
pub record IsWholeOf (kind : CaptureKind) (d : Directory) (bytes : List ℕ) (steps : List Step) : Type 0 where
  pub are : AreStepsOf kind d steps
  pub within : length (flat_map step_text steps ++ head_text EndHead) ≤ LONGEST_CAPTURE
  pub unread : List ℕ
  pub text : bytes ≡ flat_map step_text steps ++ head_text EndHead ++ unread

-- a reading that doesn't come to the end
abbrev pub IsEarly : {kind : CaptureKind} {d : Directory} {bytes : List ℕ} {steps : List Step} {at : ℕ}
    → ReadingIn kind d bytes steps at → Type 0
IsEarly (Whole unread are text place) = ⊥
IsEarly _ = Unit {0}

-- the bytes are bad at this place, or end there too early
abbrev pub EndsEarlyOf : CaptureKind → Directory → List ℕ → List Step → ℕ → Type 0
EndsEarlyOf kind d bytes steps at = (read : ReadingOf kind d bytes steps at) × IsEarly read

-- the same of the captures of a switch that keeps a journal
abbrev pub Reading : Directory → List ℕ → List Step → ℕ → Type 0
Reading d bytes steps at = ReadingOf Journaled d bytes steps at

abbrev pub IsWhole : Directory → List ℕ → List Step → Type 0
IsWhole d bytes steps = IsWholeOf Journaled d bytes steps

abbrev pub EndsEarly : Directory → List ℕ → List Step → ℕ → Type 0
EndsEarly d bytes steps at = EndsEarlyOf Journaled d bytes steps at

-- the bytes that each circuit's connection had so far
abbrev pub Connections : Type 0
Connections = List (List ℕ)

-- no connection had any bytes yet
abbrev pub no_bytes : Directory → Connections
no_bytes d = map (λ _. []) d.circuits

-- the connections with more bytes on one circuit
abbrev pub with_bytes : Connections → ℕ → List ℕ → Connections
with_bytes bs circuit bytes = slice_set bs circuit (slice_index_or bs circuit [] ++ bytes)

-- the entries of one step
abbrev pub entries_of_step : State → Connections → Step → List Entry
entries_of_step s bs (Feed circuit bytes) = all_done (events_added circuit (slice_index_or bs circuit []) bytes)
entries_of_step s bs (Take circuit) = Done (Taken circuit) ∷ []
entries_of_step s bs (Drain circuit) = all_done (takes_of_drain s circuit)
entries_of_step s bs (Reopen circuit) = []
entries_of_step s bs Restart = Restarted ∷ []
entries_of_step s bs Compact = []

-- the connections after a step
abbrev pub after_step : Directory → Connections → Step → Connections
after_step d bs (Feed circuit bytes) = with_bytes bs circuit bytes
after_step d bs (Reopen circuit) = slice_set bs circuit []
after_step d bs Restart = no_bytes d
after_step d bs _ = bs

-- the connections after steps
abbrev pub connections_after : Directory → Connections → List Step → Connections
connections_after d bs [] = bs
connections_after d bs (step ∷ steps) = connections_after d (after_step d bs step) steps

-- the entries of steps
abbrev pub entries_from : Directory → State → Connections → List Step → List Entry
entries_from d s bs [] = []
entries_from d s bs (step ∷ steps) =
    let added : List Entry = entries_of_step s bs step in added ++ entries_from d (after_all d s added) (after_step d bs step) steps

-- the entries of the steps of a whole capture
abbrev pub entries : Directory → State → List Step → List Entry
entries d s steps = entries_from d s (no_bytes d) steps

-- how many entries there were at a step that compacts the journal; of any other step nothing
abbrev pub count_at : ℕ → Step → List ℕ
count_at n Compact = n ∷ []
count_at n _ = []

-- how many entries there were at each compaction of steps, behind so many entries
abbrev pub compactions_from : Directory → State → Connections → ℕ → List Step → List ℕ
compactions_from d s bs n [] = []
compactions_from d s bs n (step ∷ steps) =
    let added : List Entry = entries_of_step s bs step in
    count_at n step ++ compactions_from d (after_all d s added) (after_step d bs step) (n + length added) steps

-- how many entries there were at each compaction of the steps of a whole capture, which stands behind so many entries
abbrev pub compactions : Directory → State → ℕ → List Step → List ℕ
compactions d s n steps = compactions_from d s (no_bytes d) n steps

-- how many entries there were at each compaction of further steps, from what the steps before them leave
abbrev pub compactions_behind : Directory → State → ℕ → List Step → List Step → List ℕ
compactions_behind d s n steps more =
    let first : List Entry = entries d s steps in
    compactions_from d (after_all d s first) (connections_after d (no_bytes d) steps) (n + length first) more

-- a feed and a feed of the same circuit behind it are one
abbrev pub join : Step → List Step → List Step
join (Feed c x) (Feed e y ∷ steps) = if c == e then Feed c (x ++ y) ∷ steps else Feed c x ∷ Feed e y ∷ steps
join step steps = step ∷ steps

-- steps in which no feed is cut
abbrev pub joined : List Step → List Step
joined [] = []
joined (step ∷ steps) = join step (joined steps)
