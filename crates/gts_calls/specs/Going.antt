-- Entries that were to be added to those for which a switch stands, and those that were.
use Rattle.std.specs.Prelude.{◌≡◌, ◌⊎◌, ℕ, ◌≤◌, List, [], ◌∷◌, ◌++◌, length, Result, Ok, Err}
use Rattle.gts_calls.specs.Calls.{AfterCall, IsAnswerCause, IsCause, IsInDoubt, Standing, Stands, outcome_at, settled}
use Rattle.gts_calls.specs.Cited.Below.{Decoding, DiskFault, Done, Doubt, Entry, Event, FrameField, Full, Idle, Kind, NoMemory, Outcome, SayFault, Spent, Step, Stopped, SwitchFault, all_done, all_unsaid, events_added}
use Rattle.gts_event.specs.declared.event.Event.TheVariants as event
use Rattle.gts_calls.specs.Fed.{EndsWith, IsWanting, AddsFed, EndsOver}
use Rattle.gts_calls.specs.Reading.{Reads}
use Rattle.gts_calls.specs.declared.switch.TheConstants.{MOST_TOGETHER}
use Rattle.gts_calls.specs.declared.fed.FeedEnd.{FeedEnd}
use Rattle.gts_calls.specs.declared.fed.FeedEnd.TheVariants.{All, Lost, Wanting, Fault}

-- ---- one message

-- What hearing a message leaves of a switch that stood for these entries and had gathered these events: what a call leaves; or these
-- events were settled, and the disk failed before the message was gathered behind them, which is in doubt alone.
abbrev pub AfterHearing : {O W : Type 0} → Standing O W → O → List Entry → List Event → Event → Result Outcome SwitchFault → W → Type 0
AfterHearing meanings o entries events event (Err DiskFault) new =
    IsInDoubt meanings o entries events new ⊎ settled meanings o ((entries ++ all_done events) ++ Doubt (event ∷ []) ∷ []) new
AfterHearing meanings o entries events event result new = AfterCall meanings o entries events event result new

-- A message was heard, with this answer: whatever entries the switch stood for, and whatever events it had gathered, it stands for
-- these and the event, which may be gathered; the answer is the event's outcome, and a fault has its cause.
pub record IsHeard {O W : Type 0} (meanings : Standing O W) (event : Event) (result : Result Outcome SwitchFault)
    (old new : W) : Type 0 where
  pub directory : meanings.directory new ≡ meanings.directory old
  pub adds : (o : O) (entries : List Entry) (events : List Event) → meanings.gathers o entries events old
      → AfterHearing meanings o entries events event result new
  pub outcome : (o : O) (entries : List Entry) (events : List Event) → meanings.gathers o entries events old
      → (answer : Outcome) → result ≡ Ok answer → answer ≡ outcome_at meanings old o (entries ++ all_done events) event
  pub caused : (o : O) (entries : List Entry) (events : List Event) → meanings.gathers o entries events old
      → (fault : SwitchFault) → result ≡ Err fault → let h : List Entry = entries ++ all_done events in
      IsAnswerCause (meanings.is_full o h event) h (outcome_at meanings old o h event) fault

-- ---- entries that were to be added

-- A device failed. Of the entries that there were, and that were to be added, the first stand, at least so many, and some events
-- behind them became these entries together: no more than a switch gathers. So the switch stands since the origin that it has
-- behind the first.
pub record BreaksTogether {O W : Type 0} (meanings : Standing O W) (at : List Entry → O) (first : ℕ) (h more : List Entry)
    (became : List Event → List Entry) (now : W) : Type 0 where
  pub front : List Entry
  pub event : Event
  pub events : List Event
  pub behind : List Entry
  pub parts : h ++ more ≡ front ++ all_done (event ∷ events) ++ behind
  pub within : first ≤ length front
  pub few : length (event ∷ events) ≤ MOST_TOGETHER
  pub stands : settled meanings (at front) (front ++ became (event ∷ events)) now

-- Of the entries that were to be added, those before one were, and that was left idle with this fault, which has its cause. So
-- the switch stands since the origin that it has behind them.
pub record BreaksIdle {O W : Type 0} (meanings : Standing O W) (at : List Entry → O) (h more : List Entry)
    (fault : SwitchFault) (now : W) : Type 0 where
  pub front : List Entry
  pub event : Event
  pub behind : List Entry
  pub parts : more ≡ front ++ Done event ∷ behind
  pub stands : settled meanings (at (h ++ front)) ((h ++ front) ++ Idle event fault ∷ []) now
  pub cause : IsCause (meanings.is_full (at (h ++ front)) (h ++ front) event) (h ++ front)
      (outcome_at meanings now (at (h ++ front)) (h ++ front) event) fault

-- Entries were to be added behind these, of which none of the first so many is gathered, and broke off at this fault: the disk
-- failed, and what was brought into the journal together is in doubt; or saying failed, at the first of what was to be said; or an
-- event changed nothing.
abbrev pub BreaksOff : {O W : Type 0} → Standing O W → (List Entry → O) → (first : ℕ) → (h more : List Entry) → SwitchFault → W → Type 0
BreaksOff meanings at first h more DiskFault now = BreaksTogether meanings at first h more (λ events. Doubt events ∷ []) now
BreaksOff meanings at first h more SayFault now = BreaksTogether meanings at first h more all_unsaid now
BreaksOff meanings at first h more fault now = BreaksIdle meanings at h more fault now

-- these entries were to be added: all were, or they broke off
abbrev pub Goes : {O W : Type 0} → Standing O W → O → (first : ℕ) → (h more : List Entry) → Result (Unit {0}) SwitchFault → W → Type 0
Goes meanings o first h more (Ok _) now = Stands meanings o first (h ++ more) now
Goes meanings o first h more (Err fault) now = BreaksOff meanings (λ _. o) first h more fault now

-- ---- a feed

-- All but the last of these events were done, and that one was left idle with this fault, which has its cause. Nothing is gathered.
pub record BreaksLast {O W : Type 0} (meanings : Standing O W) (o : O) (h : List Entry) (events : List Event) (last : Event)
    (fault : SwitchFault) (now : W) : Type 0 where
  pub front : List Event
  pub is : events ≡ front ++ last ∷ []
  pub stands : settled meanings o ((h ++ all_done front) ++ Idle last fault ∷ []) now
  pub cause : IsCause (meanings.is_full o (h ++ all_done front) last) (h ++ all_done front)
      (outcome_at meanings now o (h ++ all_done front) last) fault

-- A device failed where events were to be added behind these entries: some became these entries together, and at most one is behind
-- them, that with which it failed.
abbrev pub BreaksSoon : {O W : Type 0} → Standing O W → O → (first : ℕ) → List Entry → List Event → (List Event → List Entry) → W → Type 0
BreaksSoon meanings o first h events became now =
    (broke : BreaksTogether meanings (λ _. o) first h (all_done events) became now) × (length broke.behind ≤ 1)

-- Events of circuit c were to be added behind these entries, and this fault ended that: a device failed; or the last one was left idle,
-- and it is no message that was wanting.
abbrev pub BreaksFed : {O W : Type 0} → Standing O W → O → (first : ℕ) → List Entry → ℕ → List Event → SwitchFault → W → Type 0
BreaksFed meanings o first h c events DiskFault now = BreaksSoon meanings o first h events (λ es. Doubt es ∷ []) now
BreaksFed meanings o first h c events SayFault now = BreaksSoon meanings o first h events all_unsaid now
BreaksFed meanings o first h c events (Stopped by) now = (last : Event) × BreaksLast meanings o h events last (Stopped by) now
BreaksFed meanings o first h c events Spent now = ⊥
BreaksFed meanings o first h c events (Full used need limit) now =
    (field : FrameField) × BreaksLast meanings o h events (event.Lost c field) (Full used need limit) now
BreaksFed meanings o first h c events NoMemory now = (field : FrameField) × BreaksLast meanings o h events (event.Lost c field) NoMemory now

-- Events of circuit c, which bytes ended that were taken, were to be added behind these entries, of which none of the first so many is
-- gathered: it ended so, and the decoder holds this message.
abbrev pub GoesFed : {O W : Type 0} → Standing O W → O → (first : ℕ) → List Entry → ℕ → List Event → (message : List ℕ) → FeedEnd → W
    → Type 0
GoesFed meanings o first h c events message All now = Stands meanings o first (h ++ all_done events) now
GoesFed meanings o first h c events message (Lost field) now =
    Stands meanings o first (h ++ all_done events) now × EndsWith events (event.Lost c field)
GoesFed meanings o first h c events message (Wanting kind fault) now =
    BreaksLast meanings o h events (event.Heard c kind message) fault now × IsWanting fault
GoesFed meanings o first h c events message (Fault fault) now = BreaksFed meanings o first h c events fault now

-- behind whatever entries the switch stood for, these events of circuit c were to be added, and it ended so
abbrev pub FeedsBehind : {O W : Type 0} → Standing O W → ℕ → List Event → (message : List ℕ) → FeedEnd → (old new : W) → Type 0
FeedsBehind {O} meanings c events message end old new =
    (o : O) (first : ℕ) (h : List Entry) → Stands meanings o first h old → GoesFed meanings o first h c events message end new

-- Bytes were taken that ended with this step, and then more, all of which are these: they have some events, which were to be added
-- behind whatever entries the switch stood for, and it ended so.
pub record GoesOver {O W : Type 0} (meanings : Standing O W) (c : ℕ) (begun : List ℕ) (step : Step) (decoder : Decoding) (old : W)
    (taken message : List ℕ) (end : FeedEnd) (new : W) : Type 0 where
  pub events : List Event
  pub are : (before : List ℕ) → Reads before begun step decoder → events_added c before taken ≡ events
  pub goes : FeedsBehind meanings c events message end old new

-- What a feed gathered that ended so was settled, behind whatever entries nothing was gathered: then it ended so.
pub record SettlesFed {O W : Type 0} (meanings : Standing O W) (end settled_end : FeedEnd) (old new : W) : Type 0 where
  pub adds : (o : O) (h : List Entry) (c : ℕ) (events : List Event) (message : List ℕ)
      → GoesFed meanings o (length h) h c events message end old
      → (more : List Entry) × AddsFed c events message settled_end more × settled meanings o (h ++ more) new
  pub ends : (before taken : List ℕ) → EndsOver before taken end → EndsOver before taken settled_end
  pub all : settled_end ≡ All → end ≡ All
  pub wanting : (kind : Kind) (fault : SwitchFault) → settled_end ≡ Wanting kind fault → end ≡ Wanting kind fault
