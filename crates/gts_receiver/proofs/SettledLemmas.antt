-- The entries of a service without its tries.
use Rattle.gts_receiver.proofs.Cited.{◌≡◌, ℕ, ◌+◌, ◌≤◌, arith, Bool, true, false, not, List, [], ◌∷◌, ◌++◌, Result, Ok, Err, refl, ap, ◌∙◌, append-nil, filter-append, AddsAny, AddsEntries, AddsJust, Answers, AreMost, Device, DiskFault, Done, Doubt, Entry, Event, FrameField, Full, GoesOn, Heard, Hears, Idle, Kind, Lost, NoMemory, Outcome, SayFault, SaysNoMore, Seen, Spent, State, Stopped, SwitchFault, Taken, TriesOn, Unsaid, all_done, is_try, is_wanting, outcome, own, settled, settled_own, just, own_added, turned, own_any, goes_on_spent, goes_further, common_steps}
use Rattle.gts_calls.proofs.LawLemmas.{goes_on}

pub settled-append : (w : Bool) (xs ys : List Entry) → settled w (xs ++ ys) ≡ settled w xs ++ settled w ys
settled-append true xs ys = filter-append (λ (e : Entry). not (is_try e)) xs ys
settled-append false xs ys = refl

pub none_settled : (w : Bool) → settled w [] ≡ []
none_settled true = refl
none_settled false = refl

-- what was done is no try
pub settled_all : (w : Bool) (events : List Event) → settled w (all_done events) ≡ all_done events
settled_all true [] = refl
settled_all true (event ∷ events) = ap (λ (l : List Entry). Done event ∷ l) (settled_all true events)
settled_all false events = refl

-- some of the desk's own entries more
pub own_settled : (w : Bool) (old new : Seen) (more : List Entry) → AddsEntries old more new → settled_own w new ≡ settled_own w old ++ settled w more
own_settled w old new more adds = ap (settled w) (own_added old new more adds) ∙ settled-append w (own old) more

pub any_settled : (w : Bool) (old new : Seen) (more : List Entry) → AddsAny old more new → settled_own w new ≡ settled_own w old ++ settled w more
any_settled w old new more adds = ap (settled w) (own_any old new more adds) ∙ settled-append w (own old) more

-- a try is left out
one_try : (before now : Seen) (entry : Entry) → is_try entry ≡ true → AddsJust before entry now → settled_own true now ≡ settled_own true before
one_try before now entry is adds = grind (arith, common_steps, own_settled, append-nil)

one_added : (before now : Seen) (entry : Entry) (tries : ℕ) → AddsJust before entry now → tries ≤ before.turns → tries + 1 ≤ now.turns
one_added before now entry tries adds few = omega (arith, few, turned before now (entry ∷ []) adds)

-- an event of a message is tried again at these answers, and a loss at none
pub tries_on : (w : Bool) (c : ℕ) (kind : Kind) (message : List ℕ) (fault : SwitchFault) (turns : ℕ)
    → (w ≡ true → is_wanting (Err fault) ≡ true → AreMost turns) → TriesOn w (Heard c kind message) fault turns
tries_on w c kind message (Full used need limit) turns kept = kept
tries_on w c kind message NoMemory turns kept = kept
tries_on w c kind message _ turns kept = λ yes is. absurd (cc is)

pub no_try : (w : Bool) (c : ℕ) (field : FrameField) (fault : SwitchFault) (turns : ℕ) → TriesOn w (Lost c field) fault turns
no_try w c field fault turns = λ yes is. absurd (cc is)

-- at other answers no event is tried again
pub stopped_tries : (w : Bool) (event : Event) (by : Device) (turns : ℕ) → TriesOn w event (Stopped by) turns
stopped_tries w (Heard c kind message) by turns = λ yes is. absurd (cc is)
stopped_tries w _ by turns = λ yes is. absurd (cc is)

pub disk_tries : (w : Bool) (event : Event) (turns : ℕ) → TriesOn w event DiskFault turns
disk_tries w (Heard c kind message) turns = λ yes is. absurd (cc is)
disk_tries w _ turns = λ yes is. absurd (cc is)

pub say_tries : (w : Bool) (event : Event) (turns : ℕ) → TriesOn w event SayFault turns
say_tries w (Heard c kind message) turns = λ yes is. absurd (cc is)
say_tries w _ turns = λ yes is. absurd (cc is)

pub spent_tries : (w : Bool) (event : Event) (turns : ℕ) → TriesOn w event Spent turns
spent_tries w (Heard c kind message) turns = λ yes is. absurd (cc is)
spent_tries w _ turns = λ yes is. absurd (cc is)

module _ (c : ℕ) (kind : Kind) (message : List ℕ) where
  abbrev heard : Event
  heard = Heard c kind message

  tried_so : (answer : Result Outcome SwitchFault) (before now : Seen) → is_wanting answer ≡ true → Answers before heard SaysNoMore answer now
      → settled_own true now ≡ settled_own true before
  tried_so (Err (Full used need limit)) before now is adds = one_try before now (Idle heard (Full used need limit)) refl adds
  tried_so (Err NoMemory) before now is adds = one_try before now (Idle heard NoMemory) refl adds
  tried_so _ before now is adds = absurd (cc is)

  went_on : (answer : Result Outcome SwitchFault) (before now : Seen) → is_wanting answer ≡ true → Answers before heard SaysNoMore answer now → GoesOn before now
  went_on (Err (Full used need limit)) before now is adds = goes_on before now (Idle heard (Full used need limit) ∷ []) adds
  went_on (Err NoMemory) before now is adds = goes_on before now (Idle heard NoMemory ∷ []) adds
  went_on _ before now is adds = absurd (cc is)

  -- a try takes a turn
  pub one_more : (answer : Result Outcome SwitchFault) (before now : Seen) (tries : ℕ) → is_wanting answer ≡ true → Answers before heard SaysNoMore answer now
      → tries ≤ before.turns → tries + 1 ≤ now.turns
  one_more (Err (Full used need limit)) before now tries is adds so_far = one_added before now (Idle heard (Full used need limit)) tries adds so_far
  one_more (Err NoMemory) before now tries is adds so_far = one_added before now (Idle heard NoMemory) tries adds so_far
  one_more _ before now tries is adds so_far = absurd (cc is)

  -- a try more
  pub again : (first : Result Outcome SwitchFault) (old now : Seen) → is_wanting first ≡ true → Hears true heard first old now
      → (answer : Result Outcome SwitchFault) (later : Seen) → Answers now heard SaysNoMore answer later → Hears true heard answer old later
  again first old now is h answer later answers = record {
    before = now;
    desk = goes_further old h.before now h.desk (went_on first h.before now is h.answers);
    tried = tried_so first h.before now is h.answers ∙ h.tried;
    answers = answers;
  }

-- with any answer a desk goes on
pub answers_go : (asked : Event) (answer : Result Outcome SwitchFault) (old new : Seen) → Answers old asked SaysNoMore answer new → GoesOn old new
answers_go asked (Ok o) old new adds = goes_on old new (Done asked ∷ []) (just old new (Done asked ∷ []) (λ (s : State). (o ≡ outcome old.directory s asked) × SaysNoMore o s) adds)
answers_go asked (Err DiskFault) old new adds = goes_on old new (Doubt (asked ∷ []) ∷ []) adds
answers_go asked (Err SayFault) old new adds = goes_on old new (Unsaid asked ∷ []) adds
answers_go asked (Err (Full used need limit)) old new adds = goes_on old new (Idle asked (Full used need limit) ∷ []) adds
answers_go asked (Err (Stopped by)) old new adds = goes_on old new (Idle asked (Stopped by) ∷ []) adds
answers_go asked (Err NoMemory) old new adds = goes_on old new (Idle asked NoMemory ∷ []) adds
answers_go asked (Err Spent) old new spent = goes_on_spent old new spent
