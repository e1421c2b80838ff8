-- What a piece comes to that was fed at the desk.
use Rattle.gts_receiver.proofs.Cited.{◌≡◌, Bool, ℕ, ◌+◌, ◌≤◌, List, [], ◌∷◌, ◌++◌, length, take, drop, Result, Ok, Err, refl, sym, ap, ◌∙◌, subst, arith, append_assoc, take-append-drop, IsSome, append-nil, length-take-le, AddsAny, AddsEntries, AddsFault, Answers, Decoding, DiskFault, Doubt, EndsOver, Entry, Event, Fault, Fed, FeedEnd, Feeds, FrameField, Full, GoesOn, Heard, Hears, Idle, IsWanting, Kind, LeavesLast, LostSync, NoMemory, Outcome, PassesBetween, Reads, Receiving, SayFault, SaysNoMore, Seen, Spent, Stopped, SwitchFault, Takes, TriesOn, Unsaid, all_done, all_unsaid, events_added, fault_entries, held_in, own, settled, settled_own, front-open, goes_any, goes_on_spent, goes_further, halfway}
use Rattle.gts_event.specs.declared.event.Event.TheVariants as events
use Rattle.gts_calls.specs.Fed as feeding
use Rattle.gts_calls.specs.declared.fed.FeedEnd.TheVariants as fed_ends
use Rattle.gts_calls.specs.Desks as desks
use Rattle.gts_receiver.proofs.SettledLemmas.{settled-append, settled_all, any_settled, no_try, stopped_tries, disk_tries, say_tries, spent_tries}
use Rattle.gts_receiver.proofs.FaultLemmas as faults
use Rattle.gts_receiver.proofs.FaultLemmas.{done_settles, hears_go}
use Rattle.gts_receiver.proofs.PieceLemmas.{all_done-append, told, lost, failed}

module _ (w : Bool) (c : ℕ) (first now later : Seen) (given piece : List ℕ) (fed : Fed) (decoder : Decoding) (so_far : Receiving w c first now given)
    (takes : Takes given piece fed decoder) where
  abbrev x : List ℕ
  x = take fed.taken piece

  abbrev behind : List ℕ
  behind = drop fed.taken piece

  abbrev more : List Event
  more = events_added c given x

  whole : (given ++ x) ++ behind ≡ given ++ piece
  whole = append_assoc given x behind ∙ ap (λ (l : List ℕ). given ++ l) (take-append-drop fed.taken piece)

  -- synchronisation was kept before
  open_before : IsSome (held_in given)
  open_before = front-open given so_far.kept

  settles : (entries : List Entry) → AddsAny now entries later → entries ≡ all_done more → settled_own w later ≡ settled_own w now ++ all_done more
  settles entries adds is = any_settled w now later entries adds ∙ ap (λ (l : List Entry). settled_own w now ++ settled w l) is ∙ ap (λ (l : List Entry). settled_own w now ++ l) (settled_all w more)

  -- all of it was told
  pub fed_all : fed.end ≡ fed_ends.All → desks.Feeds c more decoder.message fed.end now later → Feeds w c first later given piece decoder (Ok fed.taken)
  fed_all is added =
      let keeps : IsSome (held_in given) → IsSome (held_in (given ++ x)) = subst (EndsOver given x) is takes.ends in
      let a : desks.Feeds c more decoder.message fed_ends.All now later = subst (λ (e : FeedEnd). desks.Feeds c more decoder.message e now later) is added in
      (told w c first now later given x so_far (goes_any now later a.0 a.2) (settles a.0 a.2 a.1) (keeps open_before), takes.held)

  -- synchronisation was lost
  pub fed_lost : (field : FrameField) (at : ℕ) → fed.end ≡ fed_ends.Lost field → desks.Feeds c more decoder.message fed.end now later
      → fed.taken ≤ length piece → at ≡ length given + fed.taken → Reads w c first later (given ++ piece) (LostSync field at)
  fed_lost field at is added within place =
      let loses : feeding.LosesLast given x = subst (EndsOver given x) is takes.ends in
      let a : desks.Feeds c more decoder.message (fed_ends.Lost field) now later = subst (λ (e : FeedEnd). desks.Feeds c more decoder.message e now later) is added in
      let long : length x ≡ fed.taken = length-take-le fed.taken piece within in
      subst (λ (l : List ℕ). Reads w c first later l (LostSync field at)) whole
      (lost w c first now later given x so_far behind field at (omega (arith, place, long)) (goes_any now later a.0 a.2) (settles a.0 a.2 a.1.0) a.1.1 loses)

  -- events of it were answered with a fault, behind those in front
  abbrev Ends : SwitchFault → Type 0
  Ends fault = Reads w c first later (given ++ piece) (Fault fault)

  ends : (fault : SwitchFault) (front : List Event) (event : Event) (beside back : List Event) → more ≡ (front ++ event ∷ beside) ++ back → GoesOn now later
      → AddsFault w event beside fault later.full later.turns (settled_own w now ++ all_done front) (settled_own w later) (own later) → Ends fault
  ends fault front event beside back is on adds =
      subst (λ (l : List ℕ). Reads w c first later l (Fault fault)) whole (failed w c first now later given x so_far behind fault front event beside back is on adds)

  in_turn : (fault : SwitchFault) (front : List Event) (event : Event) (beside : List Event) (entry : Entry) (others entries : List Entry)
      → AddsAny now entries later → entries ≡ all_done front ++ entry ∷ others → fault_entries event beside fault ≡ entry ∷ others
      → ((fault ≡ DiskFault → ⊥) → (fault ≡ SayFault → ⊥) → beside ≡ []) → TriesOn w event fault later.turns → (fault ≡ Spent → ⊥)
      → AddsFault w event beside fault later.full later.turns (settled_own w now ++ all_done front) (settled_own w later) (own later)
  in_turn fault front event beside entry others entries adds is shape apart kept never =
      let between : PassesBetween now (all_done front) (entry ∷ others) later =
      halfway now later (all_done front) others entry (subst (λ (l : List Entry). AddsAny now l later) is adds) in
      let mid : Seen = between.mid in
      let done : settled_own w mid ≡ settled_own w now ++ all_done front =
      ap (settled w) between.own_is ∙ settled-append w (own now) (all_done front) ∙ ap (λ (l : List Entry). settled_own w now ++ l) (settled_all w front) in
      let added : AddsEntries mid (fault_entries event beside fault) later = subst (λ (l : List Entry). AddsEntries mid l later) (sym shape) between.adds in
      subst (λ (l : List Entry). AddsFault w event beside fault later.full later.turns l (settled_own w later) (own later)) done
      (faults.entered w event beside mid later fault added apart kept never)

  idle : (fault : SwitchFault) (last : Event) (entries : List Entry) → AddsAny now entries later → LeavesLast more last fault entries
      → fault_entries last [] fault ≡ Idle last fault ∷ [] → TriesOn w last fault later.turns → (fault ≡ Spent → ⊥) → Ends fault
  idle fault last entries adds leaves shape kept never =
      ends fault leaves.front last [] [] (leaves.is ∙ sym (append-nil (leaves.front ++ last ∷ []))) (goes_any now later entries adds)
      (in_turn fault leaves.front last [] (Idle last fault) [] entries adds leaves.added shape (λ no_disk no_say. refl) kept never)

  pub fed_fault : (fault : SwitchFault) → fed.end ≡ fed_ends.Fault fault → desks.Feeds c more decoder.message fed.end now later → Ends fault
  fed_fault fault is added = by fault (subst (λ (e : FeedEnd). desks.Feeds c more decoder.message e now later) is added)
    where
      by : (fault : SwitchFault) → desks.Feeds c more decoder.message (fed_ends.Fault fault) now later → Ends fault
      by DiskFault a =
          let t = a.1 in
          ends DiskFault t.front t.first t.others t.behind t.is (goes_any now later a.0 a.2)
          (in_turn DiskFault t.front t.first t.others (Doubt (t.first ∷ t.others)) [] a.0 a.2 t.added refl (λ no_disk no_say. absurd (no_disk refl)) (disk_tries w t.first later.turns) (λ e. cc e))
      by SayFault a =
          let t = a.1 in
          ends SayFault t.front t.first t.others t.behind t.is (goes_any now later a.0 a.2)
          (in_turn SayFault t.front t.first t.others (Unsaid t.first) (all_unsaid t.others) a.0 a.2 t.added refl (λ no_disk no_say. absurd (no_say refl)) (say_tries w t.first later.turns) (λ e. cc e))
      by (Stopped device) a = idle (Stopped device) a.1.0 a.0 a.2 a.1.1 refl (stopped_tries w a.1.0 device later.turns) (λ e. cc e)
      by (Full used need limit) a =
          idle (Full used need limit) (events.Lost c a.1.0) a.0 a.2 a.1.1 refl (no_try w c a.1.0 (Full used need limit) later.turns) (λ e. cc e)
      by NoMemory a = idle NoMemory (events.Lost c a.1.0) a.0 a.2 a.1.1 refl (no_try w c a.1.0 NoMemory later.turns) (λ e. cc e)
      by Spent a =
          ends Spent [] a.0.0 [] [] a.0.1 (goes_on_spent now later a.1)
          (subst (λ (l : List Entry). AddsFault w a.0.0 [] Spent later.full later.turns l (settled_own w later) (own later)) none (faults.spent w a.0.0 now later a.1 (spent_tries w a.0.0 later.turns)))
        where
          none : settled_own w now ≡ settled_own w now ++ all_done []
          none = sym (append-nil (settled_own w now))

-- ---- a message that was wanting

-- a piece was told up to a message that was wanting, as if in a turn of its own
pub record Wants (w : Bool) (c : ℕ) (kind : Kind) (message : List ℕ) (fault : SwitchFault) (now mid later : Seen) (more : List Event) : Type 0 where
  pub front : List Event
  pub is : more ≡ front ++ Heard c kind message ∷ []
  pub desk : GoesOn now mid
  pub done : settled_own w mid ≡ settled_own w now ++ all_done front
  pub answers : Answers mid (Heard c kind message) SaysNoMore (Err fault) later

pub wants : (w : Bool) (c : ℕ) (kind : Kind) (message : List ℕ) (fault : SwitchFault) (now later : Seen) (more : List Event)
    → desks.Feeds c more message (fed_ends.Wanting kind fault) now later → (mid : Seen) × Wants w c kind message fault now mid later more
wants w c kind message fault now later more a =
    let l : LeavesLast more (Heard c kind message) fault a.0 = a.1.0 in
    let between : PassesBetween now (all_done l.front) (Idle (Heard c kind message) fault ∷ []) later =
    halfway now later (all_done l.front) [] (Idle (Heard c kind message) fault) (subst (λ (es : List Entry). AddsAny now es later) l.added a.2) in (
      between.mid,
      record {
        front = l.front;
        is = l.is;
        desk = between.desk;
        done = ap (settled w) between.own_is ∙ settled-append w (own now) (all_done l.front) ∙ ap (λ (es : List Entry). settled_own w now ++ es) (settled_all w l.front);
        answers = by fault a.1.1 between.adds;
      },
    )
  where
    by : (f : SwitchFault) → IsWanting f → {mid : Seen} → AddsEntries mid (Idle (Heard c kind message) f ∷ []) later → Answers mid (Heard c kind message) SaysNoMore (Err f) later
    by (Full used need limit) is adds = adds
    by NoMemory is adds = adds
    by DiskFault is adds = absurd is
    by SayFault is adds = absurd is
    by (Stopped device) is adds = absurd is
    by Spent is adds = absurd is

module _ (w : Bool) (c : ℕ) (first now later new : Seen) (given piece : List ℕ) (fed : Fed) (decoder : Decoding) (so_far : Receiving w c first now given)
    (takes : Takes given piece fed decoder) (kind : Kind) (fault : SwitchFault) (is_so : fed.end ≡ fed_ends.Wanting kind fault)
    (mid : Seen) (wanted : Wants w c kind decoder.message fault now mid later (events_added c given (take fed.taken piece))) where
  abbrev heard : Event
  heard = Heard c kind decoder.message

  on : (answer : Result Outcome SwitchFault) → Hears w heard answer mid new → GoesOn now new
  on answer h = goes_further now mid new wanted.desk (hears_go w heard answer mid new h)

  -- it was heard at last
  pub heard_at_last : (o : Outcome) → Hears w heard (Ok o) mid new → Feeds w c first new given piece decoder (Ok fed.taken)
  heard_at_last o h =
      let x : List ℕ = take fed.taken piece in
      let keeps : IsSome (held_in given) → IsSome (held_in (given ++ x)) = subst (EndsOver given x) is_so takes.ends in
      let is : settled_own w new ≡ settled_own w now ++ all_done (events_added c given x) =
      done_settles w heard o mid new h ∙ ap (λ (es : List Entry). es ++ all_done (heard ∷ [])) wanted.done
      ∙ append_assoc (settled_own w now) (all_done wanted.front) (all_done (heard ∷ []))
      ∙ ap (λ (es : List Entry). settled_own w now ++ es) (sym (all_done-append wanted.front (heard ∷ [])))
      ∙ ap (λ (es : List Event). settled_own w now ++ all_done es) (sym wanted.is) in
      (told w c first now new given x so_far (on (Ok o) h) is (keeps (front-open given so_far.kept)), takes.held)

  -- or it was answered with a fault
  pub never_heard : (f : SwitchFault) → Hears w heard (Err f) mid new → TriesOn w heard f new.turns → Reads w c first new (given ++ piece) (Fault f)
  never_heard f h kept =
      ends w c first now new given piece fed decoder so_far takes f wanted.front heard [] [] (wanted.is ∙ sym (append-nil (wanted.front ++ heard ∷ []))) (on (Err f) h)
      (subst (λ (l : List Entry). AddsFault w heard [] f new.full new.turns l (settled_own w new) (own new)) wanted.done (faults.failed w heard f mid new h kept))
