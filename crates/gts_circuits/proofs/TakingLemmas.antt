-- Several takes on one circuit, one behind another in one turn.
use Rattle.gts_circuits.proofs.Cited.{◌≡◌, ◌≢◌, inl, inr, ℕ, zero, suc, ◌+◌, ◌≤◌, Bool, true, false, List, [], ◌∷◌, ◌++◌, length, map, replicate, Some, None, Result, Ok, Err, refl, sym, ap, subst, ◌∙◌, arith, length-append, IsErrOf, slice_index_or, append-nil, replicate_more, get_or_from_slice_get, slice_get-map, IfSome, option_map, frames_in, Accepted, AddsTaken, AfterCall, AfterSettling, Alone, AreTaken, Asked, AtOnce, Beginning, Behind, Caller, Circuit, Device, Directory, DiskFault, Done, Doubt, Draw, Duplicate, Engine, Entry, Event, Frame, Full, GathersOne, Gave, GaveAll, HasStationCause, HasTaken, Holds, Idle, IsAnswered, IsOneMore, IsSettling, LeavesFrame, LeavesTaken, LineLost, NoMemory, Nothing, Origin, Outcome, Refused, Resend, SayFault, Says, Spent, Stands, StandsWith, State, StationMeanings, Stopped, SwitchFault, Taken, TakesBehind, after, after_all, after_takes, all_done, count_of, frame_of_draw, frames_by, given_index, gives, joined, meanings_of, origin_with, outcome, shown, state_at, state_behind, takes, used_at, begun, common_steps}
use Rattle.std.specs.Prelude.{Option, drop, slice_get}
use Rattle.gts_engine.specs.Cited.{AreGathered}
use Rattle.gts_circuits.proofs.StandingLemmas.{leads_to, rose_on, full_accepts, frame_said, takes_accept_nothing}
use Rattle.gts_circuits.proofs.GatheringLemmas.{M, answered, settles}

-- ---- what a take came to

-- a take that gave nothing found nothing
nothing_given : (d : Directory) (s : State) (c : ℕ) → gives (outcome d s (Taken c)) ≡ false → outcome d s (Taken c) ≡ Nothing
nothing_given d s c none = grind (arith, common_steps, leads_to)

-- the frames of one more
gave_more : (d : Directory) (s : State) (c : ℕ) (frames : List Frame) (f : Frame) → GaveAll d s c frames → Gave d (after_takes d s c (length frames)) c f → GaveAll d s c (frames ++ f ∷ [])
gave_more d s c [] f all one = (one, tt)
gave_more d s c (x ∷ frames) f all one = (all.0, gave_more d (after d s (Taken c)) c frames f all.1 one)

-- takes that are gathered come to the state after them
state_taken : (d : Directory) (s : State) (c n : ℕ) → after_all d s (all_done (replicate n (Taken c))) ≡ after_takes d s c n
state_taken d s c zero = refl
state_taken d s c (suc n) = state_taken d (after d s (Taken c)) c n

done_taken : (c n : ℕ) → all_done (replicate n (Taken c)) ≡ takes c n
done_taken c zero = refl
done_taken c (suc n) = ap (λ (l : List Entry). Done (Taken c) ∷ l) (done_taken c n)

-- there are as many frames as places of them
pub count_frames : (each : List _) (bytes : List ℕ) → length (frames_in each bytes) ≡ length each
count_frames [] bytes = refl
count_frames (p ∷ each) bytes = ap (λ (n : ℕ). suc n) (count_frames each (drop p.size bytes))

-- how often the draws of a circuit are repeated
pub most_at : (rows : List Circuit) (c : ℕ) (row : Circuit) → slice_get rows c ≡ Some row → slice_index_or (map (λ (r : Circuit). r.repeat) rows) c 0 ≡ row.repeat
most_at rows c row is =
    get_or_from_slice_get (map (λ (r : Circuit). r.repeat) rows) c row.repeat 0 (slice_get-map (λ (r : Circuit). r.repeat) rows c ∙ ap (option_map (λ (r : Circuit). r.repeat)) is)

-- how many there are with one more that gave this
pub count_more : (frames : List Frame) (o : Outcome) (out : List ℕ) → count_of (frames ++ frames_by o out) (gives o) ≡ length frames + 1
count_more frames (Resend index) out = length-append frames (record { index = index; text = out } ∷ [])
count_more frames (Draw index) out = length-append frames (record { index = index; text = out } ∷ [])
count_more frames _ out = ap (λ (l : List Frame). length l + 1) (append-nil frames)

-- what is known of the frames with one take more, whose outcome is this
module _ (d : Directory) (s : State) (c : ℕ) (frames : List Frame) (o : Outcome) (out : List ℕ) (all : GaveAll d s c frames)
    (is : o ≡ outcome d (after_takes d s c (length frames)) (Taken c)) (leaves : LeavesFrame d c out o (after_takes d s c (length frames))) where
  abbrev t : State
  t = after_takes d s c (length frames)

  one : (index : ℕ) → given_index o ≡ Some index → out ≡ frame_of_draw d (after d t (Taken c)) c index → Gave d t c (record { index = index; text = out })
  one index given text = record { index = ap given_index (sym is) ∙ given; text = text }

  pub all_more : GaveAll d s c (frames ++ frames_by o out)
  all_more = go o refl leaves
    where
      none : GaveAll d s c (frames ++ [])
      none = subst (λ (l : List Frame). GaveAll d s c l) (sym (append-nil frames)) all

      go : (p : Outcome) → o ≡ p → LeavesFrame d c out p t → GaveAll d s c (frames ++ frames_by p out)
      go (Resend index) e l = gave_more d s c frames (record { index = index; text = out }) all (one index (ap given_index e) l)
      go (Draw index) e l = gave_more d s c frames (record { index = index; text = out }) all (one index (ap given_index e) l)
      go _ e l = none

  pub last_more : gives o ≡ false → outcome d (after_takes d s c (length (frames ++ frames_by o out))) (Taken c) ≡ Nothing
  last_more none =
      let here : outcome d t (Taken c) ≡ Nothing = nothing_given d t c (ap gives (sym is) ∙ none) in
      subst (λ (n : ℕ). outcome d (after_takes d s c n) (Taken c) ≡ Nothing) (sym (same o none)) here
    where
      same : (p : Outcome) → gives p ≡ false → length (frames ++ frames_by p out) ≡ length frames
      same (Resend index) e = absurd (cc e)
      same (Draw index) e = absurd (cc e)
      same _ e = ap length (append-nil frames)

module _ {P : Type 0} (station : StationMeanings P) (b : Beginning) (h : List Entry) (c : ℕ) where
  abbrev d : Directory
  d = b.origin.directory

  abbrev s : State
  s = state_at b.origin h

  abbrev makes : Engine P → Bool
  makes e = b.makes_room

  abbrev engine : Engine P → Engine P
  engine e = e

  abbrev has : List Frame → Bool → Engine P → Type 0
  has frames gave e = HasTaken station b h c frames gave e

  -- ---- the first take

  module _ (result : Result Outcome SwitchFault) (old new : Engine P) (out : List ℕ) (stands : Stands station b h old)
      (called : IsAnswered (meanings_of station Caller) (Taken c) result old new)
      (cause : HasStationCause station result old.station new.station) where
    ans : IsAnswered (M engine makes station) (Taken c) result old new
    ans = answered engine makes station (Taken c) result old new refl cause
        (λ m x t a. takes_accept_nothing station b x t c a) called

    after_first : AfterCall (M engine makes station) b h [] (Taken c) result new
    after_first = ans.adds b h [] (stands, refl)

    took_on : (o : Outcome) → result ≡ Ok o → (by : Option Device) → IfSome by (λ x. (result ≡ Err (Stopped x)) × (new ≡ old)) → by ≡ None
    took_on o is None stopped = refl
    took_on o is (Some x) stopped = absurd (let e : Ok o ≡ Err (Stopped x) = sym is ∙ stopped.0 in cc e)

    pub first_taken : (o : Outcome) → result ≡ Ok o → (o ≢ Nothing → Says old.core c out) → IfSome old.stopped (λ by. (result ≡ Err (Stopped by)) × (new ≡ old)) → joined new.held ≡ [] → has ([] ++ frames_by o out) (gives o) new
    first_taken o is says stopped silent =
        let going : old.stopped ≡ None = took_on o is old.stopped stopped in
        let one : GathersOne (M engine makes station) b h [] (Taken c) new =
        subst (λ (r : Result Outcome SwitchFault). AfterCall (M engine makes station) b h [] (Taken c) r new) is after_first in
        let outcome_is : o ≡ outcome d s (Taken c) =
        let D : Directory → Type 0 = λ x. o ≡ outcome x (after_all x (begun b.origin.start) h) (Taken c) in
        subst D stands.keeps.directory (subst (λ (l : List Entry). o ≡ outcome old.directory (after_all old.directory (begun b.origin.start) l) (Taken c)) (append-nil h)
        (ans.outcome b h [] (stands, refl) o is)) in
        let leaves : LeavesFrame d c out o s = frame_said station b d s c out o outcome_is (λ some. says some d s (stands.keeps.core going)) in
        record {
          front = one.front;
          events = one.more;
          taken = subst (λ (n : ℕ). AreTaken h c n one.front one.more) (sym (count_more [] o out)) (are one.front one.more one.one);
          some = let n = count_more [] o out in omega (arith, n);
          stands = one.gathers.0;
          all = all_more d s c [] o out tt outcome_is leaves;
          last = last_more d s c [] o out tt outcome_is leaves;
          silent = silent;
        }
      where
        are : (front : List Entry) (more : List Event) → IsOneMore h [] (Taken c) front more → AreTaken h c 1 front more
        are front more (Behind is all) = inl (is, all)
        are front more (Alone is all) = inl (is ∙ append-nil h, all)
        are front more (AtOnce is all) = inr (is ∙ ap (λ (l : List Entry). l ++ Done (Taken c) ∷ []) (append-nil h), all)

    -- it is answered with a fault only where the engine had stopped
    pub first_fails : (fault : SwitchFault) → result ≡ Err fault → (IsErrOf result SayFault → ⊥) → (r : Result Bool SwitchFault) → r ≡ Err fault
        → (more : List Entry) × LeavesTaken station b h c [] r new more
    first_fails fault is never r failed = subst (λ (x : Result Bool SwitchFault). (more : List Entry) × LeavesTaken station b h c [] x new more) (sym failed) (go fault is left)
      where
        left : AfterCall (M engine makes station) b h [] (Taken c) (Err fault) new
        left = subst (λ (x : Result Outcome SwitchFault). AfterCall (M engine makes station) b h [] (Taken c) x new) is after_first

        go : (f : SwitchFault) → result ≡ Err f → AfterCall (M engine makes station) b h [] (Taken c) (Err f) new
            → (more : List Entry) × LeavesTaken station b h c [] (Err f) new more
        go DiskFault e a = absurd (a.some refl)
        go SayFault e a = absurd (never (subst (λ (x : Result Outcome SwitchFault). IsErrOf x SayFault) (sym e) refl))
        go (Full used need limit) e a =
            absurd (takes_accept_nothing station b d (state_at b.origin (h ++ [])) c
            (full_accepts d (state_at b.origin (h ++ [])) (used_at (origin_with b stands.compactions) (h ++ [])) (Taken c) (outcome d (state_at b.origin (h ++ [])) (Taken c)) (Full used need limit) (called.caused (origin_with b stands.compactions) h [] stands.keeps (Full used need limit) e)))
        go (Stopped by) e a = (
          Idle (Taken c) (Stopped by) ∷ [],
          record {
            added = (refl, refl);
            stands = subst (λ (l : List Entry). Stands station b (l ++ Idle (Taken c) (Stopped by) ∷ []) new) (append-nil h) a.0;
          },
        )
        go Spent e a = absurd a
        go NoMemory e a = absurd (takes_accept_nothing station b old.directory (after_all old.directory (begun b.origin.start) (h ++ [])) c (called.caused (origin_with b stands.compactions) h [] stands.keeps NoMemory e))

  -- ---- one behind it

  pub one_behind : (frames : List Frame) (o : Outcome) (out : List ℕ) (old new : Engine P) → has frames true old → TakesBehind station c o old new → old.gathered ≡ true
      → (o ≢ Nothing → Says old.core c out) → station.disk_faults new.station ≡ station.disk_faults old.station → station.say_faults new.station ≡ station.say_faults old.station → joined new.held ≡ []
      → has (frames ++ frames_by o out) (gives o) new
  one_behind frames o out old new t behind gathered says disks saying silent = go t.taken
    where
      origin : Origin
      origin = origin_with b t.stands.compactions

      some : AreGathered (shown station.calls old) origin.directory (state_at origin t.front) t.events
      some = t.stands.keeps.gathered

      never : t.events ≡ [] → ⊥
      never e =
          let none : old.gathered ≡ false = subst (λ (es : List Event). AreGathered (shown station.calls old) origin.directory (state_at origin t.front) es) e some in
          let no : true ≡ false = sym gathered ∙ none in cc no

      goes_on : (es : List Event) → AreGathered (shown station.calls old) origin.directory (state_at origin t.front) es → old.stopped ≡ None
      goes_on [] a = absurd (let no : true ≡ false = sym gathered ∙ a in cc no)
      goes_on (e ∷ es) a = a.1

      going : old.stopped ≡ None
      going = goes_on t.events some

      stood : StandsWith station b t.front (t.events ++ Taken c ∷ []) new
      stood = record {
        compactions = t.stands.compactions;
        keeps = behind.gathers origin t.front t.events t.stands.keeps;
        none = t.stands.none;
        cramped = t.stands.cramped;
        disk_later = omega (arith, t.stands.disk_later, disks);
        disk_failed = λ e. rose_on b.disk (station.disk_faults old.station) (station.disk_faults new.station) (t.stands.disk_failed e) (omega (arith, disks));
        disk_still = λ n. disks ∙ t.stands.disk_still n;
        say_later = omega (arith, t.stands.say_later, saying);
        say_failed = λ e. rose_on b.say (station.say_faults old.station) (station.say_faults new.station) (t.stands.say_failed e) (omega (arith, saying));
        say_still = λ n. saying ∙ t.stands.say_still n;
      }

      go : AreTaken h c (length frames) t.front t.events → has (frames ++ frames_by o out) (gives o) new
      go (inr done) = absurd (never done.1)
      go (inl all) =
          let n : ℕ = length frames in
          let here : state_behind origin t.front t.events ≡ after_takes d s c n =
          ap (λ (l : List Entry). state_behind origin l t.events) all.0 ∙ ap (λ (es : List Event). after_all d s (all_done es)) all.1 ∙ state_taken d s c n in
          let outcome_is : o ≡ outcome d (after_takes d s c n) (Taken c) =
          subst (λ (x : State). o ≡ outcome d x (Taken c)) here (behind.outcome origin t.front t.events t.stands.keeps) in
          let leaves : LeavesFrame d c out o (after_takes d s c n) =
          frame_said station b d (after_takes d s c n) c out o outcome_is
          (λ given. says given d (after_takes d s c n) (subst (λ (x : State). Holds d old.core x) here (t.stands.keeps.core going))) in
          record {
            front = t.front;
            events = t.events ++ Taken c ∷ [];
            some = let n = count_more frames o out in omega (arith, n);
            taken = inl (all.0, ap (λ (es : List Event). es ++ Taken c ∷ []) all.1 ∙ replicate_more n (Taken c) ∙ ap (λ (k : ℕ). replicate k (Taken c)) (sym (count_more frames o out)));
            stands = stood;
            all = all_more d s c frames o out t.all outcome_is leaves;
            last = last_more d s c frames o out t.all outcome_is leaves;
            silent = silent;
          }

  -- ---- all are settled

  abbrev most : ℕ
  most = slice_index_or (map (λ (row : Circuit). row.repeat) d.circuits) c 0

  pub settles_taken : (frames : List Frame) (gave : Bool) (old new : Engine P) → has frames gave old → IsSettling (meanings_of station Caller) (Ok tt) old new
      → HasStationCause station (let a : Result (Unit {0}) SwitchFault = Ok tt in a) old.station new.station
      → count_of frames gave ≤ most → (more : List Entry) × LeavesTaken station b h c frames (Ok gave) new more
  settles_taken frames gave old new t settling cause few = (takes c (count_of frames gave), record { added = added gave t few t.some; stands = stood })
    where
      left : AfterSettling (M engine makes station) b t.front t.events (Ok tt) new
      left = (settles engine makes station (Ok tt) old new refl cause settling).settles b t.front t.events (t.stands, refl)

      all : AreTaken h c (count_of frames gave) t.front t.events → t.front ++ all_done t.events ≡ h ++ takes c (count_of frames gave)
      all (inl x) = ap (λ (l : List Entry). l ++ all_done t.events) x.0 ∙ ap (λ (es : List Event). h ++ all_done es) x.1 ∙ ap (λ (l : List Entry). h ++ l) (done_taken c (count_of frames gave))
      all (inr x) = ap (λ (es : List Event). t.front ++ all_done es) x.1 ∙ append-nil t.front ∙ x.0

      stood : Stands station b (h ++ takes c (count_of frames gave)) new
      stood = subst (λ (l : List Entry). Stands station b l new) (all t.taken) left.0

      added : (g : Bool) → has frames g old → count_of frames g ≤ most → 1 ≤ count_of frames g → AddsTaken b h c frames (Ok g) (takes c (count_of frames g))
      added true u f m = (refl, u.all, m, omega (arith, f))
      added false u f m = (refl, record { gave = u.all; nothing = u.last refl }, omega (arith, f))

  pub settling_fails : (frames : List Frame) (gave : Bool) (old new : Engine P) (fault : SwitchFault) → has frames gave old
      → IsSettling (meanings_of station Caller) (let a : Result (Unit {0}) SwitchFault = Err fault in a) old new
      → HasStationCause station (let a : Result (Unit {0}) SwitchFault = Err fault in a) old.station new.station
      → (IsErrOf (let a : Result (Unit {0}) SwitchFault = Err fault in a) SayFault → ⊥)
      → count_of frames gave ≤ most → (more : List Entry) × LeavesTaken station b h c [] (Err fault) new more
  settling_fails frames gave old new fault t settling cause never few = go fault left never
    where
      left : AfterSettling (M engine makes station) b t.front t.events (Err fault) new
      left = (settles engine makes station (Err fault) old new refl cause settling).settles b t.front t.events (t.stands, refl)

      doubt : (t.events ≡ [] → ⊥) → Stands station b (t.front ++ Doubt t.events ∷ []) new → (n : ℕ) → n ≤ most → AreTaken h c n t.front t.events
          → (more : List Entry) × LeavesTaken station b h c [] (Err DiskFault) new more
      doubt some stands n few (inr x) = absurd (some x.1)
      doubt some stands zero few (inl x) = absurd (some x.1)
      doubt some stands (suc k) few (inl x) = (
        Doubt (Taken c ∷ replicate k (Taken c)) ∷ [],
        record {
          added = (k, omega (arith, few), refl, refl);
          stands = subst (λ (l : List Entry). Stands station b l new)
              (ap (λ (l : List Entry). l ++ Doubt t.events ∷ []) x.0 ∙ ap (λ (es : List Event). h ++ Doubt es ∷ []) x.1) stands;
        },
      )

      go : (f : SwitchFault) → AfterSettling (M engine makes station) b t.front t.events (Err f) new
          → (IsErrOf (let a : Result (Unit {0}) SwitchFault = Err f in a) SayFault → ⊥) → (more : List Entry) × LeavesTaken station b h c [] (Err f) new more
      go DiskFault a n = doubt a.some a.leaves.0 (count_of frames gave) few t.taken
      go SayFault a n = absurd (n refl)
      go _ a n = absurd a
