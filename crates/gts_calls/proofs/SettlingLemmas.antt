-- What a feed gathered is settled.
use Rattle.gts_calls.proofs.Cited.{◌≡◌, ℕ, ◌≤◌, true, false, List, [], ◌∷◌, ◌++◌, length, Ok, Err, refl, sym, ap, subst, ◌∙◌, arith, append-nil, append_assoc, length-map, AddsAtFault, AddsFed, AfterSettling, All, BreaksFed, BreaksLast, BreaksSoon, DiskFault, Done, Doubt, Entry, Event, Fault, FeedEnd, Full, GoesFed, Idle, IsSettling, LeavesLast, NoMemory, SayFault, SettlesFed, Spent, Standing, Stands, Stopped, SwitchFault, TurnsTogether, Wanting, all_done, all_unsaid, is_done, settled, Lost, shorter_front}
use Rattle.gts_event.specs.declared.event.Event.TheVariants as event
use Rattle.gts_calls.proofs.GoingLemmas.{doubt_soon, settles_all, short_soon}

-- ---- parts of lists

-- the parts of what was done are of events
record DoneParts (events : List Event) (front tail : List Entry) : Type 0 where
  pub first : List Event
  pub behind : List Event
  pub is : events ≡ first ++ behind
  pub front_is : front ≡ all_done first
  pub tail_is : tail ≡ all_done behind

done_parts : (events : List Event) (front tail : List Entry) → all_done events ≡ front ++ tail → DoneParts events front tail
done_parts events [] tail is = record { first = []; behind = events; is = refl; front_is = refl; tail_is = sym is }
done_parts [] (y ∷ front) tail is = absurd (cc is)
done_parts (e ∷ events) (y ∷ front) tail is =
    let same : Done e ≡ y = cc is in
    let more : all_done events ≡ front ++ tail = cc is in
    let p = done_parts events front tail more in
    record {
      first = e ∷ p.first;
      behind = p.behind;
      is = ap (λ (l : List Event). e ∷ l) p.is;
      front_is = ap (λ (x : Entry). x ∷ front) (sym same) ∙ ap (λ (l : List Entry). Done e ∷ l) p.front_is;
      tail_is = p.tail_is;
    }

done_same : (xs ys : List Event) → all_done xs ≡ all_done ys → xs ≡ ys
done_same [] [] is = refl
done_same [] (y ∷ ys) is = absurd (cc is)
done_same (x ∷ xs) [] is = absurd (cc is)
done_same (x ∷ xs) (y ∷ ys) is =
    let first : ◌≡◌ {A = Entry} (Done x) (Done y) = cc is in
    let same : x ≡ y = cc first in
    let more : all_done xs ≡ all_done ys = cc is in
    ap (λ (e : Event). e ∷ xs) same ∙ ap (λ (l : List Event). y ∷ l) (done_same xs ys more)

module _ {O W : Type 0} (meanings : Standing O W) where
  -- events that became something together, behind these entries
  pub turned_together : (o : O) (h : List Entry) (events : List Event) (became : List Event → List Entry) (now : W) → BreaksSoon meanings o (length h) h events became now
      → (more : List Entry) × TurnsTogether events became more × settled meanings o (h ++ more) now
  turned_together o h events became now soon =
      let t = soon.0 in
      let some : List Event = t.event ∷ t.events in
      let tail : List Entry = all_done some ++ t.behind in
      let p = shorter_front h (all_done events) t.front tail (t.parts ∙ append_assoc t.front (all_done some) t.behind) t.within in
      let a = done_parts events p.0 tail p.2 in
      let b = done_parts a.behind (all_done some) t.behind (sym a.tail_is) in
      let same : some ≡ b.first = done_same some b.first b.front_is in
      let more : List Entry = all_done a.first ++ became some in (
        more,
        record {
          front = a.first;
          first = t.event;
          others = t.events;
          behind = b.behind;
          is = a.is ∙ ap (λ (l : List Event). a.first ++ l) (b.is ∙ ap (λ (l : List Event). l ++ b.behind) (sym same)) ∙ sym (append_assoc a.first some b.behind);
          few = omega (arith, soon.1, ap length b.tail_is, length-map b.behind (λ (e : Event). Done e));
          added = refl;
        },
        subst (λ (l : List Entry). settled meanings o l now)
            (ap (λ (l : List Entry). l ++ became some) (p.1 ∙ ap (λ (l : List Entry). h ++ l) a.front_is) ∙ append_assoc h (all_done a.first) (became some)) t.stands,
      )

  -- the last one was left idle
  pub left_last : (o : O) (h : List Entry) (events : List Event) (last : Event) (fault : SwitchFault) (now : W) → BreaksLast meanings o h events last fault now
      → (more : List Entry) × LeavesLast events last fault more × settled meanings o (h ++ more) now
  left_last o h events last fault now b = (
    all_done b.front ++ Idle last fault ∷ [],
    record { front = b.front; is = b.is; added = refl },
    subst (λ (l : List Entry). settled meanings o l now) (append_assoc h (all_done b.front) (Idle last fault ∷ [])) b.stands,
  )

  -- it broke off at a fault, with nothing gathered any more
  broke_off : (o : O) (h : List Entry) (c : ℕ) (events : List Event) (fault : SwitchFault) (now : W) → BreaksFed meanings o (length h) h c events fault now
      → (more : List Entry) × AddsAtFault c events fault more × settled meanings o (h ++ more) now
  broke_off o h c events DiskFault now b = turned_together o h events (λ es. Doubt es ∷ []) now b
  broke_off o h c events SayFault now b = turned_together o h events all_unsaid now b
  broke_off o h c events (Stopped by) now b = let l = left_last o h events b.0 (Stopped by) now b.1 in (l.0, (b.0, l.1), l.2)
  broke_off o h c events Spent now b = absurd b
  broke_off o h c events other now b = let l = left_last o h events (event.Lost c b.0) other now b.1 in (l.0, (b.0, l.1), l.2)

  -- what was gathered stands, and then settling failed
  fails : (o : O) (h : List Entry) (c : ℕ) (events : List Event) (fault : SwitchFault) (old new : W) → Stands meanings o (length h) (h ++ all_done events) old → IsSettling meanings (Err fault) old new
      → (more : List Entry) × AddsAtFault c events fault more × settled meanings o (h ++ more) new
  fails o h c events fault old new s settling = go fault (settling.settles o s.front s.events s.gathers)
    where
      parts : h ++ all_done events ≡ (h ++ all_done events) ++ []
      parts = sym (append-nil (h ++ all_done events))

      few : length {A = Entry} [] ≤ 1
      few = omega arith

      go : (f : SwitchFault) → AfterSettling meanings o s.front s.events (Err f) new → (more : List Entry) × AddsAtFault c events f more × settled meanings o (h ++ more) new
      go DiskFault a = turned_together o h events (λ es. Doubt es ∷ []) new (doubt_soon meanings o (length h) h (h ++ all_done events) [] events old new s parts few a)
      go SayFault a = turned_together o h events all_unsaid new (short_soon meanings o (length h) h (h ++ all_done events) [] events old new s parts few a)
      go _ a = absurd a

  -- ---- what a feed gathered

  -- nothing was
  pub settles_none : (end : FeedEnd) (now : W) → is_done end ≡ false → SettlesFed meanings end end now now
  settles_none end now none = record {
    adds = λ o h c events message goes. go end none o h c events message goes;
    ends = λ before taken e. e;
    all = λ e. e;
    wanting = λ kind fault e. e;
  }
    where
      go : (end : FeedEnd) → is_done end ≡ false → (o : O) (h : List Entry) (c : ℕ) (events : List Event) (message : List ℕ) → GoesFed meanings o (length h) h c events message end now
          → (more : List Entry) × AddsFed c events message end more × settled meanings o (h ++ more) now
      go All none o h c events message goes = absurd (cc none)
      go (Lost field) none o h c events message goes = absurd (cc none)
      go (Wanting kind fault) none o h c events message goes = let l = left_last o h events (event.Heard c kind message) fault now goes.0 in (l.0, (l.1, goes.1), l.2)
      go (Fault fault) none o h c events message goes = broke_off o h c events fault now goes

  -- all was settled
  pub settles_done : (end : FeedEnd) (old new : W) → is_done end ≡ true → IsSettling meanings (Ok tt) old new → SettlesFed meanings end end old new
  settles_done end old new done settling = record {
    adds = λ o h c events message goes. go end done o h c events message goes;
    ends = λ before taken e. e;
    all = λ e. e;
    wanting = λ kind fault e. e;
  }
    where
      go : (end : FeedEnd) → is_done end ≡ true → (o : O) (h : List Entry) (c : ℕ) (events : List Event) (message : List ℕ) → GoesFed meanings o (length h) h c events message end old
          → (more : List Entry) × AddsFed c events message end more × settled meanings o (h ++ more) new
      go All done o h c events message goes = (all_done events, refl, settles_all meanings o (length h) (h ++ all_done events) old new tt goes settling)
      go (Lost field) done o h c events message goes = (all_done events, (refl, goes.1), settles_all meanings o (length h) (h ++ all_done events) old new tt goes.0 settling)
      go _ done o h c events message goes = absurd (cc done)

  -- settling failed
  pub settles_failed : (end : FeedEnd) (fault : SwitchFault) (old new : W) → is_done end ≡ true → IsSettling meanings (Err fault) old new → SettlesFed meanings end (Fault fault) old new
  settles_failed end fault old new done settling = record {
    adds = λ o h c events message goes. fails o h c events fault old new (stood end done o h c events message goes) settling;
    ends = λ before taken e. tt;
    all = λ e. absurd (cc e);
    wanting = λ kind f e. absurd (cc e);
  }
    where
      stood : (end : FeedEnd) → is_done end ≡ true → (o : O) (h : List Entry) (c : ℕ) (events : List Event) (message : List ℕ) → GoesFed meanings o (length h) h c events message end old
          → Stands meanings o (length h) (h ++ all_done events) old
      stood All done o h c events message goes = goes
      stood (Lost field) done o h c events message goes = goes.0
      stood _ done o h c events message goes = absurd (cc done)
