-- A run broke off within a step, or when it was settled.
use Rattle.gts_replay.proofs.Cited.{◌≡◌, ℕ, ◌+◌, ◌<◌, ◌≤◌, List, [], ◌∷◌, ◌++◌, length, Err, sym, ap, subst, ◌∙◌, arith, append_assoc, length-append, append-nil, AfterSettling, BreaksAtRestart, BreaksIdle, BreaksOff, BreaksTogether, CaptureKind, Compact, Connections, Directory, DiskFault, Done, Doubt, Entry, Event, Idle, IsCause, IsLasting, IsSettling, NoMemory, OpenFault, SayFault, Spent, Standing, State, Step, Stopped, StoppedBefore, StopsAtFault, SwitchFault, all_done, all_unsaid, compactions_at, connections_after, count_at, entries_at, entries_of_step, no_bytes, origin_at, outcome_at, settled, state_at, common_steps}
use Rattle.gts_replay.proofs.GoingLemmas.{within_all, settles_not}
use Rattle.gts_replay.proofs.OriginLemmas.{AllBehind, wider, behind_append, origin_is, counts_within, counts_more}
use Rattle.gts_replay.proofs.RunLemmas.{Gathered, origin_done, added_by}
use Rattle.gts_replay.proofs.FollowLemmas.{AllFrom, Continues, Follows}

-- ---- where the switch stands since, behind a part of what was to be added

module _ {O W : Type 0} (meanings : Standing O W) (o p : O) (at : List Entry → O) (first : ℕ) (h es added rest : List Entry) (least : length h ≤ first) (inside : first ≤ length (h ++ es))
    (stays : (front tail : List Entry) → (h ++ es) ++ added ≡ front ++ tail → first ≤ length front → length front < length ((h ++ es) ++ added) → at front ≡ p) where
  -- behind a part of the last entries
  here : (front : List Entry) (entry : Entry) (behind : List Entry) → added ≡ front ++ entry ∷ behind → at (h ++ (es ++ front)) ≡ p
  here front entry behind parts = grind (arith, common_steps, stays, inside)

  parts_within : (front : List Entry) (entry : Entry) (behind : List Entry) → added ≡ front ++ entry ∷ behind → (es ++ added) ++ rest ≡ (es ++ front) ++ entry ∷ (behind ++ rest)
  parts_within front entry behind parts = grind (arith, common_steps)

  pub breaks_within : (fault : SwitchFault) (now : W) → BreaksOff meanings (λ _. p) first (h ++ es) added fault now → BreaksOff meanings at (length h) h ((es ++ added) ++ rest) fault now
  breaks_within fault now b = go fault b
    where
      both : (became : List Event → List Entry) → BreaksTogether meanings (λ _. p) first (h ++ es) added became now → BreaksTogether meanings at (length h) h ((es ++ added) ++ rest) became now
      both became t =
          let some : List Entry = all_done (t.event ∷ t.events) in
          let parts : (h ++ es) ++ added ≡ t.front ++ (some ++ t.behind) = t.parts ∙ append_assoc t.front some t.behind in
          let there : at t.front ≡ p = stays t.front (some ++ t.behind) parts t.within (omega (arith, ap length parts, length-append t.front (some ++ t.behind), length-append some t.behind)) in
          record {
            front = t.front;
            event = t.event;
            events = t.events;
            behind = t.behind ++ rest;
            parts = sym (append_assoc h (es ++ added) rest) ∙ ap (λ (x : List Entry). x ++ rest) (sym (append_assoc h es added) ∙ t.parts) ∙ append_assoc (t.front ++ some) t.behind rest;
            within = omega (arith, least, t.within);
            few = t.few;
            stands = subst (λ (q : O). settled meanings q (t.front ++ became (t.event ∷ t.events)) now) (sym there) t.stands;
          }

      idle : (f : SwitchFault) → BreaksIdle meanings (λ _. p) (h ++ es) added f now → BreaksIdle meanings at h ((es ++ added) ++ rest) f now
      idle f t =
          let same : (h ++ es) ++ t.front ≡ h ++ (es ++ t.front) = append_assoc h es t.front in
          let there : at (h ++ (es ++ t.front)) ≡ p = here t.front (Done t.event) t.behind t.parts in
          let S : O → List Entry → Type 0 = λ q x. settled meanings q (x ++ Idle t.event f ∷ []) now in
          let C : O → List Entry → Type 0 = λ q x. IsCause (meanings.is_full q x t.event) x (outcome_at meanings now q x t.event) f in
          record {
            front = es ++ t.front;
            event = t.event;
            behind = t.behind ++ rest;
            parts = parts_within t.front (Done t.event) t.behind t.parts;
            stands = subst (λ q. S q (h ++ (es ++ t.front))) (sym there) (subst (S p) same t.stands);
            cause = subst (λ q. C q (h ++ (es ++ t.front))) (sym there) (subst (C p) same t.cause);
          }

      go : (f : SwitchFault) → BreaksOff meanings (λ _. p) first (h ++ es) added f now → BreaksOff meanings at (length h) h ((es ++ added) ++ rest) f now
      go DiskFault t = both (λ events. Doubt events ∷ []) t
      go SayFault t = both all_unsaid t
      go f t = idle f t

  pub restart_within : (station : Type 0) (fault : OpenFault) (now : W) → BreaksAtRestart meanings station (λ _. p) (h ++ es) added fault now
      → BreaksAtRestart meanings station at h ((es ++ added) ++ rest) fault now
  restart_within station fault now b = grind (arith, common_steps, b, at, here, parts_within)

behind_all : (m n : ℕ) (xs : List ℕ) → n < m → AllFrom m xs → AllBehind n xs
behind_all m n [] lt each = tt
behind_all m n (x ∷ xs) lt each = (omega (arith, lt, each.0), behind_all m n xs lt each.1)

-- a compaction comes behind whatever is shorter than the entries behind which it is done
behind_count : (s : State) (bs : Connections) (m n : ℕ) (step : Step) → n < m + length (entries_of_step s bs step) → AllBehind n (count_at m step)
behind_count s bs m n Compact less = (omega (arith, less), tt)
behind_count s bs m n step less = tt

module _ {O W : Type 0} (meanings : Standing O W) (begun now : W) (o : O) (h : List Entry) (steps : List Step) (g : Gathered meanings begun o h steps now) where
  abbrev es : List Entry
  es = entries_at meanings begun o h steps

  abbrev ks : List ℕ
  ks = compactions_at meanings begun o h steps

  abbrev p : O
  p = origin_done meanings begun o h steps

  abbrev d : Directory
  d = meanings.directory begun

  pub inside : g.first ≤ length (h ++ es)
  inside = within_all meanings p g.first (h ++ es) now g.stands

  -- behind a front of what there is, the compactions so far were done, and no other
  stays_at : (added front tail : List Entry) (all : List Step) (later : List ℕ) → compactions_at meanings begun o h all ≡ ks ++ later → AllBehind (length front) later → (h ++ es) ++ added ≡ front ++ tail
      → g.first ≤ length front → origin_at meanings o h all begun front ≡ p
  stays_at added front tail all later counts none parts far = grind (arith, common_steps, origin_is, counts_within, wider)

  -- ---- when all steps are done

  -- settling failed
  pub settling_stops : (kind : CaptureKind) (observed : Type 0) (bytes : List ℕ) (fault : SwitchFault) (later : W) → Continues kind d observed bytes steps → IsSettling meanings (Err fault) now later
      → StopsAtFault meanings kind o h observed fault begun later bytes
  settling_stops kind observed bytes fault later c settling = record {
    steps = c.all;
    read = c.read;
    breaks = subst (λ (xs : List Entry). BreaksOff meanings at (length h) h xs fault later) (ap (λ (xs : List Entry). xs ++ b.0) (append-nil es) ∙ sym b.1)
        (breaks_within meanings o p at g.first h es [] b.0 g.least inside stays fault later (settles_not meanings p g.first (h ++ es) [] now later fault g.stands settling));
    lasting = lasting fault after;
    earlier = earlier fault after;
  }
    where
      at : List Entry → O
      at = origin_at meanings o h c.all begun

      b : (more : List Entry) × (entries_at meanings begun o h c.all ≡ es ++ more)
      b = c.behind (state_at meanings begun o h)

      after : AfterSettling meanings p g.stands.front g.stands.events (Err fault) later
      after = settling.settles p g.stands.front g.stands.events g.stands.gathers

      stays : (front tail : List Entry) → (h ++ es) ++ [] ≡ front ++ tail → g.first ≤ length front → length front < length ((h ++ es) ++ []) → at front ≡ p
      stays front tail parts far less =
          let counts = c.counts (state_at meanings begun o h) (length h) in
          stays_at [] front tail c.all counts.0 counts.1
          (behind_all (length h + length es) (length front) counts.0 (omega (arith, less, length-append (h ++ es) [], length-append h es)) counts.2) parts far

      lasting : (f : SwitchFault) → AfterSettling meanings p g.stands.front g.stands.events (Err f) later → IsLasting f
      lasting Spent a = absurd a
      lasting NoMemory a = absurd a
      lasting f a = tt

      earlier : (f : SwitchFault) → AfterSettling meanings p g.stands.front g.stands.events (Err f) later → StoppedBefore h f
      earlier (Stopped by) a = absurd a
      earlier Spent a = absurd a
      earlier NoMemory a = absurd a
      earlier f a = tt

  -- ---- in a step

  module _ (kind : CaptureKind) (observed : Type 0) (bytes : List ℕ) (step : Step) (same : meanings.directory now ≡ meanings.directory begun) (begin : meanings.begin p ≡ meanings.begin o)
      (follow : Follows kind d observed bytes steps step) where
    abbrev added : List Entry
    added = entries_of_step (state_at meanings now p (h ++ es)) (connections_after d (no_bytes d) steps) step

    abbrev all_steps : List Step
    all_steps = follow.goes.all

    more : entries_at meanings begun o h (steps ++ step ∷ []) ≡ es ++ added
    more = added_by meanings begun now o h steps step same begin

    whole : (rest : List Entry) × (entries_at meanings begun o h all_steps ≡ (es ++ added) ++ rest)
    whole =
        let b = follow.goes.behind (state_at meanings begun o h) in
        (b.0, b.1 ∙ ap (λ (xs : List Entry). xs ++ b.0) more)

    stays_in : (front tail : List Entry) → (h ++ es) ++ added ≡ front ++ tail → g.first ≤ length front → length front < length ((h ++ es) ++ added) → origin_at meanings o h all_steps begun front ≡ p
    stays_in front tail parts far less =
        let c = follow.goes.counts (state_at meanings begun o h) (length h) in
        let one : List ℕ = count_at (length (h ++ es)) step in
        let counts : compactions_at meanings begun o h all_steps ≡ ks ++ (one ++ c.0) =
        c.1 ∙ ap (λ (xs : List ℕ). xs ++ c.0) (counts_more meanings begun o h steps step) ∙ append_assoc ks one c.0 in
        let none : AllBehind (length front) (one ++ c.0) =
        behind_append (length front) one c.0
        (behind_count (state_at meanings now p (h ++ es)) (connections_after d (no_bytes d) steps) (length (h ++ es)) (length front) step (omega (arith, less, length-append (h ++ es) added)))
        (behind_all (length h + length (entries_at meanings begun o h (steps ++ step ∷ []))) (length front) c.0
        (omega (arith, less, length-append (h ++ es) added, length-append h es, ap length more, length-append es added)) c.2) in
        stays_at added front tail all_steps (one ++ c.0) counts none parts far

    pub step_breaks : (fault : SwitchFault) (later : W) → BreaksOff meanings (λ _. p) g.first (h ++ es) added fault later
        → BreaksOff meanings (origin_at meanings o h all_steps begun) (length h) h (entries_at meanings begun o h all_steps) fault later
    step_breaks fault later b =
        subst (λ (xs : List Entry). BreaksOff meanings (origin_at meanings o h all_steps begun) (length h) h xs fault later) (sym whole.1)
        (breaks_within meanings o p (origin_at meanings o h all_steps begun) g.first h es added whole.0 g.least inside stays_in fault later b)

    pub step_restart : (station : Type 0) (fault : OpenFault) (later : W) → BreaksAtRestart meanings station (λ _. p) (h ++ es) added fault later
        → BreaksAtRestart meanings station (origin_at meanings o h all_steps begun) h (entries_at meanings begun o h all_steps) fault later
    step_restart station fault later b =
        subst (λ (xs : List Entry). BreaksAtRestart meanings station (origin_at meanings o h all_steps begun) h xs fault later) (sym whole.1)
        (restart_within meanings o p (origin_at meanings o h all_steps begun) g.first h es added whole.0 g.least inside stays_in station fault later b)
