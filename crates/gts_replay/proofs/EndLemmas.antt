-- How a run ends.
use Rattle.gts_replay.proofs.Cited.{◌≡◌, ℕ, ◌+◌, ◌*◌, ◌-◌, ◌^◌, ◌≤◌, ◌⊎◌, inl, inr, List, [], ◌∷◌, ◌++◌, length, Result, Ok, Err, refl, sym, ap, subst, ◌∙◌, arith, length-append, Bad, BreaksAtCompaction, BreaksOff, CaptureKind, Compact, Connections, Decoding, Directory, DoesStep, Done, EndHead, Ends, EndsEarlyOf, Entry, Feed, FeedHead, HasDone, Head, Held, IsBadAt, IsCut, IsDone, IsHeadOf, IsLasting, IsReadTo, IsSameCapture, IsSettling, IsStepOf, IsWholeOf, Journaled, LONGEST_CAPTURE, LacksMemory, LosesSource, OpenFault, ReadsHead, ReplayEnd, Restart, SettlesBehind, SettlesFirst, SettlesTo, SourceFault, Standing, StandsFor, Step, StepFault, StoppedBefore, StopsAtCompaction, StopsAtFault, StopsAtRestart, StopsInHead, SwitchFault, TakesNoMore, bytes_of_step, connections_after, dec, end_of, entries_at, flat_map, head_text, no_bytes, origin_at, outcome_at, readable, readable_from, settled_end, state_at, step_text, reads, whole_is_read, early_is_none, common_steps}
use Rattle.gts_replay.specs.Cited.{head_of}
use Rattle.gts_replay.specs.declared.head.Head.{Head as ProgramHead}
use Rattle.gts_event.specs.declared.fault.SwitchFault.TheVariants as switch
use Rattle.gts_record.specs.declared.fault.OpenFault.TheVariants as opening
use Rattle.gts_replay.proofs.LawLemmas.{at_end, at_bad, taken_head}
use Rattle.gts_replay.specs.declared.end.ReplayEnd.TheVariants as end
use Rattle.gts_replay.specs.declared.fault.StepFault.TheVariants as step
use Rattle.gts_replay.proofs.GoingLemmas.{settled_all, settles_all}
use Rattle.gts_replay.proofs.SureLemmas.{AllSure, sure_from, sure_front, stopped_before, uncompacted_before}
use Rattle.gts_replay.proofs.RunLemmas.{Runs, Gathered, runs_settled, head_here, stands_on, gathered_more, origin_done}
use Rattle.gts_replay.proofs.FollowLemmas.{Continues, continues_alone, continues_read, Follows, follows, TakesPart, part_taken, part_stopped, cut_in, lost_in}
use Rattle.gts_replay.proofs.BreakingLemmas.{settling_stops, step_breaks, step_restart}

-- ---- an end, by its answer

module _ {O W : Type 0} (meanings : Standing O W) (station : Type 0) (kind : CaptureKind) (o : O) (h : List Entry) (observed : Type 0) (old new : W) (bytes left : List ℕ) where
  abbrev EndsAs : ReplayEnd → Type 0
  EndsAs end.Done = IsDone meanings kind o h observed old new bytes
  EndsAs (end.Capture at) = IsCut meanings kind o h observed at old new bytes
  EndsAs end.SourceFault = LosesSource meanings kind o h observed old new bytes left
  EndsAs (end.Reopen fault) = StopsAtRestart meanings station kind o h observed fault old new bytes
  EndsAs (end.Compaction fault) = StopsAtCompaction meanings kind o h observed fault old new bytes
  EndsAs (end.Fault fault) = StopsAtFault meanings kind o h observed fault old new bytes
  EndsAs end.NoMemory = LacksMemory meanings station kind o h observed old new bytes

  ends_as : (result : ReplayEnd) → EndsAs result → Ends meanings station kind o h observed result old new bytes left
  ends_as result so = grind (arith, common_steps)

-- before the first step
pub ends_unmade : {O W : Type 0} (meanings : Standing O W) (station : Type 0) (kind : CaptureKind) (o : O) (h : List Entry) (observed : Type 0) (now : W) (bytes left : List ℕ)
    → StandsFor meanings o (length h) h now → Ends meanings station kind o h observed end.NoMemory now now bytes left
ends_unmade meanings station kind o h observed now bytes left start =
    let r = reads kind (meanings.directory now) (readable bytes) in
    ends_as meanings station kind o h observed now now bytes left end.NoMemory record {
      steps = r.0;
      read = λ t. (r.1, r.2);
      stands = inl record { same = refl; stands = settled_all meanings o h now start.stands };
    }

-- ---- more steps than can be

two_bytes : (h : Head) → 2 ≤ length (head_text h)
unfolding dec
two_bytes (FeedHead c n) = omega arith
two_bytes h = omega arith

pub two_each : (steps : List Step) → 2 * length steps ≤ length (flat_map step_text steps)
two_each [] = omega arith
two_each (s ∷ steps) =
    let more = two_each steps in
    omega (arith, more, two_bytes (head_of s), length-append (step_text s) (flat_map step_text steps), length-append (head_text (head_of s)) (bytes_of_step s))

module _ {O W : Type 0} (meanings : Standing O W) (kind : CaptureKind) (station observed : Type 0) (bytes : List ℕ) (begun : W) where
  abbrev d : Directory
  d = meanings.directory begun

  -- ---- an end, once it was settled

  -- what was gathered of these steps was settled, or that failed
  settled_ends : (o : O) (h : List Entry) (steps : List Step) (now : W) (g : Gathered meanings begun o h steps now) → Continues kind d observed bytes steps
      → (e result : ReplayEnd) (later : W) (left : List ℕ) → (HasDone meanings o h steps begun later → Ends meanings station kind o h observed e begun later bytes left)
      → SettlesTo meanings e result now later → Ends meanings station kind o h observed result begun later bytes left
  settled_ends o h steps now g c e result later left ends t = subst (λ (r : ReplayEnd). Ends meanings station kind o h observed r begun later bytes left) (sym t.is) (go t.answer t.settling)
    where
      go : (answer : Result (Unit {0}) SwitchFault) → IsSettling meanings answer now later → Ends meanings station kind o h observed (settled_end e answer) begun later bytes left
      go (Ok u) settling = ends (settles_all meanings (origin_done meanings begun o h steps) g.first (h ++ entries_at meanings begun o h steps) now later u g.stands settling)
      go (Err fault) settling = ends_as meanings station kind o h observed begun later bytes left (end.Fault fault) (settling_stops meanings begun now o h steps g kind observed bytes fault later c settling)

  -- an end with nothing to settle
  rests : (o : O) (h : List Entry) (e result : ReplayEnd) (now later : W) (left : List ℕ) → Ends meanings station kind o h observed e begun now bytes left → (result ≡ e) × (later ≡ now)
      → Ends meanings station kind o h observed result begun later bytes left
  rests o h e result now later left ends same = grind (arith, common_steps)

  -- ---- at a head

  module _ (steps : List Step) (old : Held) (before : List ℕ) (ds : List Decoding) (now : W) (runs : Runs meanings kind observed bytes begun steps old before ds now) where
    pub ends_done : (new : Held) (after left : List ℕ) → (observed → old.ahead ++ before ≡ head_text EndHead ++ (new.ahead ++ after)) → old.at + length (head_text EndHead) ≤ LONGEST_CAPTURE
        → (result : ReplayEnd) (later : W) → SettlesBehind meanings end.Done result now later
        → (o : O) (h : List Entry) → StandsFor meanings o (length h) h begun → Ends meanings station kind o h observed result begun later bytes left
    ends_done new after left told within result later settles o h start =
        let R : List ℕ → Type 0 = λ xs. IsReadTo kind d bytes steps old xs in
        let whole : (observed → IsWholeOf kind d bytes steps) = λ t. at_end kind d bytes (new.ahead ++ after) steps old (subst R (told t) (runs.read t)) within in
        settled_ends o h steps now (runs.stands o h start) (continues_alone kind d observed bytes steps (λ t. (length (flat_map step_text steps ++ head_text EndHead), whole_is_read kind d bytes steps (whole t)))) end.Done result later left
        (λ stands. ends_as meanings station kind o h observed begun later bytes left end.Done record { steps = steps; are = runs.are; whole = whole; stands = stands }) settles

    pub ends_bad : (left : List ℕ) (at : ℕ) → length d.circuits ≤ 100 → (observed → IsBadAt old (readable_from old.at (old.ahead ++ before)) at)
        → (result : ReplayEnd) (later : W) → SettlesBehind meanings (end.Capture at) result now later
        → (o : O) (h : List Entry) → StandsFor meanings o (length h) h begun → Ends meanings station kind o h observed result begun later bytes left
    ends_bad left at few bad result later settles o h start =
        let early : (observed → EndsEarlyOf kind d bytes steps at) = λ t. at_bad kind d bytes (old.ahead ++ before) steps old at (runs.read t) (bad t) in
        settled_ends o h steps now (runs.stands o h start) (continues_alone kind d observed bytes steps (λ t. (at, (early t).0))) (end.Capture at) result later left
        (λ stands. ends_as meanings station kind o h observed begun later bytes left (end.Capture at)
        record { steps = steps; early = early; none = λ t others w. early_is_none kind d bytes steps others at few (early t) w; stands = stands }) settles

    pub ends_source : (new : Held) (after : List ℕ) → IsSameCapture old new → (observed → StopsInHead old new before after)
        → (result : ReplayEnd) (later : W) → SettlesBehind meanings end.SourceFault result now later
        → (o : O) (h : List Entry) → StandsFor meanings o (length h) h begun → Ends meanings station kind o h observed result begun later bytes after
    ends_source new after same stops result later settles o h start =
        settled_ends o h steps now (runs.stands o h start) (continues_read kind d observed bytes steps old (old.ahead ++ before) runs.read) end.SourceFault result later after
        (λ stands. ends_as meanings station kind o h observed begun later bytes after end.SourceFault record {
          steps = steps;
          taken = λ t. taken_head kind d bytes before after steps old new (runs.read t) same (stops t);
          stands = stands;
        }) settles

    -- what was gathered could not be settled, before the source was to be read
    pub ends_unsettled : (left : List ℕ) (fault : SwitchFault) (later : W) → IsSettling meanings (Err fault) now later
        → (result : ReplayEnd) (last : W) → SettlesBehind meanings (end_of (step.Switch fault)) result later last
        → (o : O) (h : List Entry) → StandsFor meanings o (length h) h begun → Ends meanings station kind o h observed result begun last bytes left
    ends_unsettled left fault later settling result last settles o h start = go fault settling settles
      where
        g : Gathered meanings begun o h steps now
        g = runs.stands o h start

        stops : (f : SwitchFault) → IsSettling meanings (Err f) now later → StopsAtFault meanings kind o h observed f begun later bytes
        stops f s = settling_stops meanings begun now o h steps g kind observed bytes f later (continues_read kind d observed bytes steps old (old.ahead ++ before) runs.read) s

        go : (f : SwitchFault) → IsSettling meanings (Err f) now later → SettlesBehind meanings (end_of (step.Switch f)) result later last → Ends meanings station kind o h observed result begun last bytes left
        go switch.NoMemory s settles = absurd (s.settles (origin_done meanings begun o h steps) g.stands.front g.stands.events g.stands.gathers)
        go f s settles = rests o h (end.Fault f) result later last left (ends_as meanings station kind o h observed begun later bytes left (end.Fault f) (stops f s)) settles

    pub ends_never : (left : List ℕ) (at : ℕ) → 2 ^ 64 - 1 ≤ length steps
        → (result : ReplayEnd) (later : W) → SettlesBehind meanings (end.Capture at) result now later
        → (o : O) (h : List Entry) → StandsFor meanings o (length h) h begun → Ends meanings station kind o h observed result begun later bytes left
    ends_never left at many result later settles o h start =
        let never : (observed → ⊥) = λ t.
        let r = runs.read t in
        omega (arith, many, two_each steps, r.place, r.within) in
        settled_ends o h steps now (runs.stands o h start) (continues_alone kind d observed bytes steps (λ t. absurd (never t))) (end.Capture at) result later left
        (λ stands. ends_as meanings station kind o h observed begun later bytes left (end.Capture at) record { steps = steps; early = λ t. absurd (never t); none = λ t. absurd (never t); stands = stands }) settles

  -- The next head wasn't read: what was gathered could not be settled, or it was, and then the bytes were bad or the source failed.
  pub ends_unread : (steps : List Step) (old : Held) (before : List ℕ) (ds : List Decoding) (now : W) → Runs meanings kind observed bytes begun steps old before ds now
      → (new : Held) (after : List ℕ) (fault : StepFault) (later : W) → length d.circuits ≤ 100 → IsSameCapture old new
      → (observed → (at : ℕ) → fault ≡ step.Capture (Bad at) → IsBadAt old (readable_from old.at (old.ahead ++ before)) at)
      → (observed → fault ≡ step.Capture SourceFault → StopsInHead old new before after)
      → SettlesFirst {T = ProgramHead} meanings (Err fault) now later
      → (result : ReplayEnd) (last : W) → SettlesBehind meanings (end_of fault) result later last
      → (o : O) (h : List Entry) → StandsFor meanings o (length h) h begun → Ends meanings station kind o h observed result begun last bytes after
  ends_unread steps old before ds now runs new after (step.Capture (Bad at)) later few same bad stops settling result last settles o h start =
      ends_bad steps old before ds later (runs_settled meanings kind observed bytes begun steps old before ds now later runs settling) after at few (λ t. bad t at refl) result last settles o h start
  ends_unread steps old before ds now runs new after (step.Capture SourceFault) later few same bad stops settling result last settles o h start =
      ends_source steps old before ds later (runs_settled meanings kind observed bytes begun steps old before ds now later runs settling) new after same (λ t. stops t refl) result last settles o h start
  ends_unread steps old before ds now runs new after (step.Switch fault) later few same bad stops settling result last settles o h start =
      ends_unsettled steps old before ds now runs after fault later settling result last settles o h start
  ends_unread steps old before ds now runs new after (step.Reopen fault) later few same bad stops settling result last settles o h start = absurd settling
  ends_unread steps old before ds now runs new after (step.Compaction fault) later few same bad stops settling result last settles o h start = absurd settling

-- ---- in a step

-- the head of a step of the journal
journal_head : (head : Head) (step : Step) → IsStepOf head step → (step ≡ Restart) ⊎ (step ≡ Compact) → head ≡ head_of step
journal_head (FeedHead c n) step of (inl e) = absurd (let f : Feed c of.0 ≡ Restart = sym of.1 ∙ e in cc)
journal_head (FeedHead c n) step of (inr e) = absurd (let f : Feed c of.0 ≡ Compact = sym of.1 ∙ e in cc)
journal_head head step of e = sym of

-- of the entries of steps those before a fault are done
earlier_by : {O W : Type 0} (meanings : Standing O W) (at : List Entry → O) (first : ℕ) (h more : List Entry) (fault : SwitchFault) (now : W) → AllSure more → BreaksOff meanings at first h more fault now → StoppedBefore h fault
earlier_by meanings at first h more (switch.Stopped by) now sure b =
    stopped_before (meanings.is_full (at (h ++ b.front)) (h ++ b.front) b.event) h b.front (outcome_at meanings now (at (h ++ b.front)) (h ++ b.front) b.event) (switch.Stopped by)
    (sure_front b.front (Done b.event ∷ b.behind) (subst AllSure b.parts sure)) b.cause
earlier_by meanings at first h more fault now sure b = tt

pub ends_step : {O W : Type 0} (meanings : Standing O W) (kind : CaptureKind) (station observed : Type 0) (bytes : List ℕ) (begun : W) (steps : List Step) (old mid new : Held) (before left after : List ℕ)
    (ds ds_now : List Decoding) (now later : W) (head : Head) (fault : StepFault) → length (meanings.directory begun).circuits ≤ 100
    → Runs meanings kind observed bytes begun steps old before ds now → meanings.directory now ≡ meanings.directory begun → ReadsHead observed head old mid before left
    → DoesStep meanings station observed head (Err fault) mid new left after ds ds_now now later
    → (result : ReplayEnd) (last : W) → SettlesBehind meanings (end_of fault) result later last
    → (o : O) (h : List Entry) → StandsFor meanings o (length h) h begun → Ends meanings station kind o h observed result begun last bytes after
ends_step {O} {W} meanings kind station observed bytes begun steps old mid new before left after ds ds_now now later head fault few runs same reads does result last settles o h start = go fault does settles
  where
    d : Directory
    d = meanings.directory begun

    valid : IsHeadOf kind d head
    valid = head_here kind d old.circuits head old.kind runs.circuits runs.of_kind reads.valid

    es : List Entry
    es = entries_at meanings begun o h steps

    p : O
    p = origin_done meanings begun o h steps

    bs : Connections
    bs = connections_after d (no_bytes d) steps

    g : Gathered meanings begun o h steps now
    g = runs.stands o h start

    on : StandsFor meanings p g.first (h ++ es) now
    on = stands_on meanings begun now o h steps same (runs.begins o h) start g

    Does : StepFault → Type 0
    Does f = DoesStep meanings station observed head (Err f) mid new left after ds ds_now now later

    whole : (e : ReplayEnd) → EndsAs meanings station kind o h observed begun later bytes after e → (result ≡ e) × (last ≡ later) → Ends meanings station kind o h observed result begun last bytes after
    whole e so is = rests meanings kind station observed bytes begun o h e result later last after (ends_as meanings station kind o h observed begun later bytes after e so) is

    follow_of : (f : StepFault) (w : Does f) → TakesPart observed (bytes_of_step w.step) mid left → Follows kind d observed bytes steps w.step
    follow_of f w taken = follows kind d observed bytes steps w.step old mid before left head runs.read reads valid w.of_head taken

    no_more : (f : StepFault) (w : Does f) → TakesNoMore observed (bytes_of_step w.step) mid left → Follows kind d observed bytes steps w.step
    no_more f w taken = follow_of f w (part_taken observed (bytes_of_step w.step) mid left taken)

    breaks : (f : SwitchFault) (w : Does (step.Switch f)) (follow : Follows kind d observed bytes steps w.step)
        → BreaksOff meanings (origin_at meanings o h follow.goes.all begun) (length h) h (entries_at meanings begun o h follow.goes.all) f later
    breaks f w follow = step_breaks meanings begun now o h steps g kind observed bytes w.step same (runs.begins o h) follow f later (w.went bs p g.first (h ++ es) runs.decode on)

    uncompacts : (f : SwitchFault) (w : Does (step.Compaction f)) (follow : Follows kind d observed bytes steps w.step) → BreaksAtCompaction meanings o h follow.goes.all f begun later
    uncompacts f w follow =
        let u = w.went bs p g.first (h ++ es) runs.decode on in
        record {
          before = steps;
          rest = follow.rest;
          parts = follow.parts ∙ ap (λ (s : Step). steps ++ s ∷ follow.rest) (follow.compacts u.at_step ∙ u.at_step);
          remains = u.remains;
          cause = u.cause;
        }

    stops : (f : SwitchFault) → IsLasting f → (w : Does (step.Switch f)) → StopsAtFault meanings kind o h observed f begun later bytes
    stops f lasting w =
        let follow = no_more (step.Switch f) w w.taken in
        let b = breaks f w follow in
        record {
          steps = follow.goes.all;
          read = follow.goes.read;
          breaks = b;
          lasting = lasting;
          earlier = earlier_by meanings (origin_at meanings o h follow.goes.all begun) (length h) h (entries_at meanings begun o h follow.goes.all) f later
              (sure_from d (state_at meanings begun o h) (no_bytes d) follow.goes.all) b;
        }

    journaled : (s : Step) → IsStepOf head s → (s ≡ Restart) ⊎ (s ≡ Compact) → kind ≡ Journaled
    journaled s of (inl e) = subst (λ (k : Head). IsHeadOf kind d k) (journal_head head s of (inl e) ∙ ap head_of e) valid
    journaled s of (inr e) = subst (λ (k : Head). IsHeadOf kind d k) (journal_head head s of (inr e) ∙ ap head_of e) valid

    unopened : (f : OpenFault) → (f ≡ opening.NoMemory → ⊥) → (w : Does (step.Reopen f)) → StopsAtRestart meanings station kind o h observed f begun later bytes
    unopened f memory w =
        let follow = no_more (step.Reopen f) w w.taken in
        let r = w.went bs p g.first (h ++ es) runs.decode on in
        record {
          steps = follow.goes.all;
          read = follow.goes.read;
          breaks = step_restart meanings begun now o h steps g kind observed bytes w.step same (runs.begins o h) follow station f later r.1;
          of_kind = journaled w.step w.of_head (inl r.0);
          memory = memory;
        }

    uncompacted : (f : SwitchFault) → IsLasting f → (w : Does (step.Compaction f)) → StopsAtCompaction meanings kind o h observed f begun later bytes
    uncompacted f lasting w =
        let follow = no_more (step.Compaction f) w w.taken in
        let u = w.went bs p g.first (h ++ es) runs.decode on in
        let sure : AllSure es = sure_from d (state_at meanings begun o h) (no_bytes d) steps in
        record {
          steps = follow.goes.all;
          read = follow.goes.read;
          breaks = uncompacts f w follow;
          of_kind = journaled w.step w.of_head (inr u.at_step);
          lasting = lasting;
          earlier = uncompacted_before (meanings.is_full_compacted p (h ++ es)) h es f sure u.cause;
        }

    go : (f : StepFault) → Does f → SettlesBehind meanings (end_of f) result later last → Ends meanings station kind o h observed result begun last bytes after
    go (step.Capture (Bad at)) w settles =
        let early : (observed → EndsEarlyOf kind d bytes (steps ++ w.step ∷ []) at) = λ t. cut_in kind d bytes steps old mid before left at observed head w.step t (runs.read t) reads valid w.of_head w.taken in
        settled_ends meanings kind station observed bytes begun o h (steps ++ w.step ∷ []) later
        (gathered_more meanings begun now later o h steps w.step same (runs.begins o h) g (w.went bs p g.first (h ++ es) runs.decode on))
        (continues_alone kind d observed bytes (steps ++ w.step ∷ []) (λ t. (at, (early t).0))) (end.Capture at) result last after
        (λ stands. ends_as meanings station kind o h observed begun last bytes after (end.Capture at) record {
          steps = steps ++ w.step ∷ [];
          early = early;
          none = λ t others k. early_is_none kind d bytes (steps ++ w.step ∷ []) others at few (early t) k;
          stands = stands;
        }) settles
    go (step.Capture SourceFault) w settles =
        settled_ends meanings kind station observed bytes begun o h (steps ++ w.step ∷ []) later
        (gathered_more meanings begun now later o h steps w.step same (runs.begins o h) g (w.went bs p g.first (h ++ es) runs.decode on))
        (follow_of (step.Capture SourceFault) w (part_stopped observed (bytes_of_step w.step) mid left after w.taken)).goes end.SourceFault result last after
        (λ stands. ends_as meanings station kind o h observed begun last bytes after end.SourceFault record {
          steps = steps ++ w.step ∷ [];
          taken = λ t. lost_in kind d bytes steps old mid before left after observed head w.step t (runs.read t) reads valid w.of_head w.taken;
          stands = stands;
        }) settles
    go (step.Reopen opening.NoMemory) w settles =
        let follow = no_more (step.Reopen opening.NoMemory) w w.taken in
        let r = w.went bs p g.first (h ++ es) runs.decode on in
        whole end.NoMemory record {
          steps = follow.goes.all;
          read = follow.goes.read;
          stands = inr (inl (step_restart meanings begun now o h steps g kind observed bytes w.step same (runs.begins o h) follow station opening.NoMemory later r.1));
        } settles
    go (step.Reopen f) w settles = whole (end.Reopen f) (unopened f (λ e. cc) w) settles
    go (step.Switch switch.Spent) w settles = absurd (breaks switch.Spent w (no_more (step.Switch switch.Spent) w w.taken)).cause
    go (step.Switch switch.NoMemory) w settles =
        let follow = no_more (step.Switch switch.NoMemory) w w.taken in
        whole end.NoMemory record { steps = follow.goes.all; read = follow.goes.read; stands = inr (inr (inr (breaks switch.NoMemory w follow))) } settles
    go (step.Switch f) w settles = whole (end.Fault f) (stops f tt w) settles
    go (step.Compaction switch.SayFault) w settles = absurd (w.went bs p g.first (h ++ es) runs.decode on).cause
    go (step.Compaction switch.Spent) w settles = absurd (w.went bs p g.first (h ++ es) runs.decode on).cause
    go (step.Compaction switch.NoMemory) w settles =
        let follow = no_more (step.Compaction switch.NoMemory) w w.taken in
        whole end.NoMemory record { steps = follow.goes.all; read = follow.goes.read; stands = inr (inr (inl (uncompacts switch.NoMemory w follow))) } settles
    go (step.Compaction f) w settles = whole (end.Compaction f) (uncompacted f tt w) settles
