-- What a run of the day's capture comes to, from how it ended.
use Rattle.gts_generate.proofs.Cited.{◌≡◌, ℕ, ◌≤◌, List, [], ◌∷◌, ◌++◌, length, Option, Some, None, Ok, IsTrue, refl, sym, ap, subst, ◌∙◌, arith, replicate, AllByRecursion, BeginsDay, Compact, Connections, Device, Did, Disk, Done, Doubt, Drain, EachOwedFew, EachRoutedOnce, EndHead, Ends, EndsDay, Engine, Entry, Event, Feed, Files, HasFailed, HasRead, HasSaid, Holds, IsCut, IsDone, IsFullOn, IsOrdered, IsStart, IsWhole, Journaled, Keeps, Need, Needs, ObservedOrigin, One, Outside, Reading, Reopen, ReplayEnd, Restart, Restarted, Say, SayMode, StandsFor, State, Station, StationInMemory, Step, StopsAtFault, Syncs, Take, Two, Unsaid, Version, after_all, after_step, all_done, begun, calls_on, capture, compacted_at, compactions, day_origin, day_summary, directory, draws_in, draws_of, empty, entries, entries_from, entries_of_step, events_added, file_opens, files_open, full, head_text, history, is_sound, journal_text, need, need_of, new_journal, no_bytes, nothing, opened_of, opens, origin_behind, origin_of, outside_of, readable, restarted, said_by, seen, settled, shown, slice_index_or, start, state_after, state_at, step_text, steps, summary_lines, summary_text, switch_meanings, takes_of_drain, used_at, reads_once, whole_is_read, common_steps}
use Rattle.gts_generate.specs.Cited.{flat_map}
use Rattle.gts_directory.specs.Directory as directories
use Rattle.gts_memory.specs.contracts.station.MemStationStation.TheImpl as in_memory
use Rattle.gts_event.specs.declared.values.Need as values
use Rattle.gts_event.specs.declared.fault.SwitchFault.TheVariants as switch
use Rattle.gts_replay.specs.declared.end.ReplayEnd.TheVariants as end
use Rattle.gts_generate.proofs.LawLemmas.{read-as-steps, never-compacts}

-- ---- the capture is read as its steps

-- it has no other reading
one-reading : (count : ℕ) → count ≤ 100000 → (ss : List Step) (at : ℕ) → Reading directory (capture count) ss at → ss ≡ steps count
one-reading count few ss at read =
    let whole = whole_is_read Journaled directory (capture count) (steps count) (read-as-steps count few) in
    (reads_once Journaled directory (readable (capture count)) ss (steps count) at (length (capture count)) (omega arith) read whole).0

-- ---- each entry of the day is done

abbrev WasDone : Entry → Type 0
WasDone (Done event) = Unit {0}
WasDone Restarted = Unit {0}
WasDone _ = ⊥

abbrev AllDone : List Entry → Type 0
AllDone es = AllByRecursion WasDone es

both-done : (xs ys : List Entry) → AllDone xs → AllDone ys → AllDone (xs ++ ys)
both-done [] ys a b = b
both-done (x ∷ xs) ys a b = (a.0, both-done xs ys a.1 b)

events-done : (events : List Event) → AllDone (all_done events)
events-done [] = tt
events-done (e ∷ es) = (tt, events-done es)

step-done : (s : State) (bs : Connections) (step : Step) → AllDone (entries_of_step s bs step)
step-done s bs (Feed c bytes) = events-done (events_added c (slice_index_or bs c []) bytes)
step-done s bs (Take c) = (tt, tt)
step-done s bs (Drain c) = events-done (takes_of_drain s c)
step-done s bs Restart = (tt, tt)
step-done s bs _ = tt

steps-done : (d : directories.Directory) (s : State) (bs : Connections) (ss : List Step) → AllDone (entries_from d s bs ss)
steps-done d s bs [] = tt
steps-done d s bs (step ∷ ss) =
    grind (arith, common_steps, both-done, step-done, steps-done d (after_all d s (entries_of_step s bs step)) (after_step d bs step) ss)

done-at : (front : List Entry) (e : Entry) (back : List Entry) → AllDone (front ++ e ∷ back) → WasDone e
done-at [] e back all = all.0
done-at (x ∷ front) e back all = done-at front e back all.1

-- so nothing has failed
goes-on : (stopped : Option Device) (es : List Entry) → AllDone es → HasFailed stopped es → stopped ≡ None
goes-on None es all failed = refl
goes-on (Some Disk) es all failed = absurd (done-at failed.0 (Doubt failed.1) failed.2 (subst AllDone failed.3 all))
goes-on (Some Say) es all failed = absurd (done-at failed.0 (Unsaid failed.1) failed.2 (subst AllDone failed.3 all))

-- ---- an empty journal

new-file : (v : Version) → opened_of (file_opens v directory 0 (journal_text v (replicate 32 0) [])) ≡ Ok (empty directory, 41)
new-file One = refl
new-file Two = refl

-- its files open to nothing
pub new-files : (files : Files) → files 0 ≡ new_journal (replicate 32 0) → files 2 ≡ [] → files_open directory files ≡ Ok (empty directory, 41)
new-files files first third = grind (arith, common_steps, new-file)

nothing-is : need directory (restarted directory (empty directory)) ≡ nothing directory
nothing-is = refl

pub new-need : (files : Files) → files_open directory files ≡ Ok (empty directory, 41) → opens directory files ≡ Ok (nothing directory)
new-need files is = grind (arith, common_steps, nothing-is)

pub used-there : (files : Files) (s : State) (used : ℕ) → files_open directory files ≡ Ok (empty directory, 41) → files_open directory files ≡ Ok (s, used) → used ≡ 41
used-there files s used one other = let same : (s, used) ≡ (empty directory, 41) = cc in ap (λ (x : State × ℕ). x.1) same

-- ---- the switch before the day

-- an engine that was opened over an empty journal begins the day
pub begun-day : (d : directories.Directory) (mark : List ℕ) (old : StationInMemory) (e : Engine StationInMemory) → d ≡ directory → mark ≡ d.mark
    → seen (calls_on old) 0 ≡ new_journal mark → seen (calls_on old) 2 ≡ [] → said_by (calls_on old) ≡ []
    → e.directory ≡ d → HasRead d (seen (calls_on old)) e → calls_on e.station ≡ Did Syncs ∷ calls_on old
    → ((m : SayMode) (n : Need) → Holds d e.core (begun n) → Keeps (Unit {0}) m (origin_of calls_on e n) [] (shown calls_on e))
    → ((n : Need) → opens d (seen (calls_on old)) ≡ Ok n → IsTrue (is_sound d n) × Holds d e.core (begun n))
    → ((x : directories.Directory) (n : Need) → IsTrue (is_sound x n) → IsOrdered x (begun n))
    → ((x : directories.Directory) (n : Need) → IsTrue (is_sound x n) → EachRoutedOnce (begun n))
    → ((x : directories.Directory) (n : Need) → IsTrue (is_sound x n) → EachOwedFew (begun n)) → BeginsDay e
begun-day d mark old e same mark_is first third silent under reads synced begins sound ordered once few =
    let files : Files = seen (calls_on old) in
    let n : Need = nothing directory in
    let zero : files 0 ≡ new_journal (replicate 32 0) = first ∙ ap (λ (m : List ℕ). new_journal m) (mark_is ∙ ap (λ (x : directories.Directory). x.mark) same) in
    let opened = new-files files zero third in
    let here : HasRead directory files e = subst (λ (x : directories.Directory). HasRead x files e) same reads in
    let used : e.used ≡ 41 = used-there files here.state e.used opened here.opened in
    let sure : IsTrue (is_sound directory n) × Holds directory e.core (begun n)
    = subst (λ (x : directories.Directory). (m : Need) → opens x files ≡ Ok m → IsTrue (is_sound x m) × Holds x e.core (begun m)) same sound n (new-need files opened) in
    let keeps : Keeps (Unit {0}) Station (origin_of calls_on e n) [] (shown calls_on e)
    = subst (λ (x : directories.Directory). Holds x e.core (begun n) → Keeps (Unit {0}) Station (origin_of calls_on e n) [] (shown calls_on e)) same (begins Station n) sure.1 in
    let K : directories.Directory → ℕ → Type 0
    = λ x u. Keeps (Unit {0}) Station (record { directory = x; start = n; used = u; calls = calls_on e.station; compactions = [] }) [] (shown calls_on e) in
    record {
      under = under ∙ same;
      silent = ap said_by synced ∙ silent;
      begins = record { keeps = sure.1.keeps; ordered = ordered directory n sure.0; once = once directory n sure.0; few = few directory n sure.0 };
      stands = subst (λ (u : ℕ). K directory u) used (subst (λ (x : directories.Directory). K x e.used) (under ∙ same) keeps);
    }

-- ---- how the run ended

module _ (count : ℕ) (first last : Engine StationInMemory) (b : BeginsDay first) (few : count ≤ 100000) where
  abbrev o : ObservedOrigin (Unit {0})
  o = record { told = tt; origin = day_origin (calls_on first.station) }

  -- the entries of the steps that were read are those of the day
  entries-are : (ss : List Step) → ss ≡ steps count → entries first.directory start ss ≡ history count
  entries-are ss same = ap (λ (d : directories.Directory). entries d start ss) b.under ∙ ap (λ (x : List Step). entries directory start x) same

  -- none of them compacts the journal
  counts-are : (ss : List Step) → ss ≡ steps count → compactions first.directory start 0 ss ≡ []
  counts-are ss same = ap (λ (x : List Step). compactions first.directory start 0 x) same ∙ never-compacts first.directory start 0 count

  read-here : (ss : List Step) (at : ℕ) → Reading first.directory (capture count) ss at → ss ≡ steps count
  read-here ss at read = one-reading count few ss at (subst (λ (d : directories.Directory). Reading d (capture count) ss at) b.under read)

  pub day-done : IsDone (switch_meanings in_memory.ghosts) Journaled o [] (Unit {0}) first last (capture count) → EndsDay count last
  day-done x =
      let whole : IsWhole directory (capture count) x.steps = subst (λ (d : directories.Directory). IsWhole d (capture count) x.steps) b.under (x.whole tt) in
      let read = whole_is_read Journaled directory (capture count) x.steps whole in
      let same : x.steps ≡ steps count = one-reading count few x.steps (length (flat_map step_text x.steps ++ head_text EndHead)) read in
      let keeps : Keeps (Unit {0}) Station (day_origin (calls_on first.station)) (history count) (shown calls_on last)
      = subst (λ (es : List Entry). Keeps (Unit {0}) Station (day_origin (calls_on first.station)) es (shown calls_on last)) (entries-are x.steps same)
      (subst (λ (ks : List ℕ). settled (switch_meanings in_memory.ghosts) (compacted_at (switch_meanings in_memory.ghosts) o (entries first.directory start x.steps) ks)
      (entries first.directory start x.steps) last) (counts-are x.steps same) x.stands) in
      let going : last.stopped ≡ None = goes-on last.stopped (history count) (steps-done directory start (no_bytes directory) (steps count)) keeps.failed in
      let said = subst (λ (stopped : Option Device). HasSaid Station (day_origin (calls_on first.station)) (history count) stopped (calls_on last.station)) going (keeps.leaves tt).said in
      record {
        going = going;
        core = keeps.core going;
        used = keeps.used going;
        said = said ∙ ap (λ (l : Outside). l ++ outside_of count) b.silent;
      }

  pub day-full : (used wanted limit : ℕ) → StopsAtFault (switch_meanings in_memory.ghosts) Journaled o [] (Unit {0}) (switch.Full used wanted limit) first last (capture count)
      → IsFullOn count used wanted limit
  day-full used wanted limit x =
      let read = x.read tt in
      let same : x.steps ≡ steps count = read-here x.steps read.0 read.1 in
      record {
        front = x.breaks.front;
        event = x.breaks.event;
        back = x.breaks.behind;
        parts = sym (entries-are x.steps same) ∙ x.breaks.parts;
        full = subst (λ (ks : List ℕ). let p = origin_behind (switch_meanings in_memory.ghosts) o ks x.breaks.front in
            full p.origin.directory (state_at p.origin x.breaks.front) (used_at p.origin x.breaks.front) x.breaks.event ≡ Some (switch.Full used wanted limit))
            (counts-are x.steps same) x.breaks.cause;
      }

  pub day-whole : (at : ℕ) → IsCut (switch_meanings in_memory.ghosts) Journaled o [] (Unit {0}) at first last (capture count) → ⊥
  day-whole at x =
      x.none tt (steps count) (subst (λ (d : directories.Directory). IsWhole d (capture count) (steps count)) (sym b.under) (read-as-steps count few))

  stands-for : StandsFor (switch_meanings in_memory.ghosts) o 0 [] first
  stands-for = record {
    start = subst (λ (d : directories.Directory). IsStart d start) (sym b.under) b.begins;
    stands = record { front = []; events = []; is = refl; within = omega arith; gathers = b.stands };
  }

  module _ (e : ReplayEnd) (bytes left : List ℕ) (is : bytes ≡ capture count)
      (ends : (t : ObservedOrigin (Unit {0})) (h : List Entry) → StandsFor (switch_meanings in_memory.ghosts) t (length h) h first
      → Ends (switch_meanings in_memory.ghosts) (Unit {0}) Journaled t h (Unit {0}) e first last bytes left) where
    all : Ends (switch_meanings in_memory.ghosts) (Unit {0}) Journaled o [] (Unit {0}) e first last (capture count) left
    all = subst (λ (bs : List ℕ). Ends (switch_meanings in_memory.ghosts) (Unit {0}) Journaled o [] (Unit {0}) e first last bs left) is (ends o [] stands-for)

    pub run-done : e ≡ end.Done → EndsDay count last
    run-done at_end = day-done (all.done at_end)

    pub run-full : (used wanted limit : ℕ) → e ≡ end.Fault (switch.Full used wanted limit) → IsFullOn count used wanted limit
    run-full used wanted limit full = day-full used wanted limit (all.fault (switch.Full used wanted limit) full)

    pub run-whole : (at : ℕ) → e ≡ end.Capture at → ⊥
    run-whole at cut = day-whole at (all.capture at cut)

-- ---- what is summed up of it

pub draws-are : (n : values.Need) → draws_of n ≡ draws_in (need_of n)
draws-are n = grind (arith, common_steps)

-- the summary is that of the day's history
pub summed : (count : ℕ) (e : Engine StationInMemory) (station : StationInMemory) (n : values.Need) (used : ℕ) → EndsDay count e
    → Needs e.core (need_of n) → used ≡ e.used → station ≡ e.station → summary_text count (said_by (calls_on station)) n used ≡ day_summary count
summed count e station n used ends needs used_is station_is =
    let behind : Need = need directory (state_after (history count)) in
    let need_is : need_of n ≡ behind = needs directory (state_after (history count)) ends.core in
    ap (λ (o : Outside). summary_lines count o n.accepted (draws_of n) used) (ap (λ (s : StationInMemory). said_by (calls_on s)) station_is ∙ ends.said)
    ∙ ap (λ (k : ℕ). summary_lines count (outside_of count) k (draws_of n) used) (ap (λ (x : Need). x.accepted) need_is)
    ∙ ap (λ (k : ℕ). summary_lines count (outside_of count) behind.accepted k used) (draws-are n ∙ ap draws_in need_is)
    ∙ ap (λ (k : ℕ). summary_lines count (outside_of count) behind.accepted (draws_in behind) k) (used_is ∙ ends.used)
