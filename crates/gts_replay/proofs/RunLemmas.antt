-- Steps of a capture, one after another.
use Rattle.gts_replay.proofs.Cited.{◌≡◌, ℕ, ◌+◌, ◌≤◌, List, [], ◌∷◌, ◌++◌, length, Ok, inl, inr, sym, ap, subst, ◌∙◌, arith, append_assoc, length-append, append-nil, AreStepsOf, CaptureKind, Compact, Connections, Decode, Decoding, Directory, DoesStep, Entry, FeedHead, Head, Held, IsHeadIn, IsHeadOf, IsReadTo, IsStepOf, MayHaveSettled, ReadsHead, Standing, Stands, StandsFor, Step, Takes, after_step, at_start, bytes_announced, bytes_of_step, compacted_at, compactions_at, connections_after, count_at, entries_at, entries_of_step, first_after, head_text, no_bytes, origin_after, state_at, step_text, after_all-append, entries_go_on, connections_go_on, common_steps}
use Rattle.gts_replay.specs.Cited.{head_of}
use Rattle.gts_replay.proofs.LawLemmas.{begins, one_step}
use Rattle.gts_replay.proofs.GoingLemmas.{stands_same, stands_settled, settles_all, within_all}
use Rattle.gts_replay.proofs.OriginLemmas.{AllWithin, wider, within_append, counts_more, origin_more}

-- the origin behind steps that were done
abbrev pub origin_done : {O W : Type 0} → Standing O W → W → O → List Entry → List Step → O
origin_done meanings begun o h steps = compacted_at meanings o (h ++ entries_at meanings begun o h steps) (compactions_at meanings begun o h steps)

-- The switch stands for the entries of these steps. Of them the last may be gathered, but none of the first so many, and no compaction
-- came behind these.
pub record Gathered {O W : Type 0} (meanings : Standing O W) (begun : W) (o : O) (h : List Entry) (steps : List Step) (now : W) : Type 0 where
  pub first : ℕ
  pub least : length h ≤ first
  pub each : AllWithin first (compactions_at meanings begun o h steps)
  pub stands : Stands meanings (origin_done meanings begun o h steps) first (h ++ entries_at meanings begun o h steps) now

-- These steps were done: the switch stands for their entries, the decoders have what came on their connections, and the reader
-- stands behind them.
pub record Runs {O W : Type 0} (meanings : Standing O W) (kind : CaptureKind) (observed : Type 0) (bytes : List ℕ) (begun : W) (steps : List Step) (held : Held) (left : List ℕ) (ds : List Decoding) (now : W) : Type 0 where
  pub circuits : held.circuits ≡ length (meanings.directory begun).circuits
  pub of_kind : held.kind ≡ kind
  pub taken : held.feed ≡ 0
  pub are : AreStepsOf kind (meanings.directory begun) steps
  pub read : observed → IsReadTo kind (meanings.directory begun) bytes steps held (held.ahead ++ left)
  pub decode : Decode ds (connections_after (meanings.directory begun) (no_bytes (meanings.directory begun)) steps)
  pub stands : (o : O) (h : List Entry) → StandsFor meanings o (length h) h begun → Gathered meanings begun o h steps now
  pub begins : (o : O) (h : List Entry) → meanings.begin (origin_done meanings begun o h steps) ≡ meanings.begin o

pub runs_none : {O W : Type 0} (meanings : Standing O W) (kind : CaptureKind) (observed : Type 0) (bytes : List ℕ) (begun : W) (held : Held) (ds : List Decoding)
    → held ≡ at_start (length (meanings.directory begun).circuits) kind → Decode ds (no_bytes (meanings.directory begun)) → Runs meanings kind observed bytes begun [] held bytes ds begun
runs_none meanings kind observed bytes begun held ds is decode = grind (arith, common_steps, begins, stands_same, append-nil)

-- what the steps gathered was settled
pub runs_settled : {O W : Type 0} (meanings : Standing O W) (kind : CaptureKind) (observed : Type 0) (bytes : List ℕ) (begun : W) (steps : List Step) (held : Held) (left : List ℕ) (ds : List Decoding) (now later : W)
    → Runs meanings kind observed bytes begun steps held left ds now → MayHaveSettled meanings now later → Runs meanings kind observed bytes begun steps held left ds later
runs_settled meanings kind observed bytes begun steps held left ds now later runs (inl is) = subst (λ w. Runs meanings kind observed bytes begun steps held left ds w) (sym is) runs
runs_settled meanings kind observed bytes begun steps held left ds now later runs (inr settling) = record {
  circuits = runs.circuits;
  of_kind = runs.of_kind;
  taken = runs.taken;
  are = runs.are;
  read = runs.read;
  decode = runs.decode;
  stands = λ o h start.
      let g = runs.stands o h start in
      let p = origin_done meanings begun o h steps in
      let x : List Entry = h ++ entries_at meanings begun o h steps in
      record {
        first = g.first;
        least = g.least;
        each = g.each;
        stands = stands_settled meanings p g.first x later (within_all meanings p g.first x now g.stands) (settles_all meanings p g.first x now later tt g.stands settling);
      };
  begins = runs.begins;
}

-- ---- heads

pub head_here : (kind : CaptureKind) (d : Directory) (circuits : ℕ) (h : Head) (k : CaptureKind) → circuits ≡ length d.circuits → k ≡ kind → IsHeadIn circuits k h → IsHeadOf kind d h
head_here kind d circuits h k e f w = subst (λ (x : CaptureKind). IsHeadIn (length d.circuits) x h) f (subst (λ (n : ℕ). IsHeadIn n k h) e w)

-- a step that was done is that of its head
step_whole : (head : Head) (step : Step) → IsStepOf head step → length (bytes_of_step step) ≡ bytes_announced head → head_of step ≡ head
step_whole (FeedHead c n) step of size = ap head_of of.1 ∙ ap (FeedHead c) (ap (λ (s : Step). length (bytes_of_step s)) (sym of.1) ∙ size)
step_whole head step of size = of

are_more : (kind : CaptureKind) (d : Directory) (steps : List Step) (step : Step) → AreStepsOf kind d steps → IsHeadOf kind d (head_of step) → AreStepsOf kind d (steps ++ step ∷ [])
are_more kind d [] step are valid = (valid, tt)
are_more kind d (s ∷ steps) step are valid = (are.0, are_more kind d steps step are.1 valid)

-- ---- entries

-- the entries of one step more
pub entries_more : {O W : Type 0} (meanings : Standing O W) (begun now : W) (o : O) (h : List Entry) (steps : List Step) (step : Step) → meanings.directory now ≡ meanings.directory begun
    → entries_at meanings begun o h (steps ++ step ∷ [])
    ≡ entries_at meanings begun o h steps ++ entries_of_step (state_at meanings now o (h ++ entries_at meanings begun o h steps)) (connections_after (meanings.directory begun) (no_bytes (meanings.directory begun)) steps) step
entries_more meanings begun now o h steps step same = grind (arith, common_steps, after_all-append, entries_go_on, append-nil)

-- the switch stands for the entries of the steps so far
pub stands_on : {O W : Type 0} (meanings : Standing O W) (begun now : W) (o : O) (h : List Entry) (steps : List Step) → meanings.directory now ≡ meanings.directory begun
    → meanings.begin (origin_done meanings begun o h steps) ≡ meanings.begin o → StandsFor meanings o (length h) h begun → (g : Gathered meanings begun o h steps now)
    → StandsFor meanings (origin_done meanings begun o h steps) g.first (h ++ entries_at meanings begun o h steps) now
stands_on meanings begun now o h steps same begin start g = grind (arith, common_steps)

-- the entries that a step adds since the origin behind the steps so far
pub added_by : {O W : Type 0} (meanings : Standing O W) (begun now : W) (o : O) (h : List Entry) (steps : List Step) (step : Step) → meanings.directory now ≡ meanings.directory begun
    → meanings.begin (origin_done meanings begun o h steps) ≡ meanings.begin o
    → entries_at meanings begun o h (steps ++ step ∷ [])
    ≡ entries_at meanings begun o h steps
    ++ entries_of_step (state_at meanings now (origin_done meanings begun o h steps) (h ++ entries_at meanings begun o h steps)) (connections_after (meanings.directory begun) (no_bytes (meanings.directory begun)) steps) step
added_by meanings begun now o h steps step same begin = grind (arith, common_steps, entries_more)

-- as many as before are certainly settled behind a step
least_after : (first : ℕ) (x : List Entry) (step : Step) → first ≤ length x → first ≤ first_after first x step
least_after first x Compact within = within
least_after first x step within = omega arith

count_within : (first : ℕ) (x : List Entry) (step : Step) → AllWithin (first_after first x step) (count_at (length x) step)
count_within first x Compact = (omega arith, tt)
count_within first x step = tt

-- the entries of one step more
pub gathered_more : {O W : Type 0} (meanings : Standing O W) (begun now later : W) (o : O) (h : List Entry) (steps : List Step) (step : Step) → meanings.directory now ≡ meanings.directory begun
    → meanings.begin (origin_done meanings begun o h steps) ≡ meanings.begin o → (g : Gathered meanings begun o h steps now)
    → (let p : O = origin_done meanings begun o h steps in let x : List Entry = h ++ entries_at meanings begun o h steps in
    Stands meanings (origin_after meanings p x step) (first_after g.first x step)
    (x ++ entries_of_step (state_at meanings now p x) (connections_after (meanings.directory begun) (no_bytes (meanings.directory begun)) steps) step) later)
    → Gathered meanings begun o h (steps ++ step ∷ []) later
gathered_more {O} {W} meanings begun now later o h steps step same begin g stands =
    let es : List Entry = entries_at meanings begun o h steps in
    let x : List Entry = h ++ es in
    let p : O = origin_done meanings begun o h steps in
    let added : List Entry = entries_of_step (state_at meanings now p x) (connections_after (meanings.directory begun) (no_bytes (meanings.directory begun)) steps) step in
    let all : List Entry = h ++ entries_at meanings begun o h (steps ++ step ∷ []) in
    let first : ℕ = first_after g.first x step in
    let least : g.first ≤ first = least_after g.first x step (within_all meanings p g.first x now g.stands) in
    let is : all ≡ x ++ added = ap (λ (xs : List Entry). h ++ xs) (added_by meanings begun now o h steps step same begin) ∙ sym (append_assoc h es added) in
    let there : Stands meanings (origin_after meanings p x step) first all later = stands_same meanings (origin_after meanings p x step) first (x ++ added) all later (sym is) stands in
    record {
      first = first;
      least = omega (arith, least, g.least);
      each = subst (λ (ks : List ℕ). AllWithin first ks) (sym (counts_more meanings begun o h steps step))
          (within_append first (compactions_at meanings begun o h steps) (count_at (length x) step) (wider g.first first (compactions_at meanings begun o h steps) least g.each) (count_within g.first x step));
      stands = subst (λ (q : O). Stands meanings q first all later) (sym (origin_more meanings begun o h steps step added is)) there;
    }

-- one step more was done
pub runs_more : {O W : Type 0} (meanings : Standing O W) (kind : CaptureKind) (station observed : Type 0) (bytes : List ℕ) (begun : W) (steps : List Step) (old mid new : Held) (before left after : List ℕ)
    (ds ds_now : List Decoding) (now later : W) (head : Head) → Runs meanings kind observed bytes begun steps old before ds now → meanings.directory now ≡ meanings.directory begun
    → ReadsHead observed head old mid before left → (does : DoesStep meanings station observed head (Ok tt) mid new left after ds ds_now now later)
    → Runs meanings kind observed bytes begun (steps ++ does.step ∷ []) new after ds_now later
runs_more meanings kind station observed bytes begun steps old mid new before left after ds ds_now now later head runs same reads does =
    let d : Directory = meanings.directory begun in
    let step : Step = does.step in
    let bs : Connections = connections_after d (no_bytes d) steps in
    let x : List ℕ = bytes_of_step step in
    let taken : Takes observed x mid new left after = does.taken.0 in
    let none : new.feed ≡ 0 = does.taken.1 in
    let size : length x ≡ bytes_announced head = omega (arith, taken.feed, none, reads.feed) in
    let whole : head_of step ≡ head = step_whole head step does.of_head size in
    let place : new.at ≡ mid.at + length x = taken.at in
    let valid : IsHeadIn old.circuits old.kind (head_of step) = subst (λ (k : Head). IsHeadIn old.circuits old.kind k) (sym whole) reads.valid in
    let long : length (step_text step) ≡ length (head_text head) + length x = length-append (head_text (head_of step)) x ∙ ap (λ (k : Head). length (head_text k) + length x) whole in
    record {
      circuits = taken.same.circuits ∙ reads.same.circuits ∙ runs.circuits;
      of_kind = taken.same.kind ∙ reads.same.kind ∙ runs.of_kind;
      taken = none;
      are = are_more kind d steps step runs.are (head_here kind d old.circuits (head_of step) old.kind runs.circuits runs.of_kind valid);
      read = λ t.
          let text : old.ahead ++ before ≡ step_text step ++ (new.ahead ++ after) =
          reads.told t ∙ ap (λ (xs : List ℕ). head_text head ++ xs) (taken.told t) ∙ sym (append_assoc (head_text head) x (new.ahead ++ after))
          ∙ ap (λ (k : Head). head_text k ++ x ++ (new.ahead ++ after)) (sym whole) in
          one_step kind d bytes (old.ahead ++ before) (new.ahead ++ after) steps step old new (runs.read t) valid text
          record { circuits = taken.same.circuits ∙ reads.same.circuits; kind = taken.same.kind ∙ reads.same.kind } (omega (arith, place, reads.at, long)) (taken.within reads.within);
      decode = subst (λ cs. Decode ds_now cs) (ap (λ (e : Directory). after_step e bs step) same ∙ sym (connections_go_on d steps (step ∷ []))) (does.decode bs runs.decode);
      stands = λ o h start.
          let g = runs.stands o h start in
          let x : List Entry = h ++ entries_at meanings begun o h steps in
          gathered_more meanings begun now later o h steps step same (runs.begins o h) g
          (does.went bs (origin_done meanings begun o h steps) g.first x runs.decode (stands_on meanings begun now o h steps same (runs.begins o h) start g));
      begins = λ o h.
          let es : List Entry = entries_at meanings begun o h steps in
          let p = origin_done meanings begun o h steps in
          let added : List Entry = entries_of_step (state_at meanings now p (h ++ es)) bs step in
          let is : h ++ entries_at meanings begun o h (steps ++ step ∷ []) ≡ (h ++ es) ++ added =
          ap (λ (xs : List Entry). h ++ xs) (added_by meanings begun now o h steps step same (runs.begins o h)) ∙ sym (append_assoc h es added) in
          ap (λ q. meanings.begin q) (origin_more meanings begun o h steps step added is) ∙ does.begins p (h ++ es) ∙ runs.begins o h;
    }
