-- The steps of a capture, as far as some of them were done.
use Rattle.gts_replay.proofs.Cited.{◌≡◌, ℕ, ◌+◌, ◌<◌, ◌≤◌, List, [], ◌∷◌, ◌++◌, length, get_or, refl, sym, ap, subst, ◌∙◌, arith, append_assoc, length-append, AllByRecursion, CaptureKind, Compact, Connections, Directory, EndsBehind, EndsEarlyOf, Entry, Feed, FeedHead, Head, Held, IsHeadIn, IsHeadOf, IsInFeed, IsReadTo, IsStepOf, IsTaken, LONGEST_CAPTURE, ReadingOf, ReadsHead, State, Step, StopsBehind, TakesNoMore, after_all, all_done, bytes_announced, bytes_of_step, compactions, compactions_from, connections_after, entries, entries_from, events_added, head_text, no_bytes, readable_from, step_text, with_bytes, append-nil, nil_from_length, entries_go_on, compactions_go_on, compactions_between}
use Rattle.gts_replay.specs.Cited.{head_of}
use Rattle.gts_replay.proofs.LawLemmas.{one_step, in_feed, head_goes_on, feed_goes_on, taken_feed}
use Rattle.gts_replay.proofs.FeedingLemmas.{done_twice}

-- ---- what of the capture was read

-- the bytes end in a step: it is a feed
pub cut_in : (kind : CaptureKind) (d : Directory) (bytes : List ℕ) (steps : List Step) (old mid : Held) (before left : List ℕ) (at : ℕ) (observed : Type 0) (head : Head) (step : Step) → observed
    → IsReadTo kind d bytes steps old (old.ahead ++ before) → ReadsHead observed head old mid before left → IsHeadOf kind d head → IsStepOf head step → EndsBehind observed (bytes_of_step step) at mid left
    → EndsEarlyOf kind d bytes (steps ++ step ∷ []) at
cut_in kind d bytes steps old mid before left at observed (FeedHead c n) step t read reads valid of ends =
    let x : List ℕ = of.0 in
    let feed : step ≡ Feed c x = of.1 in
    let same : bytes_of_step step ≡ x = ap bytes_of_step feed in
    let text : List ℕ = head_text (FeedHead c n) ++ x in
    let all : old.ahead ++ before ≡ text ++ ends.rest =
    reads.told t ∙ ap (λ (xs : List ℕ). head_text (FeedHead c n) ++ xs) (ends.told t ∙ ap (λ (xs : List ℕ). xs ++ ends.rest) same) ∙ sym (append_assoc (head_text (FeedHead c n)) x ends.rest) in
    let short : length x < n = let s = ends.short t in omega (arith, s, ap length same, reads.feed) in
    let here : old.at + length text ≡ mid.at + length (bytes_of_step step) = omega (arith, reads.at, ap length same, length-append (head_text (FeedHead c n)) x) in
    let f : IsInFeed kind d bytes steps old c n x ends.rest =
    record { read = subst (λ (xs : List ℕ). IsReadTo kind d bytes steps old xs) all read; head = valid; most = omega (arith, short); within = let w = ends.within reads.within in omega (arith, w, here) } in
    let found = in_feed kind d bytes x ends.rest steps old c n f short (ap (λ (k : ℕ). readable_from k ends.rest) here ∙ ends.nothing t) in
    let S : Step → Type 0 = λ s. EndsEarlyOf kind d bytes (steps ++ s ∷ []) at in
    let K : ℕ → Type 0 = λ k. EndsEarlyOf kind d bytes (steps ++ Feed c x ∷ []) k in
    subst S (sym feed) (subst K (here ∙ sym (ends.place t)) found)
cut_in kind d bytes steps old mid before left at observed head step t read reads valid of ends = absurd (let s = ends.short t in omega (arith, s, reads.feed))

-- the source fails in a step: it is a feed
pub lost_in : (kind : CaptureKind) (d : Directory) (bytes : List ℕ) (steps : List Step) (old mid : Held) (before left after : List ℕ) (observed : Type 0) (head : Head) (step : Step) → observed
    → IsReadTo kind d bytes steps old (old.ahead ++ before) → ReadsHead observed head old mid before left → IsHeadOf kind d head → IsStepOf head step → StopsBehind observed (bytes_of_step step) mid left after
    → IsTaken kind d bytes (steps ++ step ∷ []) after
lost_in kind d bytes steps old mid before left after observed (FeedHead c n) step t read reads valid of stops =
    let x : List ℕ = of.0 in
    let feed : step ≡ Feed c x = of.1 in
    let same : bytes_of_step step ≡ x = ap bytes_of_step feed in
    let all : old.ahead ++ before ≡ head_text (FeedHead c n) ++ x ++ after =
    reads.told t ∙ ap (λ (xs : List ℕ). head_text (FeedHead c n) ++ xs) (stops.told t ∙ ap (λ (xs : List ℕ). xs ++ after) same) ∙ sym (append_assoc (head_text (FeedHead c n)) x after) in
    let short : length x < n = let s = stops.short t in omega (arith, s, ap length same, reads.feed) in
    let here : old.at + length (head_text (FeedHead c n) ++ x) ≡ mid.at + length (bytes_of_step step) = omega (arith, reads.at, ap length same, length-append (head_text (FeedHead c n)) x) in
    let f : IsInFeed kind d bytes steps old c n x after =
    record { read = subst (λ (xs : List ℕ). IsReadTo kind d bytes steps old xs) all read; head = valid; most = omega (arith, short); within = let w = stops.within reads.within in omega (arith, w, here) } in
    let found = taken_feed kind d bytes x after steps old c n f short in
    subst (λ (s : Step). IsTaken kind d bytes (steps ++ s ∷ []) after) (sym feed) found
lost_in kind d bytes steps old mid before left after observed head step t read reads valid of stops = absurd (let s = stops.short t in omega (arith, s, reads.feed))

abbrev pub AllFrom : ℕ → List ℕ → Type 0
AllFrom n ks = AllByRecursion (λ k. n ≤ k) ks

pub from_between : (n all m : ℕ) (ks : List ℕ) → m ≤ n → AllByRecursion (λ k. (n ≤ k) × (k ≤ n + all)) ks → AllFrom m ks
from_between n all m [] le each = tt
from_between n all m (k ∷ ks) le each = (omega (arith, le, each.0.0), from_between n all m ks le each.1)

-- The steps of a capture go on with these: their entries are the first, and their compactions.
pub record Continues (kind : CaptureKind) (d : Directory) (observed : Type 0) (bytes : List ℕ) (steps : List Step) : Type 0 where
  pub all : List Step
  pub read : observed → (at : ℕ) × ReadingOf kind d bytes all at
  pub behind : (s : State) → (more : List Entry) × (entries d s all ≡ entries d s steps ++ more)
  pub counts : (s : State) (n : ℕ) → (later : List ℕ) × (compactions d s n all ≡ compactions d s n steps ++ later) × AllFrom (n + length (entries d s steps)) later

-- where they are all
pub continues_alone : (kind : CaptureKind) (d : Directory) (observed : Type 0) (bytes : List ℕ) (steps : List Step) → (observed → (at : ℕ) × ReadingOf kind d bytes steps at) → Continues kind d observed bytes steps
continues_alone kind d observed bytes steps read = record {
  all = steps;
  read = read;
  behind = λ s. ([], sym (append-nil (entries d s steps)));
  counts = λ s n. ([], sym (append-nil (compactions d s n steps)), tt);
}

-- behind them the capture goes on with a head, or ends
abbrev pub continues_read : (kind : CaptureKind) (d : Directory) (observed : Type 0) (bytes : List ℕ) (steps : List Step) (held : Held) (left : List ℕ) → (observed → IsReadTo kind d bytes steps held left)
    → Continues kind d observed bytes steps
continues_read kind d observed bytes steps held left read =
    let on = head_goes_on kind d held.at left in
    record {
      all = steps ++ on.more;
      read = λ t. on.read bytes steps held (read t) refl;
      behind = λ s. (entries_from d (after_all d s (entries d s steps)) (connections_after d (no_bytes d) steps) on.more, entries_go_on d s steps on.more);
      counts = λ s n.
          let first : List Entry = entries d s steps in
          let cs : Connections = connections_after d (no_bytes d) steps in
          let t : State = after_all d s first in
          let m : ℕ = n + length first in (
            compactions_from d t cs m on.more,
            compactions_go_on d s n steps on.more,
            from_between m (length (entries_from d t cs on.more)) m (compactions_from d t cs m on.more) (omega arith) (compactions_between d t cs m on.more),
          );
    }

-- The steps of the capture, of which the entries of the steps so far and of the step in work are the first.
pub record Follows (kind : CaptureKind) (d : Directory) (observed : Type 0) (bytes : List ℕ) (steps : List Step) (step : Step) : Type 0 where
  pub goes : Continues kind d observed bytes (steps ++ step ∷ [])
  pub next : Step
  pub rest : List Step
  pub parts : goes.all ≡ steps ++ next ∷ rest
  pub compacts : step ≡ Compact → next ≡ step

announced : (step : Step) → length (bytes_of_step step) ≡ bytes_announced (head_of step)
announced (Feed c x) = refl
announced step = refl

follows_bare : (kind : CaptureKind) (d : Directory) (observed : Type 0) (bytes : List ℕ) (steps : List Step) (step : Step) (old mid : Held) (before left : List ℕ) (head : Head)
    → (observed → IsReadTo kind d bytes steps old (old.ahead ++ before)) → ReadsHead observed head old mid before left → head_of step ≡ head → bytes_announced head ≡ 0 → Follows kind d observed bytes steps step
follows_bare kind d observed bytes steps step old mid before left head read reads whole none =
    let nothing : bytes_of_step step ≡ [] = nil_from_length (bytes_of_step step) (announced step ∙ ap bytes_announced whole ∙ none) in
    let text : step_text step ≡ head_text head = ap (λ (xs : List ℕ). head_text (head_of step) ++ xs) nothing ∙ append-nil (head_text (head_of step)) ∙ ap head_text whole in
    record {
      goes = continues_read kind d observed bytes (steps ++ step ∷ []) mid (mid.ahead ++ left)
          (λ t. one_step kind d bytes (old.ahead ++ before) (mid.ahead ++ left) steps step old mid (read t) (subst (λ (k : Head). IsHeadIn old.circuits old.kind k) (sym whole) reads.valid)
          (reads.told t ∙ ap (λ (xs : List ℕ). xs ++ (mid.ahead ++ left)) (sym text)) reads.same (reads.at ∙ ap (λ (xs : List ℕ). old.at + length xs) (sym text)) reads.within);
      next = step;
      rest = (head_goes_on kind d mid.at (mid.ahead ++ left)).more;
      parts = append_assoc steps (step ∷ []) (head_goes_on kind d mid.at (mid.ahead ++ left)).more;
      compacts = λ e. refl;
    }

-- the entries of a feed go on with more bytes and steps
feed_behind : (d : Directory) (s : State) (steps more : List Step) (c : ℕ) (x y : List ℕ)
    → (b : List Entry) × (entries d s (steps ++ Feed c (x ++ y) ∷ more) ≡ entries d s (steps ++ Feed c x ∷ []) ++ b)
feed_behind d s steps more c x y =
    let es : List Entry = entries d s steps in
    let bs : Connections = connections_after d (no_bytes d) steps in
    let t : State = after_all d s es in
    let b : List ℕ = get_or bs c [] in
    let one : List Entry = all_done (events_added c b x) in
    let two : List Entry = all_done (events_added c (b ++ x) y) in
    let rest : List Entry → List Entry = λ added. entries_from d (after_all d t added) (with_bytes bs c (x ++ y)) more in
    let both : all_done (events_added c b (x ++ y)) ≡ one ++ two = done_twice c b x y in
    let last : List Entry = rest (all_done (events_added c b (x ++ y))) in (
      two ++ last,
      entries_go_on d s steps (Feed c (x ++ y) ∷ more) ∙ ap (λ (added : List Entry). es ++ (added ++ last)) both
          ∙ ap (λ (xs : List Entry). es ++ xs) (append_assoc one two last) ∙ sym (append_assoc es one (two ++ last))
          ∙ ap (λ (xs : List Entry). xs ++ (two ++ last)) (ap (λ (xs : List Entry). es ++ xs) (sym (append-nil one)) ∙ sym (entries_go_on d s steps (Feed c x ∷ []))),
    )

-- and so do its compactions
feed_counts : (d : Directory) (s : State) (n : ℕ) (steps more : List Step) (c : ℕ) (x y : List ℕ)
    → (later : List ℕ) × (compactions d s n (steps ++ Feed c (x ++ y) ∷ more) ≡ compactions d s n (steps ++ Feed c x ∷ []) ++ later)
    × AllFrom (n + length (entries d s (steps ++ Feed c x ∷ []))) later
feed_counts d s n steps more c x y =
    let es : List Entry = entries d s steps in
    let bs : Connections = connections_after d (no_bytes d) steps in
    let t : State = after_all d s es in
    let b : List ℕ = get_or bs c [] in
    let one : List Entry = all_done (events_added c b x) in
    let two : List Entry = all_done (events_added c (b ++ x) y) in
    let both : List Entry = all_done (events_added c b (x ++ y)) in
    let u : State = after_all d t both in
    let cs : Connections = with_bytes bs c (x ++ y) in
    let m : ℕ = n + length es + length both in
    let later : List ℕ = compactions_from d u cs m more in
    let whole : length both ≡ length one + length two = ap length (done_twice c b x y) ∙ length-append one two in
    let first : entries d s (steps ++ Feed c x ∷ []) ≡ es ++ one = entries_go_on d s steps (Feed c x ∷ []) ∙ ap (λ (xs : List Entry). es ++ xs) (append-nil one) in
    let bare : compactions d s n (steps ++ Feed c x ∷ []) ≡ compactions d s n steps = compactions_go_on d s n steps (Feed c x ∷ []) ∙ append-nil (compactions d s n steps) in (
      later,
      compactions_go_on d s n steps (Feed c (x ++ y) ∷ more) ∙ ap (λ (ks : List ℕ). ks ++ later) (sym bare),
      from_between m (length (entries_from d u cs more)) (n + length (entries d s (steps ++ Feed c x ∷ []))) later (omega (arith, whole, ap length first, length-append es one))
          (compactions_between d u cs m more),
    )

-- the bytes of a step that were taken: of a feed maybe a part
pub record TakesPart (observed : Type 0) (bytes : List ℕ) (old : Held) (before : List ℕ) : Type 0 where
  pub rest : List ℕ
  pub told : observed → old.ahead ++ before ≡ bytes ++ rest
  pub most : observed → length bytes ≤ old.feed
  pub within : old.at ≤ LONGEST_CAPTURE → old.at + length bytes ≤ LONGEST_CAPTURE

pub part_taken : (observed : Type 0) (bytes : List ℕ) (old : Held) (before : List ℕ) → TakesNoMore observed bytes old before → TakesPart observed bytes old before
part_taken observed bytes old before taken = record { rest = taken.rest; told = taken.told; most = λ t. taken.most; within = taken.within }

pub part_stopped : (observed : Type 0) (bytes : List ℕ) (old : Held) (before after : List ℕ) → StopsBehind observed bytes old before after → TakesPart observed bytes old before
part_stopped observed bytes old before after stops = record { rest = after; told = stops.told; most = λ t. let short = stops.short t in omega (arith, short); within = stops.within }

pub follows : (kind : CaptureKind) (d : Directory) (observed : Type 0) (bytes : List ℕ) (steps : List Step) (step : Step) (old mid : Held) (before left : List ℕ) (head : Head)
    → (observed → IsReadTo kind d bytes steps old (old.ahead ++ before)) → ReadsHead observed head old mid before left → IsHeadOf kind d head → IsStepOf head step
    → TakesPart observed (bytes_of_step step) mid left → Follows kind d observed bytes steps step
follows kind d observed bytes steps step old mid before left (FeedHead c n) read reads valid of taken =
    let x : List ℕ = of.0 in
    let feed : step ≡ Feed c x = of.1 in
    let same : bytes_of_step step ≡ x = ap bytes_of_step feed in
    let text : List ℕ = head_text (FeedHead c n) ++ x in
    let on = feed_goes_on kind d c n (old.at + length text) x taken.rest in
    let found : Follows kind d observed bytes steps (Feed c x) = record {
      goes = record {
        all = steps ++ Feed c (x ++ on.rest) ∷ on.more;
        read = λ t.
            let all : old.ahead ++ before ≡ head_text (FeedHead c n) ++ x ++ taken.rest =
            reads.told t ∙ ap (λ (xs : List ℕ). head_text (FeedHead c n) ++ xs) (taken.told t ∙ ap (λ (xs : List ℕ). xs ++ taken.rest) same) ∙ sym (append_assoc (head_text (FeedHead c n)) x taken.rest) in
            let most = taken.most t in
            let f : IsInFeed kind d bytes steps old c n x taken.rest = record {
              read = subst (λ (xs : List ℕ). IsReadTo kind d bytes steps old xs) all (read t);
              head = valid;
              most = omega (arith, most, ap length same, reads.feed);
              within = let w = taken.within reads.within in omega (arith, w, reads.at, ap length same, length-append (head_text (FeedHead c n)) x);
            } in
            on.read bytes steps old f refl;
        behind = λ s. feed_behind d s steps on.more c x on.rest;
        counts = λ s n. feed_counts d s n steps on.more c x on.rest;
      };
      next = Feed c (x ++ on.rest);
      rest = on.more;
      parts = refl;
      compacts = λ e. absurd (cc);
    } in
    subst (λ (s : Step). Follows kind d observed bytes steps s) (sym feed) found
follows kind d observed bytes steps step old mid before left head read reads valid of taken = follows_bare kind d observed bytes steps step old mid before left head read reads of refl
