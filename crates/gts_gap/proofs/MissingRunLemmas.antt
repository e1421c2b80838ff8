-- Steps of a capture, one after another, and the numbers that they add.
use Rattle.gts_gap.proofs.Cited.{◌≡◌, ℕ, ◌+◌, ◌-◌, ◌^◌, ◌≤◌, List, [], ◌∷◌, ◌++◌, length, refl, sym, ap, subst, ◌∙◌, arith, AreSteps, CompactHead, Connections, Decode, Decoding, Directory, DoesAll, DrainHead, EndHead, EndsInStep, FeedHead, Held, IsBadAt, IsCutAt, IsHead, IsNew, IsRead, IsReadTo, IsStepOf, Journaled, LONGEST_CAPTURE, ReopenHead, RestartHead, Rings, StandFor, Step, TakeHead, after_step, at_start, bytes_announced, bytes_of_step, connections_after, events_with, flat_map, head_text, no_bytes, number_of_event, numbers, numbers_from, readable_from, Head, head_of, append-nil, connections_go_on, begins, one_step, at_end, at_bad, ReadsHead, head_here, cut_in, two_each, common_steps}

-- These steps were done: the table stands for their numbers, the decoders have what came on their connections, and the reader
-- stands behind them.
pub record Runs (observed : Type 0) (d : Directory) (bytes : List ℕ) (steps : List Step) (held : Held) (left : List ℕ) (ds : List Decoding) (rings : Rings) : Type 0 where
  pub circuits : held.circuits ≡ length d.circuits
  pub of_kind : held.kind ≡ Journaled
  pub are : AreSteps d steps
  pub read : observed → IsReadTo Journaled d bytes steps held (held.ahead ++ left)
  pub decoders : length ds ≡ length d.circuits
  pub decode : Decode ds (connections_after d (no_bytes d) steps)
  pub each : length rings ≡ length d.circuits
  pub stand : StandFor d steps rings

pub runs_none : (observed : Type 0) (d : Directory) (bytes : List ℕ) (held : Held) (ds : List Decoding) (rings : Rings)
    → held ≡ at_start (length rings) Journaled → length ds ≡ length rings → IsNew d rings ds → Runs observed d bytes [] held bytes ds rings
runs_none observed d bytes held ds rings is each new = grind (arith, common_steps, begins)

-- ---- one step more

-- a step that was done is that of its head
step_whole : (head : Head) (step : Step) → IsStepOf head step → length (bytes_of_step step) ≡ bytes_announced head → head_of step ≡ head
step_whole (FeedHead c n) step of size = ap head_of of.1 ∙ ap (FeedHead c) (ap (λ (s : Step). length (bytes_of_step s)) (sym of.1) ∙ size)
step_whole _ step of size = of

are_more : (d : Directory) (steps : List Step) (step : Step) → AreSteps d steps → IsHead d (head_of step) → AreSteps d (steps ++ step ∷ [])
are_more d [] step are valid = (valid, tt)
are_more d (s ∷ steps) step are valid = (are.0, are_more d steps step are.1 valid)

numbers_go_on : (d : Directory) (bs : Connections) (c : ℕ) (steps more : List Step)
    → numbers_from d bs c (steps ++ more) ≡ numbers_from d bs c steps ++ numbers_from d (connections_after d bs steps) c more
numbers_go_on d bs c [] more = refl
numbers_go_on d bs c (step ∷ steps) more = grind (arith, common_steps, numbers_go_on d (after_step d bs step) c steps more)

numbers_more : (d : Directory) (c : ℕ) (steps : List Step) (step : Step)
    → numbers d c (steps ++ step ∷ []) ≡ numbers d c steps ++ flat_map (number_of_event c) (events_with (connections_after d (no_bytes d) steps) step)
numbers_more d c steps step = grind (arith, common_steps, numbers_go_on, append-nil)

pub runs_more : (observed : Type 0) (d : Directory) (bytes : List ℕ) (steps : List Step) (old mid new : Held) (before left after : List ℕ) (ds ds_now : List Decoding) (rings rings_now : Rings) (head : Head)
    → Runs observed d bytes steps old before ds rings → ReadsHead observed head old mid before left → (does : DoesAll observed head mid new left after ds ds_now rings rings_now)
    → length rings_now ≡ length rings → Runs observed d bytes (steps ++ does.step ∷ []) new after ds_now rings_now
runs_more observed d bytes steps old mid new before left after ds ds_now rings rings_now head runs reads does same =
    grind (arith, common_steps, step_whole, are_more, head_here, one_step, connections_go_on, numbers_more)

-- ---- how it ends

pub ends_done : (observed : Type 0) (d : Directory) (bytes : List ℕ) (steps : List Step) (old new : Held) (before after : List ℕ) (ds : List Decoding) (rings : Rings)
    → Runs observed d bytes steps old before ds rings → (observed → old.ahead ++ before ≡ head_text EndHead ++ (new.ahead ++ after))
    → old.at + length (head_text EndHead) ≤ LONGEST_CAPTURE → IsRead observed d rings bytes
ends_done observed d bytes steps old new before after ds rings runs told within = record {
  steps = steps;
  whole = λ t.
      let R : List ℕ → Type 0 = λ xs. IsReadTo Journaled d bytes steps old xs in
      at_end Journaled d bytes (new.ahead ++ after) steps old (subst R (told t) (runs.read t)) within;
  circuits = runs.each;
  stand = runs.stand;
}

pub ends_bad : (observed : Type 0) (d : Directory) (bytes : List ℕ) (steps : List Step) (old : Held) (before : List ℕ) (ds : List Decoding) (rings : Rings) (at : ℕ)
    → Runs observed d bytes steps old before ds rings → (observed → IsBadAt old (readable_from old.at (old.ahead ++ before)) at) → IsCutAt observed d bytes at
ends_bad observed d bytes steps old before ds rings at runs bad = λ t. (steps, at_bad Journaled d bytes (old.ahead ++ before) steps old at (runs.read t) (bad t))

pub ends_in_step : (observed : Type 0) (d : Directory) (bytes : List ℕ) (steps : List Step) (old mid : Held) (before left : List ℕ) (ds : List Decoding) (rings : Rings) (head : Head) (at : ℕ)
    → Runs observed d bytes steps old before ds rings → ReadsHead observed head old mid before left → EndsInStep observed head at mid left → IsCutAt observed d bytes at
ends_in_step observed d bytes steps old mid before left ds rings head at runs reads ends = λ t. (
  steps ++ ends.step ∷ [],
  cut_in Journaled d bytes steps old mid before left at observed head ends.step t (runs.read t) reads (head_here Journaled d old.circuits head old.kind runs.circuits runs.of_kind reads.valid) ends.of_head ends.ends,
)

-- ---- more steps than can be

pub ends_never : (observed : Type 0) (d : Directory) (bytes : List ℕ) (steps : List Step) (held : Held) (left : List ℕ) (ds : List Decoding) (rings : Rings) (at : ℕ)
    → Runs observed d bytes steps held left ds rings → 2 ^ 64 - 1 ≤ length steps → IsCutAt observed d bytes at
ends_never observed d bytes steps held left ds rings at runs many = grind (arith, common_steps, two_each)
