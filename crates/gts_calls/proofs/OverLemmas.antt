-- A feed goes on, step by step.
use Rattle.gts_calls.proofs.Cited.{◌≡◌, ℕ, ◌≤◌, true, List, ◌++◌, Result, Ok, refl, ap, subst, ◌∙◌, arith, All, Decoding, EndsAt, EndsOver, EndsStep, Entry, Event, Fault, FeedEnd, GoesFed, GoesOver, HasCallCause, IsNoLoss, KeepsOver, Reads, Rose, Standing, Stands, Step, SwitchFault, Wanting, all_done, events_added, events_of_signs, held_in, is_all, signs_of_step, Lost, added-twice, common_steps}
use Rattle.std.proofs.Common.{append_assoc}
use Rattle.gts_frame.specs.declared.step.Step.TheVariants as steps
use Rattle.gts_calls.proofs.FedLemmas.{fed_behind}
use Rattle.gts_calls.proofs.ReadingLemmas.{ends_behind}

kept : (before bytes : List ℕ) (step : Step) → IsNoLoss step → EndsAt before bytes step → KeepsOver before bytes
kept before bytes steps.More none e = e
kept before bytes (steps.Frame kind) none e = e
kept before bytes steps.KeepAlive none e = e
kept before bytes (steps.Lost field) none e = absurd none
kept before bytes steps.Dropped none e = e

-- where a step came to an end
pub ends_over : (before bytes : List ℕ) (step : Step) (end : FeedEnd) → EndsStep step end → EndsAt before bytes step → EndsOver before bytes end
ends_over before bytes step All s e = kept before bytes step s e
ends_over before bytes step (Lost field) s e = subst (EndsAt before bytes) s e
ends_over before bytes step (Wanting kind fault) s e = kept before bytes step s e
ends_over before bytes step (Fault fault) s e = tt

-- what was taken and what the decoder holds, so far
abbrev pub Held : (begun : List ℕ) → Step → Decoding → (taken : List ℕ) → FeedEnd → Decoding → Type 0
Held begun step start taken end decoder = (before : List ℕ) → Reads before begun step start → (decoder.held ≡ held_in (before ++ taken)) × EndsOver before taken end

pub held_first : (begun : List ℕ) (step : Step) (start : Decoding) (end : FeedEnd) → EndsStep step end → Held begun step start begun end start
held_first begun step start end s = λ before r. (r.held, ends_over before begun step end s r.ends)

pub held_more : (begun taken y : List ℕ) (step next_step : Step) (start decoder next : Decoding) (end : FeedEnd) → Held begun step start taken All decoder
    → ((before : List ℕ) → decoder.held ≡ held_in before → Reads before y next_step next) → EndsStep next_step end → Held begun step start (taken ++ y) end next
held_more begun taken y step next_step start decoder next end so_far reads s = λ before r.
    let h = so_far before r in
    let more = reads (before ++ taken) h.0 in (
      more.held ∙ ap held_in (append_assoc before taken y),
      ends_over before (taken ++ y) next_step end s (ends_behind before taken y next_step h.1 more.ends),
    )

module _ {O W : Type 0} (meanings : Standing O W) (c : ℕ) (begun : List ℕ) (step : Step) (start : Decoding) (old : W) where
  pub goes_first : (end : FeedEnd) (now : W)
      → ((o : O) (first : ℕ) (h : List Entry) → Stands meanings o first h old → GoesFed meanings o first h c (events_of_signs c (signs_of_step step start.message)) start.message end now)
      → GoesOver meanings c begun step start old begun start.message end now
  goes_first end now goes = record {
    events = events_of_signs c (signs_of_step step start.message);
    are = λ before r. r.events c;
    goes = goes;
  }

  pub goes_more : (taken y message : List ℕ) (next_step : Step) (decoder next : Decoding) (end : FeedEnd) (now later : W)
      → GoesOver meanings c begun step start old taken message All now → Held begun step start taken All decoder
      → ((before : List ℕ) → decoder.held ≡ held_in before → Reads before y next_step next)
      → ((o : O) (first : ℕ) (h : List Entry) → Stands meanings o first h now → GoesFed meanings o first h c (events_of_signs c (signs_of_step next_step next.message)) next.message end later)
      → GoesOver meanings c begun step start old (taken ++ y) next.message end later
  goes_more taken y message next_step decoder next end now later so_far held reads goes = record {
    events = so_far.events ++ events_of_signs c (signs_of_step next_step next.message);
    are = λ before r.
        let more = reads (before ++ taken) (held before r).0 in
        added-twice c before taken y ∙ ap (λ (l : List Event). l ++ events_added c (before ++ taken) y) (so_far.are before r) ∙ ap (λ (l : List Event). so_far.events ++ l) (more.events c);
    goes = λ o first h s.
        fed_behind meanings o first h c so_far.events (events_of_signs c (signs_of_step next_step next.message)) next.message end later
        (goes o first (h ++ all_done so_far.events) (so_far.goes o first h s));
  }

-- ---- counts

rose_from : (a b c : ℕ) → a ≤ b → Rose b c → Rose a c
rose_from a b c later rose = omega (arith, later, rose)

-- a device failed at a later call, or at none
pub caused_later : (result : Result (Unit {0}) SwitchFault) (disk mid disk_now say heard say_now : ℕ) → HasCallCause {T = Unit {0}} (Ok tt) disk mid say heard → HasCallCause result mid disk_now heard say_now
    → HasCallCause result disk disk_now say say_now
caused_later result disk mid disk_now say heard say_now a b = grind (arith, common_steps, rose_from)

-- ---- ends

pub is_that : (end : FeedEnd) → is_all end ≡ true → end ≡ All
is_that All is = refl
is_that _ is = absurd (cc is)
