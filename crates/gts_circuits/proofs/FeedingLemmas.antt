-- What a turn adds in which a connection is fed.
use Rattle.gts_circuits.proofs.Cited.{◌≡◌, ℕ, Bool, true, List, [], ◌∷◌, length, refl, sym, subst, ◌∙◌, arith, AddsFor, All, Beginning, Decoding, Engine, Entry, Event, FeedEnd, Feeding, Feeds, GoesFed, GoesOver, IsShortAt, IsSpent, Lost, Seen, SettlesFed, Spent, Standing, StationMeanings, Step, Wanting, all_of, entries, events_added, events_of_signs, is_event, settled, signs_of_step, Reads, stands_settled}
use Rattle.gts_calls.specs.declared.fed.FeedEnd.TheVariants.{Fault}
use Rattle.gts_frame.specs.declared.step.Step.TheVariants as steps
use Rattle.gts_event.specs.declared.event.Event.TheVariants as event
use Rattle.gts_circuits.proofs.GatheringLemmas.{M}

module _ {P W : Type 0} (engine : W → Engine P) (makes : W → Bool) (station : StationMeanings P) (b : Beginning) where
  abbrev pub N : Standing Beginning W
  N = M engine makes station

  -- it was fed, and then settled
  pub fed_more : (f : Feeding) (history : List (ℕ × List Entry)) (first mid later last : W) (end : FeedEnd)
      → settled N b (all_of (entries history)) first → GoesOver N f.c f.begun f.step f.start first f.taken f.message end mid → later ≡ mid → SettlesFed N end f.end later last
      → (more : List Entry) × AddsFor station b f history (engine last) more × (makes last ≡ b.makes_room)
  fed_more f history first mid later last end stood goes same settles =
      let h : List Entry = all_of (entries history) in
      let fed : GoesFed N b (length h) h f.c goes.events f.message end mid = goes.goes b (length h) h (stands_settled N b (length h) h first (omega arith) stood) in
      let there : GoesFed N b (length h) h f.c goes.events f.message end later = subst (λ (w : W). GoesFed N b (length h) h f.c goes.events f.message end w) (sym same) fed in
      let all = settles.adds b h f.c goes.events f.message there in (
        all.0,
        record { events = goes.events; are = goes.are; added = all.1; stands = all.2.0 },
        all.2.1,
      )

-- a message that was wanting stays so
pub short_settled : {O W : Type 0} (meanings : Standing O W) (end settled_end : FeedEnd) (old new : W) (message : List ℕ) → SettlesFed meanings end settled_end old new → IsShortAt end message → IsShortAt settled_end message
short_settled meanings end (Wanting kind fault) old new message settles short = subst (λ (e : FeedEnd). IsShortAt e message) (settles.wanting kind fault refl) short
short_settled meanings end _ old new message settles short = tt

-- no turn was left for a step that is an event
pub one_event : (c : ℕ) (step : Step) (message : List ℕ) → is_event step ≡ true → (e : Event) × (events_of_signs c (signs_of_step step message) ≡ e ∷ [])
one_event c steps.More message is = absurd (cc is)
one_event c (steps.Frame kind) message is = (event.Heard c kind message, refl)
one_event c steps.KeepAlive message is = absurd (cc is)
one_event c (steps.Lost field) message is = (event.Lost c field, refl)
one_event c steps.Dropped message is = absurd (cc is)

pub feeds_spent : (c : ℕ) (before begun : List ℕ) (step : Step) (decoder : Decoding) (message : List ℕ) (old new : Seen) → is_event step ≡ true → Reads before begun step decoder → IsSpent old new
    → Feeds c (events_added c before begun) message (Fault Spent) old new
feeds_spent c before begun step decoder message old new is reads spent =
    let one = one_event c step decoder.message is in
    ((one.0, reads.events c ∙ one.1), spent)
