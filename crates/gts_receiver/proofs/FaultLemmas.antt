-- Events that were answered with a fault.
use Rattle.gts_receiver.proofs.Cited.{◌≡◌, Bool, List, [], ◌∷◌, ◌++◌, Result, Ok, Err, refl, sym, ap, ◌∙◌, subst, append-nil, AddsEntries, AddsFault, AddsJust, Answers, DiskFault, Done, Entry, Event, Full, GoesOn, Hears, IsSpent, NoMemory, Outcome, SayFault, SaysNoMore, Seen, Spent, State, Stopped, SwitchFault, TriesOn, all_done, fault_entries, outcome, own, settled, settled_own, just, own_added, own_spent, goes_further, common_steps, arith}
use Rattle.gts_receiver.proofs.SettledLemmas.{settled_all, none_settled, own_settled, answers_go}

-- what was done adds its entry
done_adds : (event : Event) (o : Outcome) (old new : Seen) → Answers old event SaysNoMore (Ok o) new → AddsJust old (Done event) new
done_adds event o old new answers = just old new (Done event ∷ []) (λ (s : State). (o ≡ outcome old.directory s event) × SaysNoMore o s) answers

-- it is among those that are no tries
pub done_settles : (w : Bool) (event : Event) (o : Outcome) (old new : Seen) → Hears w event (Ok o) old new → settled_own w new ≡ settled_own w old ++ all_done (event ∷ [])
done_settles w event o old new h = grind (arith, common_steps, own_settled, done_adds, settled_all)

pub hears_go : (w : Bool) (event : Event) (answer : Result Outcome SwitchFault) (old new : Seen) → Hears w event answer old new → GoesOn old new
hears_go w event answer old new h = goes_further old h.before new h.desk (answers_go event answer h.before new h.answers)

module _ (w : Bool) (event : Event) (beside : List Event) (mid new : Seen) where
  -- what a turn added for them
  pub entered : (f : SwitchFault) → AddsEntries mid (fault_entries event beside f) new → ((f ≡ DiskFault → ⊥) → (f ≡ SayFault → ⊥) → beside ≡ [])
      → TriesOn w event f new.turns → (f ≡ Spent → ⊥) → AddsFault w event beside f new.full new.turns (settled_own w mid) (settled_own w new) (own new)
  entered f adds apart kept never = record {
    apart = apart;
    added = own_settled w mid new (fault_entries event beside f) adds;
    shown = (own mid, event, beside, own_added mid new (fault_entries event beside f) adds);
    kept = kept;
    spent = λ e. absurd (never e);
  }

-- no turn was left
pub spent : (w : Bool) (event : Event) (mid new : Seen) → IsSpent mid new → TriesOn w event Spent new.turns
    → AddsFault w event [] Spent new.full new.turns (settled_own w mid) (settled_own w new) (own new)
spent w event mid new is kept = record {
  apart = λ no_disk no_say. refl;
  added = ap (settled w) (own_spent mid new is) ∙ sym (append-nil (settled_own w mid)) ∙ ap (λ (l : List Entry). settled_own w mid ++ l) (sym (none_settled w));
  shown = (own mid, event, [], own_spent mid new is ∙ sym (append-nil (own mid)));
  kept = kept;
  spent = λ e. ap (λ (d : Seen). d.full) is.is;
}

-- a message was answered with a fault, maybe behind tries
pub failed : (w : Bool) (event : Event) (f : SwitchFault) (old new : Seen) → Hears w event (Err f) old new → TriesOn w event f new.turns
    → AddsFault w event [] f new.full new.turns (settled_own w old) (settled_own w new) (own new)
failed w event f old new h kept = subst (λ (l : List Entry). AddsFault w event [] f new.full new.turns l (settled_own w new) (own new)) h.tried (by f h.answers kept)
  where
    mid : Seen
    mid = h.before

    by : (f : SwitchFault) → Answers mid event SaysNoMore (Err f) new → TriesOn w event f new.turns
        → AddsFault w event [] f new.full new.turns (settled_own w mid) (settled_own w new) (own new)
    by DiskFault adds kept = entered w event [] mid new DiskFault adds (λ no_disk no_say. refl) kept (λ e. cc e)
    by SayFault adds kept = entered w event [] mid new SayFault adds (λ no_disk no_say. refl) kept (λ e. cc e)
    by (Full used need limit) adds kept = entered w event [] mid new (Full used need limit) adds (λ no_disk no_say. refl) kept (λ e. cc e)
    by (Stopped device) adds kept = entered w event [] mid new (Stopped device) adds (λ no_disk no_say. refl) kept (λ e. cc e)
    by NoMemory adds kept = entered w event [] mid new NoMemory adds (λ no_disk no_say. refl) kept (λ e. cc e)
    by Spent is kept = spent w event mid new is kept
