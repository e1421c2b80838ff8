-- The desk of a sender's tests.
use Rattle.std.proofs.Common.{◌≡◌, ℕ, zero, suc, ◌+◌, ◌<◌, arith, true, false, List, [], ◌∷◌, ◌++◌, Ok, Err, refl, sym, ap, ◌∙◌, subst, add-one}
use Rattle.std.proofs.lemmas.List.{append-nil, map-append}
use Rattle.gts_circuit_tests.specs.Cited.{An, Done, Entry, Event, Feeds, Frame, HasCauses, Heard, IsCaused, IsSpent, Lost, Nothing, Seen, Spent, State, Step, Taken, TakesSome, after, after_all, begun, dec, events_of_signs, frame, history_of, is_event, message_of, one_circuit, one_owed, outcome, seen_by, signs_of_step, state_at, taken}
use Rattle.gts_frame.specs.declared.step.Step.TheVariants as steps
use Rattle.gts_calls.specs.declared.fed.FeedEnd.TheVariants as ends
use Rattle.gts_opening.proofs.LawLemmas.{caused-nothing, caused-entry}
use Rattle.gts_calls.specs.{entries}

pub spent : (count : ℕ) → IsSpent (seen_by count) (seen_by count)
spent count = record { is = refl }

-- no turn is left for a message or a loss
pub feeds : (count c : ℕ) (events : List Event) (step : Step) (message : List ℕ) → events ≡ events_of_signs c (signs_of_step step message) → is_event step ≡ true
    → Feeds c events message (ends.Fault Spent) (seen_by count) (seen_by count)
feeds count c events (steps.Frame kind) message are is = ((Heard c kind message, are), spent count)
feeds count c events (steps.Lost field) message are is = ((Lost c field, are), spent count)
feeds count c events steps.More message are is = absurd (cc is)
feeds count c events steps.KeepAlive message are is = absurd (cc is)
feeds count c events steps.Dropped message are is = absurd (cc is)

more : (n : ℕ) → taken (suc n) ≡ taken n ++ (0, Done (Taken 0)) ∷ []
more zero = refl
more (suc n) = ap (λ (l : List (ℕ × Entry)). (0, Done (Taken 0)) ∷ l) (more n)

caused : (n : ℕ) → IsCaused one_circuit (history_of (seen_by n)) []
caused zero = caused-nothing one_circuit (history_of (seen_by 0)) []
caused (suc n) =
    let h = history_of (seen_by n) in
    let same : entries (taken (suc n)) ≡ entries (taken n) ++ Done (Taken 0) ∷ [] = ap entries (more n) ∙ map-append (λ (x : ℕ × Entry). x.1) (taken n) ((0, Done (Taken 0)) ∷ []) in
    subst (λ (es : List Entry). IsCaused one_circuit (record h { entries = es }) []) (sym same) (caused-entry one_circuit h [] (Done (Taken 0)) (caused n) tt)

has_causes : (n : ℕ) → HasCauses (seen_by n)
has_causes n = record { compactions = []; none = λ e. refl; caused = caused n }

-- the state that the first take leaves, and all others keep
abbrev given : State
given = after one_circuit (begun one_owed) (Taken 0)

stays : (n : ℕ) → after_all one_circuit given (entries (taken n)) ≡ given
stays zero = refl
stays (suc n) = stays n

pub first_take : (out : List ℕ) → out ≡ frame An (message_of (dec 3 1) (3 ∷ [])) → TakesSome 0 (record { index = 0; text = out } ∷ []) (Ok true) (seen_by 0) (seen_by 1)
first_take out is = (
  record { others = []; is = refl; strange = refl; holds = (record { index = refl; text = is }, tt); caused = has_causes 1 },
  omega arith,
  omega arith,
)

pub later_take : (n : ℕ) → TakesSome 0 [] (Ok false) (seen_by (suc n)) (seen_by (suc (suc n)))
later_take n =
    let S : ℕ → List (ℕ × Entry) → Seen = λ t l. record (seen_by 0) { turns = t; history = l } in
    let all : taken (suc (suc n)) ≡ (taken (suc n) ++ []) ++ (0, Done (Taken 0)) ∷ [] =
    more (suc n) ∙ ap (λ (l : List (ℕ × Entry)). l ++ (0, Done (Taken 0)) ∷ []) (sym (append-nil (taken (suc n)))) in (
      record {
        others = [];
        is = ap (λ (t : ℕ). S t (taken (suc (suc n)))) (sym (add-one (suc n))) ∙ ap (S (suc n + 1)) all;
        strange = refl;
        holds = record {
          gave = tt;
          nothing = let P : State → Type 0 = λ s. outcome one_circuit s (Taken 0) ≡ Nothing in
              subst P (sym (ap (λ (l : List (ℕ × Entry)). state_at (seen_by (suc n)) l) (append-nil (taken (suc n))) ∙ stays n)) refl;
        };
        caused = has_causes (suc (suc n));
      },
      omega arith,
    )

-- the same on the only circuit, by whatever name
pub first_on : (n c : ℕ) (out : List ℕ) (frames : List Frame) → n ≡ 0 → c ≡ 0 → out ≡ frame An (message_of (dec 3 1) (3 ∷ [])) → frames ≡ record { index = 0; text = out } ∷ []
    → TakesSome c frames (Ok true) (seen_by n) (seen_by 1)
first_on n c out frames none zero_is is are =
    let P : ℕ → ℕ → List Frame → Type 0 = λ m k fs. TakesSome k fs (Ok true) (seen_by m) (seen_by 1) in
    let here : P n 0 (record { index = 0; text = out } ∷ []) = subst (λ (m : ℕ). P m 0 (record { index = 0; text = out } ∷ [])) (sym none) (first_take out is) in
    subst (P n c) (sym are) (subst (λ (k : ℕ). P n k (record { index = 0; text = out } ∷ [])) (sym zero_is) here)

pub later_on : (n c : ℕ) (frames : List Frame) → 0 < n → c ≡ 0 → frames ≡ [] → TakesSome c frames (Ok false) (seen_by n) (seen_by (n + 1))
later_on zero c frames some zero_is none = absurd (omega arith)
later_on (suc n) c frames some zero_is none =
    let P : ℕ → ℕ → List Frame → Type 0 = λ m k fs. TakesSome k fs (Ok false) (seen_by (suc n)) (seen_by m) in
    let here : P (suc n + 1) 0 [] = subst (λ (m : ℕ). P m 0 []) (sym (add-one (suc n))) (later_take n) in
    subst (P (suc n + 1) c) (sym none) (subst (λ (k : ℕ). P (suc n + 1) k []) (sym zero_is) here)

pub spent_on : (n c : ℕ) (frames : List Frame) → frames ≡ [] → TakesSome c frames (Err Spent) (seen_by n) (seen_by n)
spent_on n c frames none = (none, spent n)
