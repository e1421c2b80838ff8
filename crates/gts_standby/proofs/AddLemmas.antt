-- Records of a feed are added to a journal.
use Rattle.gts_standby.proofs.Cited.{◌≡◌, ℕ, zero, suc, ◌+◌, ◌-◌, ◌≤◌, Bool, true, false, cond, List, [], ◌∷◌, ◌++◌, length, drop, Option, Some, None, Result, Ok, Err, refl, sym, ap, ◌∙◌, arith, length-append, nat_lt, le-ltb, Accept, Breaks, Call, Core, Directory, Drew, Ends, HoldsAt, InHand, IsOpened, Need, OpenFault, OpensTo, Read, Record, StandsFor, State, Taken, Version, add_all, adding, admits, after, event_of_record, files_read, may_be_cut, may_begin, need, opened_of, record_behind, record_size, record_text, restarted, seal, seal_size, sealed, sealed_at, seen, stopped, written, record_at, record_at-found, sealed_at-stands, sealed_fits, length-sealed, common_steps}
use Rattle.std.proofs.lemmas.List.{append_assoc}

pub holds_of : (observed : Type 0) (d : Directory) (calls : List Call) (core : Core) (j : InHand) (o : IsOpened observed d calls core j) → HoldsAt observed d o.state calls core j
holds_of observed d calls core j o = record { kept = o.kept; current = o.current; ended = o.ended; stands = o.stands }

pub opened_by : (observed : Type 0) (d : Directory) (s : State) (calls : List Call) (core : Core) (j : InHand) → HoldsAt observed d s calls core j → IsOpened observed d calls core j
opened_by observed d s calls core j h = record { state = s; kept = h.kept; current = h.current; ended = h.ended; stands = h.stands }

pub gate_so : (used : ℕ) (j : InHand) → used ≡ cond j.ended (j.gate + 1) j.gate → j.ended ≡ true → used - 1 ≡ j.gate
gate_so used j is ended = let e : used ≡ j.gate + 1 = is ∙ ap (λ (b : Bool). cond b (j.gate + 1) j.gate) ended in omega (arith, e)

-- ---- what stands next in the feed, where this seal stands before it and it would stand behind this gate

abbrev behind_by : Version → Directory → State → ℕ → Option Record → Option Record
behind_by v d s gate o = elim o as (λ _. Option Record) [ None ↦ None | Some r ↦ cond (admits v d s (gate + 1) r) (Some r) None ]

pub next_is : (d : Directory) (before : List ℕ) (s : State) (gate : ℕ) (fed : List ℕ) (r : Record) → sealed_at written before fed ≡ Some r → admits written d s (gate + 1) r ≡ true
    → record_behind written d before s gate fed ≡ Some r
next_is d before s gate fed r found ok = ap (behind_by written d s gate) found ∙ ap (λ (b : Bool). cond b (Some r) None) ok

pub next_refused : (d : Directory) (before : List ℕ) (s : State) (gate : ℕ) (fed : List ℕ) (r : Record) → sealed_at written before fed ≡ Some r → admits written d s (gate + 1) r ≡ false
    → record_behind written d before s gate fed ≡ None
next_refused d before s gate fed r found bad = ap (behind_by written d s gate) found ∙ ap (λ (b : Bool). cond b (Some r) None) bad

pub next_none : (d : Directory) (before : List ℕ) (s : State) (gate : ℕ) (fed : List ℕ) → sealed_at written before fed ≡ None → record_behind written d before s gate fed ≡ None
next_none d before s gate fed none = ap (behind_by written d s gate) none

-- a record that is whole with its seal isn't cut
pub whole_uncut : (v : Version) (before fed : List ℕ) (r : Record) → sealed_at v before fed ≡ Some r → may_be_cut v fed ≡ false
whole_uncut v before fed r found =
    let stands = (sealed_at-stands v before fed r found).0 in
    let text : List ℕ = record_text r in
    let there : record_at fed ≡ Some r = record_at-found r fed (sealed_fits v before fed r found)
    (seal v before text ++ stands.0, stands.1 ∙ append_assoc text (seal v before text) stands.0) in
    let long : length text + seal_size v ≤ length fed =
    omega (arith, ap (λ (l : List ℕ). length l) stands.1, length-append (sealed v before text) stands.0, length-sealed v before (record_text r)) in
    ap (λ (o : Option Record). elim o as (λ _. Bool) [ None ↦ may_begin fed | Some q ↦ nat_lt (length fed) (length (record_text q) + seal_size v) ]) there
    ∙ le-ltb (length fed) (length text + seal_size v) long

-- ---- all that a feed adds

abbrev pub added_by : Directory → ℕ → List ℕ → State → ℕ → ℕ → List ℕ → Option Record → Taken
added_by d n before s gate at fed o = elim o as (λ _. Taken) [
  | None ↦ cond (may_be_cut written fed) (stopped Ends) (stopped (Breaks at))
  | Some r ↦
      adding r
      (add_all written d n (seal written before (record_text r)) (after d s (event_of_record r)) (gate + record_size written r) (at + (record_size written r - 1))
      (drop (record_size written r - 1) fed))
]

-- what the files of a journal read to
pub read_now : (d : Directory) (s : State) (calls : List Call) (j : InHand) → StandsFor d s calls j → files_read written d (seen calls) ≡ Ok (s, j.gate + 1, j.seal)
read_now d s calls j f = ap (λ (v : Version). files_read v d (seen calls)) (sym f.current) ∙ f.opens_to

pub no_begin : (d : Directory) (n : ℕ) (before : List ℕ) (s : State) (gate at : ℕ) (fed : List ℕ) → (add_all written d n before s gate at fed).begins ≡ None
no_begin d zero before s gate at fed = refl
no_begin d (suc n) before s gate at fed = by_record (record_behind written d before s gate fed) (λ r. no_begin d n (seal written before (record_text r)) (after d s (event_of_record r)) (gate + record_size written r) (at + (record_size written r - 1)) (drop (record_size written r - 1) fed))
  where
    by_cut : (b : Bool) → (cond b (stopped Ends) (stopped (Breaks at))).begins ≡ None
    by_cut true = refl
    by_cut false = refl

    by_record : (o : Option Record) → ((r : Record) → (add_all written d n (seal written before (record_text r)) (after d s (event_of_record r)) (gate + record_size written r) (at + (record_size written r - 1)) (drop (record_size written r - 1) fed)).begins ≡ None)
        → (added_by d n before s gate at fed o).begins ≡ None
    by_record None so = by_cut (may_be_cut written fed)
    by_record (Some r) so = so r

-- a step where a record stands next
step : (d : Directory) (n : ℕ) (before : List ℕ) (s : State) (gate at : ℕ) (fed : List ℕ) (r : Record) → record_behind written d before s gate fed ≡ Some r
    → add_all written d (suc n) before s gate at fed ≡ added_by d n before s gate at fed (Some r)
step d n before s gate at fed r is = ap (added_by d n before s gate at fed) is

pub some_text : (q : Record) → 1 ≤ length (record_text q)
some_text (Accept from kind position body) = omega arith
some_text (Drew circuit position index) = omega arith

pub not_empty : (d : Directory) (before : List ℕ) (s : State) (gate : ℕ) (fed : List ℕ) (r : Record) → record_behind written d before s gate fed ≡ Some r → 1 ≤ length fed
not_empty d before s gate [] r is = grind (arith, common_steps, sealed_at-stands, length-sealed, some_text)
not_empty d before s gate (x ∷ fed) r is = omega arith

pred_is : (n k : ℕ) → 1 ≤ k → k ≤ n → suc (n - 1) ≡ n
pred_is n k some low = omega (arith, some, low)

-- the record that stands next is added, and then the others
pub one_step : (d : Directory) (n : ℕ) (before : List ℕ) (s : State) (gate at : ℕ) (fed : List ℕ) (r : Record) → length fed ≤ n → record_behind written d before s gate fed ≡ Some r
    → add_all written d n before s gate at fed ≡ added_by d (n - 1) before s gate at fed (Some r)
one_step d n before s gate at fed r enough is = grind (arith, common_steps, pred_is, not_empty, step)

-- where no record stands next, nothing is added
pub no_step : (d : Directory) (n : ℕ) (before : List ℕ) (s : State) (gate at : ℕ) (fed : List ℕ) → length fed ≤ n → record_behind written d before s gate fed ≡ None
    → add_all written d n before s gate at fed ≡ cond (may_be_cut written fed) (stopped Ends) (stopped (Breaks at))
no_step d zero before s gate at fed few none = grind (arith, common_steps)
no_step d (suc n) before s gate at fed few none = ap (added_by d n before s gate at fed) none

abbrev pub opened_need : Directory → Read → Result Need OpenFault
opened_need d read = elim (opened_of read) as (λ _. Result Need OpenFault) [ Err fault ↦ Err fault | Ok x ↦ Ok (need d (restarted d x.0)) ]

pub opened_now : (d : Directory) (s : State) (calls : List Call) (j : InHand) → StandsFor d s calls j → OpensTo d s (seen calls)
opened_now d s calls j f = ap (λ (v : Version). opened_need d (files_read v d (seen calls))) (sym f.current) ∙ ap (opened_need d) f.opens_to
