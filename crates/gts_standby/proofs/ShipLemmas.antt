-- What is said of a feed, record by record.
use Rattle.gts_standby.proofs.Cited.{◌≡◌, inl, inr, ℕ, ◌+◌, ◌-◌, ◌<◌, ◌≤◌, List, [], ◌++◌, take, drop, Option, Some, Result, Ok, Err, refl, sym, ap, subst, ◌∙◌, arith, append_assoc, IfOk, IfErr, append-nil, Call, Directory, Gives, GoesOnBehind, HasGoneOn, InHand, IsAtGate, IsQuiet, OpenFault, PassesNext, Reaches, SaysFront, SaysHere, SaysOne, ShipFault, Speaks, file_of, next_entry, next_seal, on, record_of, record_size, record_text, sealed, seen, ship_fault, common_steps}
use Rattle.gts_record.specs.declared.value.Record.{Record}
use Rattle.gts_record.specs.Record as texts
use Rattle.gts_record.specs.declared.fault.OpenFault.TheVariants as opening
use Rattle.gts_standby.proofs.SayLemmas.{says_none, says_more, fronts_behind, fronts_more}
use Rattle.gts_standby.proofs.FeedLemmas.{goes_on, all_said, record_stands, no_end, no_fault}

-- ---- what a journal answered

pub gone_on : (j next : InHand) (result : Result (Option Record) OpenFault) (o : Option Record) (r : Record) → IfOk result (λ x. HasGoneOn j x next) → result ≡ Ok o → o ≡ Some r → HasGoneOn j (Some r) next
gone_on j next result o r h is same = grind (arith, common_steps)

-- a fault that doesn't stand there isn't of the journal's bytes
pub quiet_entry : (e : OpenFault) (entry : Result (Option texts.Record) OpenFault) → Gives (Err e) entry → ((f : OpenFault) → entry ≡ Err f → ⊥) → IsQuiet (ship_fault e)
quiet_entry opening.DiskFault entry gives none = tt
quiet_entry opening.NoMemory entry gives none = tt
quiet_entry opening.NoJournal entry gives none = none opening.NoJournal gives
quiet_entry opening.OldVersion entry gives none = none opening.OldVersion gives
quiet_entry (opening.NotThis want found) entry gives none = none (opening.NotThis want found) gives
quiet_entry (opening.Damaged file at) entry gives none = none (opening.Damaged file at) gives

-- where a record stands at the gate and wasn't passed, a device failed
pub quiet_passed : (d : Directory) (calls : List Call) (j next : InHand) (end : ℕ) (left : List ℕ) (e : OpenFault) → IsAtGate d calls j end left → j.gate < end → PassesNext (Err e) (next_entry calls j) j next → IsQuiet (ship_fault e)
quiet_passed d calls j next end left e at low (inl gives) =
    quiet_entry e (next_entry calls j) gives (λ f is. no_fault j.version d j.file j.seal j.gate (file_of calls j) end left f at is)
quiet_passed d calls j next end left e at low (inr none) = absurd (no_end j.version d j.file j.seal j.gate (file_of calls j) end left at low none)

-- ---- one record

-- a journal that went on behind a record reaches the same end, after calls that left its file
moved : (d : Directory) (old new : List Call) (j next : InHand) (r : Record) (end : ℕ) (rest : List ℕ) → HasGoneOn j (Some r) next → seen new j.file ≡ seen old j.file
    → Reaches j.version d j.file (next_seal j (record_of r)) (j.gate + record_size j.version (record_of r)) (file_of old j) end rest → IsAtGate d new next end rest
moved d old new j next r end rest gone same it = grind (arith, common_steps)

pub said_one : {T : Type 0} (result : Result T ShipFault) (d : Directory) (old new : List Call) (j next : InHand) (r : Record) (end : ℕ) (left : List ℕ) → IsAtGate d old j end left
    → next_entry old j ≡ Ok (Some (record_of r)) → HasGoneOn j (Some r) next → Speaks result old new (take (next.gate - (j.gate + 1)) (drop (j.gate + 1) (file_of old j))) → IfErr result IsQuiet
    → SaysOne result d old new next end left
said_one (Ok x) d old new j next r end left at entry gone speaks kind =
    let q : texts.Record = record_of r in
    let on_it = goes_on j.version d j.file j.seal j.gate (file_of old j) end left q at entry in
    let stands = record_stands j.version j.seal j.file j.gate (file_of old j) q entry in
    let size : next.gate - (j.gate + 1) ≡ record_size j.version q - 1 = omega (arith, gone.2) in
    let piece = ap (λ (k : ℕ). take k (drop (j.gate + 1) (file_of old j))) size ∙ stands.piece in
    let says = subst (SaysHere old new) piece speaks in
    record {
      piece = sealed j.version j.seal (record_text q);
      rest = on_it.rest;
      is = on_it.is;
      says = says;
      at = moved d old new j next r end on_it.rest gone (says.only.files j.file) on_it.reaches;
    }
said_one (Err e) d old new j next r end left at entry gone speaks kind =
    let q : texts.Record = record_of r in
    let on_it = goes_on j.version d j.file j.seal j.gate (file_of old j) end left q at entry in
    let stands = record_stands j.version j.seal j.file j.gate (file_of old j) q entry in
    let size : next.gate - (j.gate + 1) ≡ record_size j.version q - 1 = omega (arith, gone.2) in
    let piece = ap (λ (k : ℕ). take k (drop (j.gate + 1) (file_of old j))) size ∙ stands.piece in
    let front = subst (λ (l : List ℕ). SaysFront old new (on 0 l)) piece speaks in
    (kind, subst (λ (l : List ℕ). SaysFront old new (on 0 l)) (sym on_it.is) (fronts_more old new (sealed j.version j.seal (record_text q)) on_it.rest front))

-- ---- many records

pub nothing_yet : (d : Directory) (calls : List Call) (j : InHand) (end : ℕ) (left : List ℕ) → IsAtGate d calls j end left → GoesOnBehind d calls calls j end left
nothing_yet d calls j end left at = record { piece = []; rest = left; is = refl; says = says_none calls; at = at }

pub one_more : (d : Directory) (a b c : List Call) (j next : InHand) (end : ℕ) (left : List ℕ) → (first : GoesOnBehind d a b j end left) → GoesOnBehind d b c next end first.rest → GoesOnBehind d a c next end left
one_more d a b c j next end left first second = record {
  piece = first.piece ++ second.piece;
  rest = second.rest;
  is = first.is ∙ ap (λ (l : List ℕ). first.piece ++ l) second.is ∙ sym (append_assoc first.piece second.piece second.rest);
  says = says_more a b c first.piece second.piece first.says second.says;
  at = second.at;
}

pub broken_off : (d : Directory) (a b c : List Call) (j : InHand) (end : ℕ) (left : List ℕ) → (first : GoesOnBehind d a b j end left) → SaysFront b c (on 0 first.rest) → SaysFront a c (on 0 left)
broken_off d a b c j end left first broke = subst (λ (l : List ℕ). SaysFront a c (on 0 l)) (sym first.is) (fronts_behind a b c first.piece first.rest first.says broke)

pub said_all : (d : Directory) (a b : List Call) (j : InHand) (end : ℕ) (left : List ℕ) → GoesOnBehind d a b j end left → end ≤ j.gate → SaysHere a b left
said_all d a b j end left first high =
    let none : first.rest ≡ [] = all_said j.version d j.file j.seal j.gate (file_of b j) end first.rest first.at high in
    subst (SaysHere a b) (sym (first.is ∙ ap (λ (l : List ℕ). first.piece ++ l) none ∙ append-nil first.piece)) first.says
