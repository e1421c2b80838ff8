-- The records of a journal are compared with those of a feed.
use Rattle.gts_standby.proofs.Cited.{◌≡◌, inl, inr, ℕ, ◌+◌, ◌-◌, ◌<◌, ◌≤◌, Bool, true, false, nat_eq, List, [], ◌∷◌, length, drop, Option, Some, Result, Ok, Err, refl, sym, ap, subst, ◌∙◌, arith, Call, Compares, Did, Directory, Diverged, Done, Feed, FollowEnd, Gives, HasCompared, HasGoneOn, HasRead, InFeed, InHand, IsAtFirst, IsAtSeals, IsBehindOne, IsDamage, IsDevice, IsFaultOf, Leads, Need, Open, OpenFault, Parts, PassesNext, Piece, Sealed, StandsOn, StopsAs, StopsAt, Syncs, Taken, Version, admits_checkpoint, by_piece, checkpoint_seals, checkpoint_text, compacted_bytes, compare_all, compare_first, file_of, first_piece, first_seal, held, is_at_checkpoint, is_checkpoint, need_in, next_entry, next_seal, open_end, own_seals, pointwise, record_of, record_piece, record_size, seal, seals_at, seals_behind, seals_here, seen, stopped, written, common_steps}
use Rattle.gts_record.specs.declared.value.Record.{Record}
use Rattle.gts_checkpoint.specs.Reading.{HasRead as HasReadNeed}
use Rattle.gts_record.specs.Record as texts
use Rattle.gts_record.specs.declared.fault.OpenFault.TheVariants as opening
use Rattle.gts_standby.proofs.FeedLemmas.{leads_on, none_left, left_split, no_end, no_fault}
use Rattle.gts_standby.proofs.FirstLemmas.{plain_first, checkpoint_reaches}

-- ---- what a journal answered

-- a fault that doesn't stand there isn't of the journal's bytes
pub device_entry : (e : OpenFault) (entry : Result (Option texts.Record) OpenFault) → Gives (Err e) entry → ((f : OpenFault) → entry ≡ Err f → ⊥) → IsDevice (open_end e)
device_entry opening.DiskFault entry gives none = tt
device_entry opening.NoMemory entry gives none = tt
device_entry opening.NoJournal entry gives none = none opening.NoJournal gives
device_entry opening.OldVersion entry gives none = none opening.OldVersion gives
device_entry (opening.NotThis want found) entry gives none = none (opening.NotThis want found) gives
device_entry (opening.Damaged file at) entry gives none = none (opening.Damaged file at) gives

-- where a record stands at the gate and wasn't passed, a device failed
pub device_passed : (d : Directory) (calls : List Call) (j next : InHand) (end : ℕ) (left : List (List ℕ)) (e : OpenFault) → IsAtSeals d calls j end left → j.gate < end → PassesNext (Err e) (next_entry calls j) j next → IsDevice (open_end e)
device_passed d calls j next end left e at low (inl gives) =
    device_entry e (next_entry calls j) gives (λ f is. no_fault j.version d j.file j.seal j.gate (file_of calls j) end at.sent f at.reaches is)
device_passed d calls j next end left e at low (inr none) = absurd (no_end j.version d j.file j.seal j.gate (file_of calls j) end at.sent at.reaches low none)

pub device_read : (v : Version) (d : Directory) (file : ℕ) (bytes : List ℕ) (e : OpenFault) → IsDamage v d file bytes e → (admits_checkpoint v d bytes (need_in bytes) ≡ false → ⊥) → IsDevice (open_end e)
device_read v d file bytes opening.DiskFault is none = tt
device_read v d file bytes opening.NoMemory is none = tt
device_read v d file bytes _ is none = none is.1

pub device_start : (e : OpenFault) (found : Option OpenFault) → IsFaultOf e found → ((f : OpenFault) → found ≡ Some f → ⊥) → IsDevice (open_end e)
device_start opening.DiskFault found is none = tt
device_start opening.NoMemory found is none = tt
device_start opening.NoJournal found is none = none opening.NoJournal is
device_start opening.OldVersion found is none = none opening.OldVersion is
device_start (opening.NotThis want there) found is none = none (opening.NotThis want there) is
device_start (opening.Damaged file at) found is none = none (opening.Damaged file at) is

-- ---- the journal goes on

moved_leads : (d : Directory) (old new : List Call) (j next : InHand) (r : Record) (end : ℕ) (rest : List (List ℕ)) → HasGoneOn j (Some r) next → seen new j.file ≡ seen old j.file
    → Leads j.version d j.file (next_seal j (record_of r)) (j.gate + record_size j.version (record_of r)) (file_of old j) end rest → IsAtSeals d new next end rest
moved_leads d old new j next r end rest gone same it = grind (arith, common_steps)

pub behind_one : (d : Directory) (old new : List Call) (j next : InHand) (r : Record) (end : ℕ) (left : List (List ℕ)) → IsAtSeals d old j end left → next_entry old j ≡ Ok (Some (record_of r))
    → HasGoneOn j (Some r) next → new ≡ old → IsBehindOne d new next end left
behind_one d old new j next r end left at entry gone same =
    let on = leads_on j.version d j.file j.seal j.gate (file_of old j) end left (record_of r) at entry in
    record {
      rest = on.rest;
      is = on.is ∙ ap (λ (l : List ℕ). l ∷ on.rest) (sym gone.3);
      at = moved_leads d old new j next r end on.rest gone (ap (λ (calls : List Call). seen calls j.file) same) on.leads;
    }

-- at the first gate, without a checkpoint
pub first_leads : (d : Directory) (calls : List Call) (j : InHand) (end : ℕ) → IsAtFirst d calls j end → is_at_checkpoint j ≡ false → IsAtSeals d calls j end (seals_here d calls j)
first_leads d calls j end first plain =
    let bytes : List ℕ = file_of calls j in
    let none : is_checkpoint bytes ≡ false = first.letter ∙ plain in
    record {
      sent = _;
      reaches = plain_first d calls j end first plain;
      n = length bytes;
      enough = omega arith;
      left_is = ap (seals_behind j.version (first_seal j.version d.mark) bytes) none
          ∙ ap (λ (l : List ℕ). seals_at j.version (length bytes) l (drop 40 bytes)) (sym first.seal_is)
          ∙ ap (λ (k : ℕ). seals_at j.version (length bytes) j.seal (drop k bytes)) (sym first.gate);
    }

-- behind a checkpoint
pub behind_first : (d : Directory) (old new : List Call) (j next : InHand) (end : ℕ) (n : Need) (last : List ℕ) (gate : ℕ) → IsAtFirst d old j end → is_at_checkpoint j ≡ true
    → HasReadNeed j.version d (drop 41 (file_of old j)) n last → gate + 1 ≡ compacted_bytes j.version n → new ≡ old
    → next ≡ record j { gate = gate; seal = last; ahead = []; is_all = false } → IsBehindOne d new next end (seals_here d old j)
behind_first d old new j next end n last gate first packed read place same is =
    let bytes : List ℕ = file_of old j in
    let v : Version = j.version in
    let at : compacted_bytes v n - 1 ≡ gate = omega (arith, place) in
    let rest : List (List ℕ) = seals_at v (length bytes) last (drop gate bytes) in
    let there : InHand = record j { gate = gate; seal = last; ahead = []; is_all = false } in
    let leads : IsAtSeals d old there end rest = record { sent = _; reaches = checkpoint_reaches d old j end n last gate first packed read place; n = length bytes; enough = omega arith; left_is = refl } in
    let by_calls : IsAtSeals d new there end rest = subst (λ (calls : List Call). IsAtSeals d calls there end rest) (sym same) leads in
    record {
      rest = rest;
      is = ap (seals_behind v (first_seal v d.mark) bytes) (first.letter ∙ packed)
          ∙ ap (checkpoint_seals v (first_seal v d.mark) bytes) read.need
          ∙ ap (λ (l : List ℕ). l ∷ seals_at v (length bytes) l (drop (compacted_bytes v n - 1) bytes)) (sym read.seal_is)
          ∙ ap (λ (k : ℕ). last ∷ seals_at v (length bytes) last (drop k bytes)) at
          ∙ ap (λ (l : List ℕ). l ∷ rest) (sym (ap (λ (k : InHand). k.seal) is));
      at = subst (λ (k : InHand). IsAtSeals d new k end rest) (sym is) by_calls;
    }

-- ---- one record of each

abbrev step_by : (ℕ → List ℕ → Taken) → ℕ → Piece → Taken
step_by next at piece = by_piece at piece next

pub compare_on : (v : Version) (behind : ℕ → List ℕ → Taken) (left rest : List (List ℕ)) (own before fed_seal : List ℕ) (index at size : ℕ) (fed : List ℕ) → left ≡ own ∷ rest
    → record_piece v before fed ≡ Sealed size fed_seal → pointwise nat_eq own fed_seal ≡ true
    → compare_all v behind left before index at fed ≡ compare_all v behind rest own (index + 1) (at + size) (drop size fed)
compare_on v behind left rest own before fed_seal index at size fed is piece same = grind (arith, common_steps)

pub compare_off : (v : Version) (behind : ℕ → List ℕ → Taken) (left rest : List (List ℕ)) (own before fed_seal : List ℕ) (index at size : ℕ) (fed : List ℕ) → left ≡ own ∷ rest
    → record_piece v before fed ≡ Sealed size fed_seal → pointwise nat_eq own fed_seal ≡ false → compare_all v behind left before index at fed ≡ stopped (Parts index own fed_seal)
compare_off v behind left rest own before fed_seal index at size fed is piece other = grind (arith, common_steps)

pub compare_stops : (answer : FollowEnd) (v : Version) (behind : ℕ → List ℕ → Taken) (left rest : List (List ℕ)) (own before : List ℕ) (index at : ℕ) (fed unread : List ℕ) → left ≡ own ∷ rest
    → ((next : ℕ → List ℕ → Taken) → StopsAs answer (by_piece at (record_piece v before fed) next) unread) → StopsAs answer (compare_all v behind left before index at fed) unread
compare_stops answer v behind left rest own before index at fed unread is stops = grind (arith, common_steps)

pub first_on : (v : Version) (limit : ℕ) (behind : ℕ → List ℕ → Taken) (left rest : List (List ℕ)) (own before fed_seal : List ℕ) (size : ℕ) (fed : List ℕ) → left ≡ own ∷ rest
    → first_piece v limit before fed ≡ Sealed size fed_seal → pointwise nat_eq own fed_seal ≡ true
    → compare_first v limit behind left before fed ≡ compare_all v behind rest own 1 (40 + size) (drop size fed)
first_on v limit behind left rest own before fed_seal size fed is piece same = grind (arith, common_steps)

pub first_off : (v : Version) (limit : ℕ) (behind : ℕ → List ℕ → Taken) (left rest : List (List ℕ)) (own before fed_seal : List ℕ) (size : ℕ) (fed : List ℕ) → left ≡ own ∷ rest
    → first_piece v limit before fed ≡ Sealed size fed_seal → pointwise nat_eq own fed_seal ≡ false → compare_first v limit behind left before fed ≡ stopped (Parts 0 own fed_seal)
first_off v limit behind left rest own before fed_seal size fed is piece other = grind (arith, common_steps)

pub first_stops : (answer : FollowEnd) (v : Version) (limit : ℕ) (behind : ℕ → List ℕ → Taken) (left rest : List (List ℕ)) (own before : List ℕ) (fed unread : List ℕ) → left ≡ own ∷ rest
    → ((next : ℕ → List ℕ → Taken) → StopsAs answer (by_piece 40 (first_piece v limit before fed) next) unread) → StopsAs answer (compare_first v limit behind left before fed) unread
first_stops answer v limit behind left rest own before fed unread is stops = grind (arith, common_steps)

-- the seals of both are answered as they are
pub diverged : (taken : Taken) (v : Version) (index : ℕ) (own fed own_seal fed_seal unread : List ℕ) → taken ≡ stopped (Parts index own_seal fed_seal) → held written own ≡ own_seal → held written fed ≡ fed_seal
    → StopsAt (Diverged index own fed) taken unread
diverged taken v index own fed own_seal fed_seal unread is first second = record { end = Parts index own_seal fed_seal; is = is; ends = (refl, first, second); all = tt }

-- a device's fault is answered whatever the feed comes to
pub device_stops : (answer : FollowEnd) → IsDevice answer → (taken : Taken) (unread : List ℕ) → StopsAs answer taken unread
device_stops Done kind taken unread = absurd kind
device_stops (Feed at) kind taken unread = absurd kind
device_stops (Open fault) kind taken unread = absurd kind
device_stops (Diverged index own fed) kind taken unread = absurd kind
device_stops _ kind taken unread = tt

-- at its end nothing is compared
pub compared_all : (v w : Version) (d : Directory) (calls : List Call) (j : InHand) (end : ℕ) (left : List (List ℕ)) → IsAtSeals d calls j end left → end ≤ j.gate → left ≡ []
compared_all v w d calls j end left at high = none_left j.version d j.file j.seal j.gate (file_of calls j) end left at high

-- ---- what both records come to

module _ (j : InHand) (v : Version) (before_array fed_array : List ℕ) (version : v ≡ j.version) (before : held j.version before_array ≡ j.seal) where
  pub piece_so : (size : ℕ) (fed : List ℕ) → record_piece v (held v before_array) fed ≡ Sealed size (held v fed_array) → record_piece j.version j.seal fed ≡ Sealed size (held j.version fed_array)
  piece_so size fed piece =
      let P : Version → Type 0 = λ w. record_piece w (held w before_array) fed ≡ Sealed size (held w fed_array) in
      ap (λ (l : List ℕ). record_piece j.version l fed) (sym before) ∙ subst P version piece

  pub first_so : (limit size : ℕ) (fed : List ℕ) → first_piece v limit (held v before_array) fed ≡ Sealed size (held v fed_array) → first_piece j.version limit j.seal fed ≡ Sealed size (held j.version fed_array)
  first_so limit size fed piece =
      let P : Version → Type 0 = λ w. first_piece w limit (held w before_array) fed ≡ Sealed size (held w fed_array) in
      ap (λ (l : List ℕ). first_piece j.version limit l fed) (sym before) ∙ subst P version piece

  pub same_so : (next : InHand) (own_array : List ℕ) (b : Bool) → next.version ≡ j.version → held next.version own_array ≡ next.seal → b ≡ pointwise nat_eq (held v own_array) (held v fed_array)
      → pointwise nat_eq next.seal (held j.version fed_array) ≡ b
  same_so next own_array b on own is =
      let P : Version → Type 0 = λ w. pointwise nat_eq (held w own_array) (held w fed_array) ≡ b in
      ap (λ (l : List ℕ). pointwise nat_eq l (held j.version fed_array)) (sym own ∙ ap (λ (w : Version). held w own_array) on) ∙ subst P version (sym is)

  pub own_so : (next : InHand) (own_array : List ℕ) → next.version ≡ j.version → held next.version own_array ≡ next.seal → j.version ≡ written → held written own_array ≡ next.seal
  own_so next own_array on own current = ap (λ (w : Version). held w own_array) (sym (on ∙ current)) ∙ own

  pub fed_so : j.version ≡ written → held written fed_array ≡ held j.version fed_array
  fed_so current = ap (λ (w : Version). held w fed_array) (sym current)

-- a feed that ends at a record of the journal
pub stops_at : (answer : FollowEnd) (d : Directory) (calls : List Call) (j : InHand) (v : Version) (before_array : List ℕ) (end : ℕ) (left : List (List ℕ)) (index at : ℕ) (fed unread : List ℕ) → v ≡ j.version
    → held j.version before_array ≡ j.seal → IsAtSeals d calls j end left → j.gate < end → ((next : ℕ → List ℕ → Taken) → StopsAs answer (by_piece at (record_piece v (held v before_array) fed) next) unread)
    → (behind : ℕ → List ℕ → Taken) → StopsAs answer (compare_all j.version behind left j.seal index at fed) unread
stops_at answer d calls j v before_array end left index at fed unread version before on low stops behind =
    let split = left_split j.version d j.file j.seal j.gate (file_of calls j) end left on low in
    let P : Version → Type 0 = λ w. (next : ℕ → List ℕ → Taken) → StopsAs answer (by_piece at (record_piece w (held w before_array) fed) next) unread in
    let Q : List ℕ → Type 0 = λ l. (next : ℕ → List ℕ → Taken) → StopsAs answer (by_piece at (record_piece j.version l fed) next) unread in
    compare_stops answer j.version behind left split.1 split.0 j.seal index at fed unread split.2 (subst Q before (subst P version stops))

first_split : (d : Directory) (calls : List Call) (j : InHand) (end : ℕ) → IsAtFirst d calls j end → 40 < end → (b : Bool) → is_at_checkpoint j ≡ b → (own : List ℕ) × (rest : List (List ℕ)) × (seals_here d calls j ≡ own ∷ rest)
first_split d calls j end first low false plain = left_split j.version d j.file j.seal j.gate (file_of calls j) end (seals_here d calls j) (first_leads d calls j end first plain) (omega (arith, low, first.gate))
first_split d calls j end first low true packed =
    let v : Version = j.version in
    let bytes : List ℕ = file_of calls j in
    let n : Need = need_in (drop 41 bytes) in
    let own : List ℕ = seal v (first_seal v d.mark) (checkpoint_text n) in
    (own, seals_at v (length bytes) own (drop (compacted_bytes v n - 1) bytes), ap (seals_behind v (first_seal v d.mark) bytes) (first.letter ∙ packed))

pub first_stops_at : (answer : FollowEnd) (d : Directory) (calls : List Call) (j : InHand) (v : Version) (before_array : List ℕ) (limit end : ℕ) (fed unread : List ℕ) → v ≡ j.version
    → held j.version before_array ≡ j.seal → IsAtFirst d calls j end → 40 < end → limit ≡ d.limit → ((next : ℕ → List ℕ → Taken) → StopsAs answer (by_piece 40 (first_piece v limit (held v before_array) fed) next) unread)
    → (behind : ℕ → List ℕ → Taken) → StopsAs answer (compare_first j.version d.limit behind (seals_here d calls j) j.seal fed) unread
first_stops_at answer d calls j v before_array limit end fed unread version before first low lim stops behind =
    let split = first_split d calls j end first low (is_at_checkpoint j) refl in
    let P : Version → Type 0 = λ w. (next : ℕ → List ℕ → Taken) → StopsAs answer (by_piece 40 (first_piece w limit (held w before_array) fed) next) unread in
    let Q : List ℕ → Type 0 = λ l. (next : ℕ → List ℕ → Taken) → StopsAs answer (by_piece 40 (first_piece j.version limit l fed) next) unread in
    let R : ℕ → Type 0 = λ k. (next : ℕ → List ℕ → Taken) → StopsAs answer (by_piece 40 (first_piece j.version k j.seal fed) next) unread in
    first_stops answer j.version d.limit behind (seals_here d calls j) split.1 split.0 j.seal fed unread split.2 (subst R lim (subst Q before (subst P version stops)))

-- ---- many records

-- what was to be compared comes to what is to be compared from here on
pub record HasGoneFar (d : Directory) (v : Version) (all : (ℕ → List ℕ → Taken) → Taken) (end : ℕ) (calls : List Call) (j : InHand) (index at : ℕ) (ahead : InFeed) (unread : List ℕ) : Type 0 where
  pub rest : List (List ℕ)
  pub fed : List ℕ
  pub same : (behind : ℕ → List ℕ → Taken) → all behind ≡ compare_all v behind rest j.seal index at fed
  pub on : IsAtSeals d calls j end rest
  pub read : HasRead fed ahead unread

pub far_on : (d : Directory) (v : Version) (all : (ℕ → List ℕ → Taken) → Taken) (end : ℕ) (calls new : List Call) (j next : InHand) (index at size : ℕ) (ahead after_ahead : InFeed) (unread after_unread : List ℕ)
    → (so : HasGoneFar d v all end calls j index at ahead unread) → j.version ≡ v → HasCompared d so.rest j.version j.seal index at size so.fed new next end after_ahead after_unread
    → HasGoneFar d v all end new next (index + 1) (at + size) after_ahead after_unread
far_on d v all end calls new j next index at size ahead after_ahead unread after_unread so version one = grind (arith, common_steps)

pub far_stops : (answer : FollowEnd) (d : Directory) (v : Version) (all : (ℕ → List ℕ → Taken) → Taken) (end : ℕ) (calls : List Call) (j : InHand) (index at : ℕ) (ahead : InFeed) (unread after_unread : List ℕ)
    → (so : HasGoneFar d v all end calls j index at ahead unread) → j.version ≡ v → ((behind : ℕ → List ℕ → Taken) → StopsAs answer (compare_all j.version behind so.rest j.seal index at so.fed) after_unread)
    → (behind : ℕ → List ℕ → Taken) → StopsAs answer (all behind) after_unread
far_stops answer d v all end calls j index at ahead unread after_unread so version stops behind = grind (arith, common_steps)

pub far_done : (d : Directory) (v : Version) (all : (ℕ → List ℕ → Taken) → Taken) (end : ℕ) (calls : List Call) (j : InHand) (index at : ℕ) (ahead : InFeed) (unread : List ℕ)
    → HasGoneFar d v all end calls j index at ahead unread → end ≤ j.gate → let done : Result ℕ FollowEnd = Ok at in Compares done all ahead unread
far_done d v all end calls j index at ahead unread so high =
    (so.fed, λ behind. so.same behind ∙ ap (λ (l : List (List ℕ)). compare_all v behind l j.seal index at so.fed) (compared_all j.version v d calls j end so.rest so.on high), so.read)

-- ---- all of it

pub compares_same : (result : Result ℕ FollowEnd) (one other : (ℕ → List ℕ → Taken) → Taken) (ahead : InFeed) (unread : List ℕ) → ((behind : ℕ → List ℕ → Taken) → other behind ≡ one behind) → Compares result one ahead unread
    → Compares result other ahead unread
compares_same (Ok at) one other ahead unread same is = (is.0, λ behind. same behind ∙ is.1 behind, is.2)
compares_same (Err e) one other ahead unread same is = λ behind. subst (λ (t : Taken). StopsAs e t unread) (sym (same behind)) (is behind)

-- the file in which a journal was started is that of the one that stands there
pub same_seals : (d : Directory) (old now : List Call) (j own : InHand) (mark : List ℕ) → now ≡ Did Syncs ∷ old → StandsOn old j → StandsOn now own → own.version ≡ written → own.seal ≡ first_seal own.version mark → mark ≡ d.mark
    → (limit : ℕ) (behind : ℕ → List ℕ → Taken) (fed : List ℕ)
    → compare_first written limit behind (own_seals d (file_of old j)) (first_seal written d.mark) fed ≡ compare_first own.version limit behind (seals_here d now own) own.seal fed
same_seals d old now j own mark synced stands standing version sealed ours limit behind fed = grind (arith, common_steps)
