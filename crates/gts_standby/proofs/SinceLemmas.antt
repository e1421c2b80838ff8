-- What of a feed is behind a place.
use Rattle.gts_standby.proofs.Cited.{◌≡◌, ◌⊎◌, ℕ, suc, ◌+◌, ◌-◌, ◌<◌, ◌≤◌, Bool, true, false, cond, ◌&&◌, nat_eq, nat_le, List, [], ◌∷◌, length, drop, Option, Some, None, Result, Ok, inl, inr, refl, sym, ap, subst, ◌∙◌, arith, ◌==◌, Call, Comes, Did, Directory, Finds, HasGoneOn, HasOpened, InHand, IsAtFirst, IsAtGate, IsBefore, Need, Reaches, SaysOnly, SaysRest, ShipFault, Since, StandsOn, State, Syncs, Version, after, begun, behind_at, behind_here, behind_place, checkpoint_opens, compacted_bytes, empty, entry_at, event_of_record, feed, feed_at, file_of, files_read, first_seal, held, is_at_checkpoint, is_checkpoint, next_entry, or_whole, pointwise, record_of, record_size, record_text, records_at, seal, seen, since_of, where_so, written, le-leb, lt-leb, nat_tests, drop-drop, at_mark, at_found, was_found, opens_behind, common_steps}
use Rattle.gts_standby.specs.Cited.{record_at}
use Rattle.gts_record.specs.declared.value.Record.{Record}
use Rattle.gts_checkpoint.specs.Reading.{HasRead}
use Rattle.gts_standby.specs.Since.{behind_checkpoint}
use Rattle.gts_record.specs.Record as texts
use Rattle.gts_standby.proofs.FeedLemmas.{some_step, end_behind, same_record, no_record, IsEnd, IsRecord, at_entry}
use Rattle.gts_standby.proofs.FirstLemmas.{by_admission, same_feed, same_file, behind_sync, second_quiet, synced_quiet}

-- ---- what is found at a gate

abbrev pub by_record : Version → ℕ → List ℕ → ℕ → List ℕ → ℕ → List ℕ → Option texts.Record → Option (List ℕ)
by_record v n before gate bytes place last o = elim o as (λ _. Option (List ℕ)) [
  | None ↦ None
  | Some r ↦ behind_at v n (seal v before (record_text r)) (gate + record_size v r) (drop (record_size v r) bytes) place last
]

abbrev pub by_place : Version → ℕ → List ℕ → ℕ → List ℕ → ℕ → List ℕ → Bool → Option (List ℕ)
by_place v n before gate bytes place last b =
    cond b (where_so (gate == place && pointwise nat_eq before last) (feed_at v (suc n) before bytes)) (by_record v n before gate bytes place last (record_at v before bytes))

apart : (a b : ℕ) → a < b → a == b ≡ false
apart a b low = grind (arith, nat_tests)

-- a record in front of the place is passed over
found_on : (v : Version) (n file gate : ℕ) (before bytes : List ℕ) (place : ℕ) (last : List ℕ) (r : texts.Record) → entry_at v before file gate bytes ≡ Ok (Some r) → gate < place
    → behind_at v (suc n) before gate bytes place last ≡ behind_at v n (seal v before (record_text r)) (gate + record_size v r) (drop (record_size v r) bytes) place last
found_on v n file gate before bytes place last r is low = grind (arith, common_steps, was_found, lt-leb)

-- no record stands behind a gate that isn't open
none_there : (v : Version) (file gate : ℕ) (before bytes : List ℕ) → entry_at v before file gate bytes ≡ Ok None → record_at v before bytes ≡ None
none_there v file gate before [] is = refl
none_there v file gate before (mark ∷ bytes) is = grind (arith, common_steps, at_mark, at_found)

-- ---- a journal that goes on

pub comes_on : (v : Version) (d : Directory) (file : ℕ) (before : List ℕ) (gate : ℕ) (bytes : List ℕ) (end place : ℕ) (last : List ℕ) (found : Option (List ℕ)) (r : texts.Record)
    → Comes v d file before gate bytes end place last found → entry_at v before file gate (drop gate bytes) ≡ Ok (Some r) → gate < place
    → Comes v d file (seal v before (record_text r)) (gate + record_size v r) bytes end place last found
comes_on v d file before gate bytes end place last found r it entry low =
    let x : State × ℕ × List ℕ = (it.came_to, end + 1, it.at_end) in
    let some = some_step v d it.steps file before it.state gate (drop gate bytes) x it.opens in
    let n : ℕ = some.0 in
    let first = subst (λ (k : ℕ). records_at v d k file before it.state gate (drop gate bytes) ≡ Ok x) some.1 it.opens in
    let far : drop (record_size v r) (drop gate bytes) ≡ drop (gate + record_size v r) bytes = drop-drop (record_size v r) gate bytes in
    elim (at_entry v d n file before it.state gate (drop gate bytes) x first) [
      | IsEnd is same ↦ absurd (no_record r (entry_at v before file gate (drop gate bytes)) is entry)
      | IsRecord q is more ↦
          let same : q ≡ r = same_record q r (entry_at v before file gate (drop gate bytes)) is entry in
          let opens = subst (λ (k : texts.Record). records_at v d n file (seal v before (record_text k)) (after d it.state (event_of_record k)) (gate + record_size v k) (drop (record_size v k) (drop gate bytes)) ≡ Ok x) same more in
          record {
            steps = n;
            enough = omega (arith, it.enough, some.1);
            state = after d it.state (event_of_record r);
            came_to = it.came_to;
            at_end = it.at_end;
            opens = ap (records_at v d n file (seal v before (record_text r)) (after d it.state (event_of_record r)) (gate + record_size v r)) (sym far) ∙ opens;
            found_is = it.found_is ∙ ap (λ (k : ℕ). behind_at v k before gate (drop gate bytes) place last) some.1
                ∙ found_on v n file gate before (drop gate bytes) place last r entry low
                ∙ ap (λ (l : List ℕ). behind_at v n (seal v before (record_text r)) (gate + record_size v r) l place last) far;
          }
    ]

-- so the records come to a closed gate
pub comes_to_end : (v : Version) (d : Directory) (file : ℕ) (before : List ℕ) (gate : ℕ) (bytes : List ℕ) (end place : ℕ) (last : List ℕ) (found : Option (List ℕ))
    → (it : Comes v d file before gate bytes end place last found) → Reaches v d file before gate bytes end (feed_at v it.steps before (drop gate bytes))
comes_to_end v d file before gate bytes end place last found it = record { steps = it.steps; enough = it.enough; state = it.state; then = it.came_to; last = it.at_end; opens = it.opens; left_is = refl }

-- where a place was reached, or the closed gate, it is known what was found
pub found_there : (v : Version) (d : Directory) (file : ℕ) (before : List ℕ) (gate : ℕ) (bytes : List ℕ) (end place : ℕ) (last : List ℕ) (found : Option (List ℕ))
    → (it : Comes v d file before gate bytes end place last found) → (place ≤ gate) ⊎ (end ≤ gate)
    → found ≡ where_so (gate == place && pointwise nat_eq before last) (feed_at v it.steps before (drop gate bytes))
found_there v d file before gate bytes end place last found it reached = it.found_is ∙ by_reached reached
  where
    x : State × ℕ × List ℕ
    x = (it.came_to, end + 1, it.at_end)

    text : List ℕ
    text = drop gate bytes

    is_here : List ℕ → Option (List ℕ)
    is_here left = where_so (gate == place && pointwise nat_eq before last) left

    some : (m : ℕ) × (it.steps ≡ suc m)
    some = some_step v d it.steps file before it.state gate text x it.opens

    at_place : place ≤ gate → behind_at v (suc some.0) before gate text place last ≡ is_here (feed_at v (suc some.0) before text)
    at_place high = ap (by_place v some.0 before gate text place last) (le-leb place gate high)

    at_end : gate < place → end ≤ gate → behind_at v (suc some.0) before gate text place last ≡ is_here (feed_at v (suc some.0) before text)
    at_end low high =
        let first = subst (λ (k : ℕ). records_at v d k file before it.state gate text ≡ Ok x) some.1 it.opens in
        let none : record_at v before text ≡ None =
        elim (at_entry v d some.0 file before it.state gate text x first) [
          | IsEnd is same ↦ none_there v file gate before text is
          | IsRecord r is more ↦
              absurd (let far = end_behind v d some.0 file (seal v before (record_text r)) (after d it.state (event_of_record r)) (gate + record_size v r) (drop (record_size v r) text) x more in omega (arith, far, high))
        ] in
        ap (by_place v some.0 before gate text place last) (lt-leb place gate low) ∙ ap (by_record v some.0 before gate text place last) none
        ∙ sym (ap (λ (b : Bool). where_so (b && pointwise nat_eq before last) (feed_at v (suc some.0) before text)) (apart gate place low))

    by_order : (b : Bool) → nat_le place gate ≡ b → (place ≤ gate) ⊎ (end ≤ gate) → behind_at v (suc some.0) before gate text place last ≡ is_here (feed_at v (suc some.0) before text)
    by_order b is (inl high) = at_place high
    by_order true is (inr high) = at_place (grind (arith, nat_tests))
    by_order false is (inr high) = at_end (grind (arith, nat_tests)) high

    by_reached : (place ≤ gate) ⊎ (end ≤ gate) → behind_at v it.steps before gate text place last ≡ is_here (feed_at v it.steps before text)
    by_reached reached =
        let P : ℕ → Type 0 = λ k. behind_at v k before gate text place last ≡ is_here (feed_at v k before text) in
        subst P (sym some.1) (by_order (nat_le place gate) refl reached)

-- ---- a journal

-- a journal that went on behind a record in front of the place
pub before_on : (d : Directory) (old new : List Call) (j next : InHand) (r : Record) (end place : ℕ) (last : List ℕ) (found : Option (List ℕ)) → IsBefore d old j end place last found
    → next_entry old j ≡ Ok (Some (record_of r)) → HasGoneOn j (Some r) next → j.gate < place → new ≡ old → IsBefore d new next end place last found
before_on d old new j next r end place last found it entry gone low same = grind (arith, common_steps, comes_on)

-- at the first gate, without a checkpoint
pub before_plain : (d : Directory) (old new : List Call) (j : InHand) (end place : ℕ) (last : List ℕ) → IsAtFirst d old j end → is_at_checkpoint j ≡ false → new ≡ old
    → IsBefore d new j end place last (behind_here d old j place last)
before_plain d old new j end place last first plain same =
    let bytes : List ℕ = file_of old j in
    let none : is_checkpoint bytes ≡ false = first.letter ∙ plain in
    let v : Version = j.version in
    let opens : records_at v d (length bytes) j.file j.seal (empty d) j.gate (drop j.gate bytes) ≡ Ok (first.then, end + 1, first.last) =
    ap (λ (l : List ℕ). records_at v d (length bytes) j.file l (empty d) j.gate (drop j.gate bytes)) first.seal_is
    ∙ ap (λ (k : ℕ). records_at v d (length bytes) j.file (first_seal v d.mark) (empty d) k (drop k bytes)) first.gate
    ∙ sym (opens_behind v d j.file bytes false first.header none) ∙ first.opens in
    let it : IsBefore d old j end place last (behind_here d old j place last) = record {
      steps = length bytes;
      enough = omega arith;
      state = empty d;
      came_to = first.then;
      at_end = first.last;
      opens = opens;
      found_is = ap (behind_place v (first_seal v d.mark) bytes place last) none
          ∙ ap (λ (l : List ℕ). behind_at v (length bytes) l 40 (drop 40 bytes) place last) (sym first.seal_is)
          ∙ ap (λ (k : ℕ). behind_at v (length bytes) j.seal k (drop k bytes) place last) (sym first.gate);
    } in
    subst (λ (calls : List Call). IsBefore d calls j end place last (behind_here d old j place last)) (sym same) it

-- behind a checkpoint
pub before_packed : (d : Directory) (old new : List Call) (j next : InHand) (end place : ℕ) (last : List ℕ) (n : Need) (at_gate : List ℕ) (gate : ℕ) → IsAtFirst d old j end → is_at_checkpoint j ≡ true
    → HasRead j.version d (drop 41 (file_of old j)) n at_gate → gate + 1 ≡ compacted_bytes j.version n → new ≡ old
    → next ≡ record j { gate = gate; seal = at_gate; ahead = []; is_all = false } → IsBefore d new next end place last (behind_here d old j place last)
before_packed d old new j next end place last n at_gate gate first packed read begins same is =
    let bytes : List ℕ = file_of old j in
    let v : Version = j.version in
    let at : compacted_bytes v n - 1 ≡ gate = omega (arith, begins) in
    let found : Option (List ℕ) = behind_here d old j place last in
    let there : InHand = record j { gate = gate; seal = at_gate; ahead = []; is_all = false } in
    let opens : records_at v d (length bytes) j.file at_gate (begun n) gate (drop gate bytes) ≡ Ok (first.then, end + 1, first.last) =
    ap (λ (k : ℕ). records_at v d (length bytes) j.file at_gate (begun n) k (drop k bytes)) (sym at)
    ∙ ap (λ (l : List ℕ). records_at v d (length bytes) j.file l (begun n) (compacted_bytes v n - 1) (drop (compacted_bytes v n - 1) bytes)) read.seal_is
    ∙ sym (ap (by_admission v d j.file bytes n) read.admitted) ∙ sym (ap (checkpoint_opens v d j.file bytes) read.need)
    ∙ sym (opens_behind v d j.file bytes true first.header (first.letter ∙ packed)) ∙ first.opens in
    let it : IsBefore d old there end place last found = record {
      steps = length bytes;
      enough = omega arith;
      state = begun n;
      came_to = first.then;
      at_end = first.last;
      opens = opens;
      found_is = ap (behind_place v (first_seal v d.mark) bytes place last) (first.letter ∙ packed)
          ∙ ap (behind_checkpoint v (first_seal v d.mark) bytes place last) read.need
          ∙ ap (λ (l : List ℕ). behind_at v (length bytes) l (compacted_bytes v n - 1) (drop (compacted_bytes v n - 1) bytes) place last) (sym read.seal_is)
          ∙ ap (λ (k : ℕ). behind_at v (length bytes) at_gate k (drop k bytes) place last) at;
    } in
    let by_calls : IsBefore d new there end place last found = subst (λ (calls : List Call). IsBefore d calls there end place last found) (sym same) it in
    subst (λ (k : InHand). IsBefore d new k end place last found) (sym is) by_calls

pub finds : (is : Bool) (d : Directory) (calls : List Call) (j : InHand) (end place : ℕ) (last : List ℕ) (found : Option (List ℕ)) → IsBefore d calls j end place last found → (place ≤ j.gate) ⊎ (end ≤ j.gate)
    → is ≡ (j.gate == place && pointwise nat_eq j.seal last) → Finds is d calls j end found
finds true d calls j end place last found it reached so =
    let left : List ℕ = feed_at j.version it.steps j.seal (drop j.gate (file_of calls j)) in
    let there = found_there j.version d j.file j.seal j.gate (file_of calls j) end place last found it reached in
    (left, comes_to_end j.version d j.file j.seal j.gate (file_of calls j) end place last found it, there ∙ ap (λ (b : Bool). where_so b left) (sym so))
finds false d calls j end place last found it reached so =
    let left : List ℕ = feed_at j.version it.steps j.seal (drop j.gate (file_of calls j)) in
    found_there j.version d j.file j.seal j.gate (file_of calls j) end place last found it reached ∙ ap (λ (b : Bool). where_so b left) (sym so)

-- one of two places was reached
pub reached_one : (place end stop gate : ℕ) → (place ≤ end → stop ≡ place) → (end < place → stop ≡ end) → stop ≤ gate → (place ≤ gate) ⊎ (end ≤ gate)
reached_one place end stop gate low high reached = grind (arith, common_steps, nat_tests)

pub finds_there : (is : Bool) (d : Directory) (calls : List Call) (j : InHand) (end place : ℕ) (last : List ℕ) (found : Option (List ℕ)) → IsBefore d calls j end place last found → (place ≤ j.gate) ⊎ (end ≤ j.gate)
    → j.gate ≡ place → is ≡ pointwise nat_eq j.seal last → Finds is d calls j end found
finds_there is d calls j end place last found it reached here same =
    let on : j.gate == place ≡ true = grind (arith, nat_tests) in
    finds is d calls j end place last found it reached (same ∙ sym (ap (λ (b : Bool). b && pointwise nat_eq j.seal last) on))

pub finds_elsewhere : (used at : ℕ) (d : Directory) (calls : List Call) (j : InHand) (end place : ℕ) (last : List ℕ) (found : Option (List ℕ)) → IsBefore d calls j end place last found → (place ≤ j.gate) ⊎ (end ≤ j.gate)
    → used ≡ j.gate → at ≡ place → nat_eq used at ≡ false → Finds (nat_eq used at) d calls j end found
finds_elsewhere used at d calls j end place last found it reached here there off =
    let apart : j.gate == place ≡ false = ap (λ (k : ℕ). k == place) (sym here) ∙ ap (λ (k : ℕ). used == k) (sym there) ∙ off in
    finds (nat_eq used at) d calls j end place last found it reached (off ∙ sym (ap (λ (b : Bool). b && pointwise nat_eq j.seal last) apart))

-- ---- what is to be said

-- what was found in the file that was started is what is to be said of the files
pub same_since : (d : Directory) (old now : List Call) (j : InHand) (end : ℕ) (since : Since) → HasOpened d old now j end
    → or_whole (feed j.version d.mark (file_of now j)) (behind_here d now j (since.used - 1) (held j.version since.seal)) ≡ since_of d old since
same_since d old now j end since h = grind (arith, common_steps, same_file)

-- what was found is said, or the whole
pub or_found : (whole left : List ℕ) (found : Option (List ℕ)) → found ≡ Some left → left ≡ or_whole whole found
or_found whole left found is = sym (ap (or_whole whole) is)

pub or_none : (whole : List ℕ) (found : Option (List ℕ)) → found ≡ None → whole ≡ or_whole whole found
or_none whole found is = sym (ap (or_whole whole) is)

-- where a standby's place was found, what is behind it is what is to be said
pub rest_since : {T : Type 0} (result : Result T ShipFault) (d : Directory) (old now look new : List Call) (j next : InHand) (since : Since) (end : ℕ) (is : Bool) → HasOpened d old now j end
    → look ≡ now → is ≡ true → Finds is d look next end (behind_here d now j (since.used - 1) (held j.version since.seal))
    → ((left : List ℕ) → IsAtGate d look next end left → SaysRest result look new left) → SaysRest result now new (since_of d old since)
rest_since result d old now look new j next since end is h told on found says = grind (arith, common_steps, or_found, same_since)

-- where it wasn't found, the whole feed is
pub rest_whole : {T : Type 0} (result : Result T ShipFault) (d : Directory) (old now look again new : List Call) (j next whole : InHand) (since : Since) (end : ℕ) (is : Bool) → HasOpened d old now j end
    → look ≡ now → is ≡ false → Finds is d look next end (behind_here d now j (since.used - 1) (held j.version since.seal)) → again ≡ Did Syncs ∷ look
    → whole.version ≡ written → StandsOn again whole → SaysRest result again new (feed whole.version d.mark (file_of again whole)) → SaysRest result again new (since_of d old since)
rest_whole result d old now look again new j next whole since end is h told off found third current on says =
    grind (arith, common_steps, same_feed, or_none, same_since)

-- looking says nothing
pub looked_quietly : (d : Directory) (old now look : List Call) (j : InHand) (end : ℕ) → HasOpened d old now j end → look ≡ now → SaysOnly (Did Syncs ∷ old) look []
looked_quietly d old now look j end h told = subst (λ (calls : List Call). SaysOnly (Did Syncs ∷ old) calls []) (sym told) (second_quiet d old now j end h)

pub again_quietly : (d : Directory) (old now look again : List Call) (j : InHand) (end : ℕ) → HasOpened d old now j end → look ≡ now → again ≡ Did Syncs ∷ look → SaysOnly (Did Syncs ∷ old) again []
again_quietly d old now look again j end h told third = behind_sync (Did Syncs ∷ old) look again [] (looked_quietly d old now look j end h told) (synced_quiet look again third)

-- the files read to the same
pub read_later : (d : Directory) (old now look : List Call) (j : InHand) (end : ℕ) → (h : HasOpened d old now j end) → look ≡ now → files_read written d (seen look) ≡ Ok (h.state, end + 1, h.last)
read_later d old now look j end h told = ap (λ (calls : List Call). files_read written d (seen calls)) (told ∙ h.synced) ∙ h.reads
