-- How a feed begins.
use Rattle.gts_standby.proofs.Cited.{◌≡◌, ℕ, ◌+◌, ◌-◌, ◌*◌, ◌≤◌, Bool, true, false, cond, ◌&&◌, nat_eq, nat_le, List, [], ◌∷◌, ◌++◌, length, take, drop, Option, Some, None, Result, Ok, Err, inl, inr, refl, sym, ap, subst, ◌∙◌, arith, append_assoc, length-append, length-drop, take-append-drop, IfErr, OnOk, not, Call, Damaged, Did, Directory, Files, GoesOnBehind, HasOpened, InHand, IsAtFirst, IsAtGate, IsDamage, IsFaultOf, IsQuiet, IsShipFault, Need, OnlySyncs, OnlySyncsUnopened, OpenFault, Reaches, Read, SaysFront, SaysHere, SaysOnly, SaysRest, ShipFault, ShipsOnly, StandsFor, StandsOn, State, Syncs, Version, admits_checkpoint, agreeing, begun, behind_header, checkpoint_feed, checkpoint_opens, checkpoint_text, compacted_bytes, draw_size, due, empty, feed, feed_at, feed_behind, feed_of, file_of, file_opens, files_read, first_fault, first_seal, header_fault, is_at_checkpoint, is_checkpoint, is_sealed, is_sound, magic, need, need_in, on, opens, records_at, restarted, same_text, seal, sealed, seen, selected, selected_bytes, ship_fault, starts_with, written, and_parts, take_at, said_none, said_more, front_behind, untouched_call, length-sealed, faulty_header, opens_behind, common_steps}
use Rattle.gts_traits.specs.Cited.{Broken}
use Rattle.gts_checkpoint.specs.Reading.{HasRead}
use Rattle.gts_record.specs.declared.fault.OpenFault.TheVariants as opening
use Rattle.gts_standby.specs.declared.fault.ShipFault.TheVariants as fault
use Rattle.gts_standby.proofs.SayLemmas.{says_more, fronts_behind, fronts_more}

-- ---- the header

abbrev pub fault_by : Version → List ℕ → ℕ → List ℕ → (is_empty is_old begins is_short is_ours : Bool) → Option OpenFault
fault_by v mark file bytes is_empty is_old begins is_short is_ours =
    cond is_empty (Some opening.NoJournal) (cond is_old (Some opening.OldVersion) (cond (not begins) (Some (Damaged file (agreeing (magic v) bytes))) (cond is_short (Some (Damaged file (length bytes)))
    (cond (not is_ours) (Some (opening.NotThis mark (take 32 (drop 8 bytes)))) None))))

-- ---- without a checkpoint

pub plain_first : (d : Directory) (calls : List Call) (j : InHand) (end : ℕ) → IsAtFirst d calls j end → is_at_checkpoint j ≡ false → IsAtGate d calls j end (behind_header d calls j)
plain_first d calls j end first plain =
    let bytes : List ℕ = file_of calls j in
    let none : is_checkpoint bytes ≡ false = first.letter ∙ plain in
    let opens : records_at j.version d (length bytes) j.file (first_seal j.version d.mark) (empty d) 40 (drop 40 bytes) ≡ Ok (first.then, end + 1, first.last) =
    sym (opens_behind j.version d j.file bytes false first.header none) ∙ first.opens in
    record {
      steps = length bytes;
      enough = omega arith;
      state = empty d;
      then = first.then;
      last = first.last;
      opens = ap (λ (l : List ℕ). records_at j.version d (length bytes) j.file l (empty d) j.gate (drop j.gate bytes)) first.seal_is
          ∙ ap (λ (k : ℕ). records_at j.version d (length bytes) j.file (first_seal j.version d.mark) (empty d) k (drop k bytes)) first.gate ∙ opens;
      left_is = ap (feed_behind j.version (first_seal j.version d.mark) bytes) none
          ∙ ap (λ (l : List ℕ). feed_at j.version (length bytes) l (drop 40 bytes)) (sym first.seal_is) ∙ ap (λ (k : ℕ). feed_at j.version (length bytes) j.seal (drop k bytes)) (sym first.gate);
    }

-- ---- behind a checkpoint

-- a checkpoint with its seal, as the file has it
pub record CheckpointStands (v : Version) (d : Directory) (bytes : List ℕ) (n : Need) (gate : ℕ) : Type 0 where
  pub piece : take (gate - 41) (drop 41 bytes) ≡ sealed v (first_seal v d.mark) (checkpoint_text n)
  pub there : gate ≤ length bytes

pub starts : (bytes text : List ℕ) → starts_with nat_eq bytes text ≡ true → bytes ≡ text ++ drop (length text) bytes
starts bytes text is = sym (take-append-drop (length text) bytes) ∙ ap (λ (f : List ℕ). f ++ drop (length text) bytes) (sym (same_text text (take (length text) bytes) (sym is)))

pub checkpoint_stands : (v : Version) (d : Directory) (bytes : List ℕ) (n : Need) (gate : ℕ) → admits_checkpoint v d (drop 41 bytes) n ≡ true → gate + 1 ≡ compacted_bytes v n → CheckpointStands v d bytes n gate
checkpoint_stands v d bytes n gate is place =
    let text : List ℕ = checkpoint_text n in
    let all : List ℕ = drop 41 bytes in
    let before : List ℕ = first_seal v d.mark in
    let h1 = and_parts _ (nat_le (compacted_bytes v n + draw_size v * due (begun n)) d.limit) is in
    let h2 = and_parts (starts_with nat_eq all text && is_sealed v before text all) (is_sound d n) h1.0 in
    let h3 = and_parts (starts_with nat_eq all text) (is_sealed v before text all) h2.0 in
    let rest : List ℕ = drop (length text) all in
    let last : List ℕ = seal v before text in
    let whole : all ≡ sealed v before text ++ drop (length last) rest =
    starts all text h3.0 ∙ ap (λ (l : List ℕ). text ++ l) (starts rest last h3.1) ∙ sym (append_assoc text last (drop (length last) rest)) in
    let long = length-sealed v before text in
    let size : length (sealed v before text) ≡ gate - 41 = omega (arith, long, place) in
    record {
      piece = ap (take (gate - 41)) whole ∙ take_at (sealed v before text) (drop (length last) rest) (gate - 41) size;
      there = (let e : length all ≡ length (sealed v before text ++ drop (length last) rest) = ap (λ (l : List ℕ). length l) whole in
          let some : 1 ≤ length text = omega arith in
          omega (arith, e, length-append (sealed v before text) (drop (length last) rest), long, place, length-drop 41 bytes, some));
    }

abbrev pub by_admission : Version → Directory → ℕ → List ℕ → Need → Bool → Read
by_admission v d file bytes n b = elim b as (λ _. Read) [
  | false ↦ Err (Damaged file 41)
  | true ↦
      records_at v d (length bytes) file (seal v (first_seal v d.mark) (checkpoint_text n)) (begun n) (compacted_bytes v n - 1)
      (drop (compacted_bytes v n - 1) bytes)
]

-- a journal whose file opens has no damage in its checkpoint
pub no_damage : (d : Directory) (calls : List Call) (j : InHand) (end : ℕ) → IsAtFirst d calls j end → is_at_checkpoint j ≡ true
    → admits_checkpoint j.version d (drop 41 (file_of calls j)) (need_in (drop 41 (file_of calls j))) ≡ false → ⊥
no_damage d calls j end first packed bad = grind (arith, common_steps, opens_behind)

pub quiet_read : (v : Version) (d : Directory) (file : ℕ) (bytes : List ℕ) (e : OpenFault) → IsDamage v d file bytes e → (admits_checkpoint v d bytes (need_in bytes) ≡ false → ⊥) → IsQuiet (ship_fault e)
quiet_read v d file bytes opening.DiskFault is none = tt
quiet_read v d file bytes opening.NoMemory is none = tt
quiet_read v d file bytes _ is none = none is.1

-- of what is sent behind the header the checkpoint stands first
pub checkpoint_first : (d : Directory) (calls : List Call) (j : InHand) (end : ℕ) (n : Need) (last : List ℕ) (gate : ℕ) → IsAtFirst d calls j end → is_at_checkpoint j ≡ true
    → HasRead j.version d (drop 41 (file_of calls j)) n last → gate + 1 ≡ compacted_bytes j.version n
    → behind_header d calls j ≡ sealed j.version (first_seal j.version d.mark) (checkpoint_text n) ++ feed_at j.version (length (file_of calls j)) last (drop gate (file_of calls j))
checkpoint_first d calls j end n last gate first packed read place =
    let bytes : List ℕ = file_of calls j in
    let v : Version = j.version in
    let before : List ℕ = first_seal v d.mark in
    let at : compacted_bytes v n - 1 ≡ gate = omega (arith, place) in
    ap (feed_behind v before bytes) (first.letter ∙ packed) ∙ ap (checkpoint_feed v before bytes) read.need
    ∙ ap (λ (l : List ℕ). sealed v before (checkpoint_text n) ++ feed_at v (length bytes) l (drop (compacted_bytes v n - 1) bytes)) (sym read.seal_is)
    ∙ ap (λ (k : ℕ). sealed v before (checkpoint_text n) ++ feed_at v (length bytes) last (drop k bytes)) at

pub checkpoint_reaches : (d : Directory) (calls : List Call) (j : InHand) (end : ℕ) (n : Need) (last : List ℕ) (gate : ℕ) → IsAtFirst d calls j end → is_at_checkpoint j ≡ true
    → HasRead j.version d (drop 41 (file_of calls j)) n last → gate + 1 ≡ compacted_bytes j.version n
    → Reaches j.version d j.file last gate (file_of calls j) end (feed_at j.version (length (file_of calls j)) last (drop gate (file_of calls j)))
checkpoint_reaches d calls j end n last gate first packed read place =
    let bytes : List ℕ = file_of calls j in
    let v : Version = j.version in
    let at : compacted_bytes v n - 1 ≡ gate = omega (arith, place) in
    let opens : records_at v d (length bytes) j.file last (begun n) gate (drop gate bytes) ≡ Ok (first.then, end + 1, first.last) =
    ap (λ (k : ℕ). records_at v d (length bytes) j.file last (begun n) k (drop k bytes)) (sym at)
    ∙ ap (λ (l : List ℕ). records_at v d (length bytes) j.file l (begun n) (compacted_bytes v n - 1) (drop (compacted_bytes v n - 1) bytes)) read.seal_is
    ∙ sym (ap (by_admission v d j.file bytes n) read.admitted) ∙ sym (ap (checkpoint_opens v d j.file bytes) read.need)
    ∙ sym (opens_behind v d j.file bytes true first.header (first.letter ∙ packed)) ∙ first.opens in
    record { steps = length bytes; enough = omega arith; state = begun n; then = first.then; last = first.last; opens = opens; left_is = refl }

-- the checkpoint was said, and the journal stands behind it
pub said_checkpoint : (d : Directory) (old new : List Call) (j next : InHand) (end : ℕ) (n : Need) (last : List ℕ) (gate : ℕ) → IsAtFirst d old j end → is_at_checkpoint j ≡ true
    → HasRead j.version d (drop 41 (file_of old j)) n last → gate + 1 ≡ compacted_bytes j.version n → SaysHere old new (take (gate - 41) (drop 41 (file_of old j)))
    → next ≡ record j { gate = gate; seal = last; ahead = []; is_all = false } → GoesOnBehind d old new next end (behind_header d old j)
said_checkpoint d old new j next end n last gate first packed read place says is =
    let bytes : List ℕ = file_of old j in
    let v : Version = j.version in
    let stands = checkpoint_stands v d bytes n gate read.admitted place in
    let rest : List ℕ = feed_at v (length bytes) last (drop gate bytes) in
    let there : InHand = record j { gate = gate; seal = last; ahead = []; is_all = false } in
    let reaches = checkpoint_reaches d old j end n last gate first packed read place in
    let at : IsAtGate d new there end rest = subst (λ (l : List ℕ). Reaches v d j.file last gate l end rest) (sym (says.only.files j.file)) reaches in
    record {
      piece = sealed v (first_seal v d.mark) (checkpoint_text n);
      rest = rest;
      is = checkpoint_first d old j end n last gate first packed read place;
      says = subst (SaysHere old new) stands.piece says;
      at = subst (λ (k : InHand). IsAtGate d new k end rest) (sym is) at;
    }

-- a front of it was said
pub broken_checkpoint : (d : Directory) (old new : List Call) (j : InHand) (end : ℕ) (n : Need) (last : List ℕ) (gate : ℕ) → IsAtFirst d old j end → is_at_checkpoint j ≡ true
    → HasRead j.version d (drop 41 (file_of old j)) n last → gate + 1 ≡ compacted_bytes j.version n → SaysFront old new (on 0 (take (gate - 41) (drop 41 (file_of old j))))
    → SaysFront old new (on 0 (behind_header d old j))
broken_checkpoint d old new j end n last gate first packed read place says =
    let bytes : List ℕ = file_of old j in
    let v : Version = j.version in
    let stands = checkpoint_stands v d bytes n gate read.admitted place in
    let front = subst (λ (l : List ℕ). SaysFront old new (on 0 l)) stands.piece says in
    subst (λ (l : List ℕ). SaysFront old new (on 0 l)) (sym (checkpoint_first d old j end n last gate first packed read place))
    (fronts_more old new (sealed v (first_seal v d.mark) (checkpoint_text n)) (feed_at v (length bytes) last (drop gate bytes)) front)

-- ---- the opening

-- a journal that was started on files that open stands at its first gate
pub at_opened : (d : Directory) (mid new : List Call) (j : InHand) (s : State) (mark : List ℕ) (end : ℕ) (at_end : List ℕ) → new ≡ Did Syncs ∷ mid → files_read written d (seen mid) ≡ Ok (s, end + 1, at_end)
    → mark ≡ d.mark → j.gate ≡ 40 → j.version ≡ written → j.seal ≡ first_seal j.version mark → StandsOn new j → first_fault mark (seen mid) ≡ None → is_checkpoint (file_of new j) ≡ is_at_checkpoint j
    → IsAtFirst d new j end
at_opened d mid new j s mark end at_end second opens_to ours gate version last on_it sound letter =
    let place : selected (seen mid) ≡ j.file = ap (λ (calls : List Call). selected (seen calls)) (sym second) ∙ on_it.selected_is in
    let bytes : file_of new j ≡ selected_bytes (seen mid) = ap (λ (calls : List Call). seen calls j.file) second ∙ ap (seen mid) (sym place) in
    record {
      gate = gate;
      seal_is = last ∙ ap (first_seal j.version) ours;
      header = ap (λ (v : Version). header_fault v d.mark j.file (file_of new j)) version ∙ ap (header_fault written d.mark j.file) bytes
          ∙ ap (λ (k : ℕ). header_fault written d.mark k (selected_bytes (seen mid))) (sym place) ∙ ap (λ (l : List ℕ). header_fault written l (selected (seen mid)) (selected_bytes (seen mid))) (sym ours) ∙ sound;
      letter = letter;
      then = s;
      last = at_end;
      opens = ap (λ (v : Version). file_opens v d j.file (file_of new j)) version ∙ ap (file_opens written d j.file) bytes
          ∙ ap (λ (k : ℕ). file_opens written d k (selected_bytes (seen mid))) (sym place) ∙ opens_to;
    }

-- what such files read to
pub read_to : (d : Directory) (mid : List Call) (opened : InHand) (s : State) → StandsFor d s mid opened → opened.version ≡ written → files_read written d (seen mid) ≡ Ok (s, opened.gate + 1, opened.seal)
read_to d mid opened s stands current = ap (λ (v : Version). files_read v d (seen mid)) (sym current) ∙ stands.opens_to

pub at_start : (d : Directory) (mid new : List Call) (opened j : InHand) (s : State) (mark : List ℕ) → new ≡ Did Syncs ∷ mid → StandsFor d s mid opened → opened.version ≡ written
    → mark ≡ d.mark → j.gate ≡ 40 → j.version ≡ written → j.seal ≡ first_seal j.version mark → StandsOn new j → first_fault mark (seen mid) ≡ None → is_checkpoint (file_of new j) ≡ is_at_checkpoint j
    → IsAtFirst d new j opened.gate
at_start d mid new opened j s mark second stands current ours gate version last on_it sound letter =
    at_opened d mid new j s mark opened.gate opened.seal second (read_to d mid opened s stands current) ours gate version last on_it sound letter

-- files that open have no fault in the header
pub no_fault_where : (d : Directory) (mid : List Call) (x : State × ℕ × List ℕ) (mark : List ℕ) (f : OpenFault) → files_read written d (seen mid) ≡ Ok x → mark ≡ d.mark
    → first_fault mark (seen mid) ≡ Some f → ⊥
no_fault_where d mid x mark f opens_to ours is = grind (arith, common_steps, faulty_header)

pub no_header_fault : (d : Directory) (mid : List Call) (opened : InHand) (s : State) (mark : List ℕ) (f : OpenFault) → StandsFor d s mid opened → opened.version ≡ written → mark ≡ d.mark
    → first_fault mark (seen mid) ≡ Some f → ⊥
no_header_fault d mid opened s mark f stands current ours is = no_fault_where d mid (s, opened.gate + 1, opened.seal) mark f (read_to d mid opened s stands current) ours is

pub quiet_start : (e : OpenFault) (found : Option OpenFault) → IsFaultOf e found → ((f : OpenFault) → found ≡ Some f → ⊥) → IsQuiet (ship_fault e)
quiet_start opening.DiskFault found is none = tt
quiet_start opening.NoMemory found is none = tt
quiet_start opening.NoJournal found is none = none opening.NoJournal is
quiet_start opening.OldVersion found is none = none opening.OldVersion is
quiet_start (opening.NotThis want there) found is none = none (opening.NotThis want there) is
quiet_start (opening.Damaged file at) found is none = none (opening.Damaged file at) is

-- one sync said nothing, and touched no file
pub synced_quiet : (old mid : List Call) → mid ≡ Did Syncs ∷ old → SaysOnly old mid []
synced_quiet old mid first = grind (arith, common_steps, said_none, untouched_call)

-- nor did one that was tried
pub syncs_say_nothing : (old new : List Call) → OnlySyncs old new → SaysOnly old new []
syncs_say_nothing old new (inl is) = synced_quiet old new is
syncs_say_nothing old new (inr (inl same)) = subst (λ (calls : List Call). SaysOnly old calls []) (sym same) (said_none old)
syncs_say_nothing old new (inr (inr left)) =
    subst (λ (calls : List Call). SaysOnly old calls []) (sym left.2)
    (record { said = (said_none old).said; files = λ file. refl; untouched = untouched_call old (Broken Syncs left.0 ∷ old) (Broken Syncs left.0) tt refl })

nothing_front : (old new : List Call) (x : List ℕ) → SaysOnly old new [] → SaysFront old new (on 0 x)
nothing_front old new x says = record { left = []; front = (on 0 x, refl); said = says }

-- behind a sync a quiet fault is answered with a front of what was to be said
pub quiet_answer : (d : Directory) (old new : List Call) (e : ShipFault) (x : List ℕ) → IsQuiet e → SaysFront (Did Syncs ∷ old) new (on 0 x) → IsShipFault e d old new x
quiet_answer d old new (fault.Open f) x quiet says = absurd quiet
quiet_answer d old new _ x quiet says = inr says

-- what follows a sync follows what was before it
pub behind_sync : (old mid new : List Call) (x : List ℕ) → SaysOnly old mid [] → SaysOnly mid new (on 0 x) → SaysOnly old new (on 0 x)
behind_sync old mid new x first second = said_more old mid new [] (on 0 x) first second

pub front_behind_sync : (old mid new : List Call) (x : List ℕ) → SaysOnly old mid [] → SaysFront mid new (on 0 x) → SaysFront old new (on 0 x)
front_behind_sync old mid new x first second = front_behind old mid new [] (on 0 x) first second

-- the need that files open to
pub opens_read : (d : Directory) (calls : List Call) (x : State × ℕ × List ℕ) → files_read written d (seen calls) ≡ Ok x → opens d (seen calls) ≡ Ok (need d (restarted d x.0))
opens_read d calls x is = grind (arith, common_steps)

-- files that read to something don't open to a fault
pub never_unopened : (d : Directory) (old new : List Call) (x : State × ℕ × List ℕ) → files_read written d (seen old) ≡ Ok x → OnlySyncsUnopened d old new
never_unopened d old new x reads fault is = grind (arith, common_steps, opens_read)

-- ---- the whole

-- what was said leaves a journal at its first gate
pub first_later : (d : Directory) (old new : List Call) (j : InHand) (end : ℕ) → file_of new j ≡ file_of old j → IsAtFirst d old j end → IsAtFirst d new j end
first_later d old new j end same first = grind (arith, common_steps)

same_behind : (d : Directory) (old new : List Call) (j : InHand) → file_of new j ≡ file_of old j → behind_header d new j ≡ behind_header d old j
same_behind d old new j same = ap (λ (l : List ℕ). feed_behind j.version (first_seal j.version d.mark) l (is_checkpoint l)) same

-- header, checkpoint and records are the feed
pub said_feed : {T : Type 0} (result : Result T ShipFault) (d : Directory) (old mid behind new : List Call) (j next : InHand) (end : ℕ) → SaysHere old mid (take 40 (file_of old j))
    → (first : GoesOnBehind d mid behind next end (behind_header d mid j)) → SaysRest result behind new first.rest → SaysRest result old new (feed j.version d.mark (file_of old j))
said_feed (Ok x) d old mid behind new j next end header first rest = grind (arith, common_steps, says_more, same_behind)
said_feed (Err e) d old mid behind new j next end header first rest =
    let tail = subst (λ (l : List ℕ). SaysFront mid new (on 0 l)) (sym first.is) (fronts_behind mid behind new first.piece first.rest first.says rest.1) in
    let there = subst (λ (l : List ℕ). SaysFront mid new (on 0 l)) (same_behind d old mid j (header.only.files j.file)) tail in
    (rest.0, fronts_behind old mid new (take 40 (file_of old j)) (behind_header d old j) header there)

pub broken_feed : (d : Directory) (old mid new : List Call) (j : InHand) → SaysHere old mid (take 40 (file_of old j)) → SaysFront mid new (on 0 (behind_header d mid j))
    → SaysFront old new (on 0 (feed j.version d.mark (file_of old j)))
broken_feed d old mid new j header tail = grind (arith, common_steps, same_behind, fronts_behind)

-- what stands in the file that was started stands in the files
pub same_file : (d : Directory) (old new : List Call) (j : InHand) → seen new ≡ seen old → StandsOn new j → file_of new j ≡ selected_bytes (seen old)
same_file d old new j same stands = ap (λ (files : Files). files j.file) same ∙ ap (seen old) (sym (ap (λ (files : Files). selected files) (sym same) ∙ stands.selected_is))

-- and what is said of it is the feed of the files
pub same_feed : (d : Directory) (old new : List Call) (j : InHand) → seen new ≡ seen old → j.version ≡ written → StandsOn new j → feed j.version d.mark (file_of new j) ≡ feed_of d old
same_feed d old new j same version stands = ap (λ (v : Version). feed v d.mark (file_of new j)) version ∙ ap (feed written d.mark) (same_file d old new j same stands)

-- the second sync said nothing
pub second_quiet : (d : Directory) (old now : List Call) (j : InHand) (end : ℕ) → HasOpened d old now j end → SaysOnly (Did Syncs ∷ old) now []
second_quiet d old now j end h = synced_quiet (Did Syncs ∷ old) now h.synced

-- behind the opening, and calls that said nothing, this was said
pub says_opened : {T : Type 0} (result : Result T ShipFault) (d : Directory) (old now later new : List Call) (j : InHand) (end : ℕ) (x : List ℕ) → HasOpened d old now j end → SaysOnly (Did Syncs ∷ old) later []
    → SaysRest result later new x → OnOk result (ShipsOnly d old new x)
says_opened (Ok y) d old now later new j end x h quiet says = record {
  need = need d (restarted d h.state);
  opened = opens_read d old (h.state, end + 1, h.last) h.reads;
  said = behind_sync (Did Syncs ∷ old) later new x quiet says.only;
}
says_opened (Err e) d old now later new j end x h quiet says = tt

pub breaks_opened : {T : Type 0} (result : Result T ShipFault) (d : Directory) (old later new : List Call) (x : List ℕ) → SaysOnly (Did Syncs ∷ old) later [] → SaysRest result later new x
    → IfErr result (λ e. IsShipFault e d old new x)
breaks_opened (Ok y) d old later new x quiet says = tt
breaks_opened (Err e) d old later new x quiet says = quiet_answer d old new e x says.0 (front_behind_sync (Did Syncs ∷ old) later new x quiet says.1)

-- nothing was said where a device failed
pub failed_quietly : (d : Directory) (old new : List Call) (e : ShipFault) (x : List ℕ) → SaysOnly (Did Syncs ∷ old) new [] → IsQuiet e → IsShipFault e d old new x
failed_quietly d old new e x quiet kind = quiet_answer d old new e x kind (nothing_front (Did Syncs ∷ old) new x quiet)

-- nothing was said where the journal wasn't started
pub not_started : (d : Directory) (old now new : List Call) (e : ShipFault) (x : List ℕ) → SaysOnly (Did Syncs ∷ old) now [] → OnlySyncs now new → IsQuiet e → IsShipFault e d old new x
not_started d old now new e x quiet syncs kind =
    quiet_answer d old new e x kind (front_behind_sync (Did Syncs ∷ old) now new x quiet (nothing_front now new x (syncs_say_nothing now new syncs)))

-- the feed of a journal that was opened
pub says_feed : {T : Type 0} (result : Result T ShipFault) (d : Directory) (old now new : List Call) (j : InHand) (end : ℕ) → HasOpened d old now j end
    → SaysRest result now new (feed j.version d.mark (file_of now j)) → SaysRest result now new (feed_of d old)
says_feed result d old now new j end h says = subst (SaysRest result now new) (same_feed d old now j (ap (λ (calls : List Call). seen calls) h.synced) h.version h.stands) says
