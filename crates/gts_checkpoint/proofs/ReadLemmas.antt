-- Whether a need that was read may be the first record of a journal.
use Rattle.gts_checkpoint.proofs.Cited.{common_steps, ◌≡◌, ℕ, ◌+◌, ◌-◌, ◌*◌, ◌^◌, ◌<◌, ◌≤◌, Bool, true, false, ◌&&◌, nat_eq, nat_le, List, [], ◌∷◌, length, map, take, zip, flat_map, Result, Ok, Err, sym, ap, subst, ◌∙◌, arith, length-append, min, is_some, IfErr, IfSome, Option, None, Some, BeginsWith, Bulletin, Call, CanBegin, Circuit, CircuitState, Directory, DiskFault, FindsText, FitBodies, FitsNeed, HasRead, IsDamage, IsReadFault, NoMemory, OpenFault, Version, admits_checkpoint, begun, begun_circuit, bytes_from, checkpoint_text, circuit_need, circuit_need_of, compacted_bytes, draw_size, due, first_of, first_seal, fold, held, is_bulletin, is_sealed, is_sound, list_all, need_in, need_of, seal, seal_size, starts_with, unowed, waiting, waiting_of, Need, false≢true, and_parts, and_from, le-leb, leb-true, false_from_ne_true, length-map, take_at, need-begun, sound-parts, bulletin_bounds, starts_with-append, need_in-text, fits-sound}
use Rattle.gts_event.specs.Need as needs
use Rattle.gts_event.specs.declared.values.CircuitNeed as value_circuit
use Rattle.gts_checkpoint.proofs.HeadLemmas.{starts_there}

-- ---- what waits on circuits of which this is needed

waits : (a : ℕ) (rows : List Circuit) (qs : List CircuitState) (cs : List value_circuit.CircuitNeed) → length qs ≡ length rows
    → map (λ row. circuit_need row.0.kept row.1) (zip rows qs) ≡ map circuit_need_of cs
    → fold (λ (m : ℕ) (q : CircuitState). m + length (waiting q)) a qs ≡ a + length (flat_map waiting_of cs)
waits a [] [] [] few e = omega arith
waits a (row ∷ rows) (q ∷ qs) (c ∷ cs) few e =
    let first : circuit_need row.kept q ≡ circuit_need_of c = cc e in
    let rest : map (λ row. circuit_need row.0.kept row.1) (zip rows qs) ≡ map circuit_need_of cs = cc e in
    let here : length (waiting q) ≡ length c.waiting = ap (λ (n : needs.CircuitNeed). length n.waiting) first in
    waits (a + length (waiting q)) rows qs cs (omega arith) rest
    ∙ omega (arith, here, length-append c.waiting (flat_map waiting_of cs))
waits a [] [] (c ∷ cs) few e = absurd (cc e)
waits a (row ∷ rows) (q ∷ qs) [] few e = absurd (cc e)
waits a _ _ cs few e = absurd (omega arith)

pub due_is : (d : Directory) (n : Need) → is_sound d (need_of n) ≡ true → due (begun (need_of n)) ≡ length (flat_map waiting_of n.circuits)
due_is d n sound =
    let same = (sound-parts d (need_of n) sound).same in
    let few : length (map begun_circuit (map circuit_need_of n.circuits)) ≡ length d.circuits = length-map (map circuit_need_of n.circuits) begun_circuit ∙ same in
    waits 0 d.circuits (map begun_circuit (map circuit_need_of n.circuits)) n.circuits few (ap (λ (m : needs.Need). m.circuits) (need-begun d (need_of n) sound))
    ∙ (let e : 0 + length (flat_map waiting_of n.circuits) ≡ length (flat_map waiting_of n.circuits) = omega arith in e)

-- ---- what may be the first record

pub need_read : (bytes : List ℕ) (n : needs.Need) → BeginsWith bytes (checkpoint_text n) → FitsNeed n → unowed n ≡ n → need_in bytes ≡ n
need_read bytes n begins fits free = ap need_in begins.1 ∙ need_in-text n begins.0 fits ∙ free

pub admitted : (v : Version) (d : Directory) (bytes : List ℕ) (n : needs.Need) → BeginsWith bytes (checkpoint_text n) → is_sealed v (first_seal v d.mark) (checkpoint_text n) bytes ≡ true → is_sound d n ≡ true
    → compacted_bytes v n + draw_size v * due (begun n) ≤ d.limit → admits_checkpoint v d bytes n ≡ true
admitted v d bytes n begins stands sound room = grind (arith, common_steps, and_from, le-leb, starts_with-append)

pub record MayBegin (v : Version) (d : Directory) (bytes : List ℕ) (n : needs.Need) : Type 0 where
  pub begins : BeginsWith bytes (checkpoint_text n)
  pub stands : is_sealed v (first_seal v d.mark) (checkpoint_text n) bytes ≡ true
  pub sound : is_sound d n ≡ true
  pub room : compacted_bytes v n + draw_size v * due (begun n) ≤ d.limit

pub may_begin : (v : Version) (d : Directory) (bytes : List ℕ) (n : needs.Need) → admits_checkpoint v d bytes n ≡ true → MayBegin v d bytes n
may_begin v d bytes n h =
    let sealing : Bool = is_sealed v (first_seal v d.mark) (checkpoint_text n) bytes in
    let h1 = and_parts _ (nat_le (compacted_bytes v n + draw_size v * due (begun n)) d.limit) h in
    let h2 = and_parts (starts_with nat_eq bytes (checkpoint_text n) && sealing) (is_sound d n) h1.0 in
    let h3 = and_parts (starts_with nat_eq bytes (checkpoint_text n)) sealing h2.0 in
    record { begins = starts_there bytes (checkpoint_text n) h3.0; stands = h3.1; sound = h2.1; room = leb-true (compacted_bytes v n + draw_size v * due (begun n)) d.limit h1.1 }

pub fit_bodies : (d : Directory) (accepted : ℕ) (bs : List Bulletin) → accepted ≤ 2 ^ 62 → list_all (is_bulletin d accepted) bs ≡ true → FitBodies bs
fit_bodies d accepted [] few all = tt
fit_bodies d accepted (b ∷ bs) few all =
    let p = and_parts (is_bulletin d accepted b) (list_all (is_bulletin d accepted) bs) all in
    let bounds = bulletin_bounds d accepted b p.0 in
    ((omega (arith, bounds.0), bounds.1), fit_bodies d accepted bs few p.1)

-- none stands there
pub none_there : (v : Version) (d : Directory) (bytes : List ℕ) (count : ℕ) → count ≡ length d.circuits → d.limit < 256 ^ 4
    → ((m : needs.Need) → FitsNeed m → length m.circuits ≡ count → FitBodies m.bulletins → BeginsWith bytes (checkpoint_text m) → ⊥)
    → admits_checkpoint v d bytes (need_in bytes) ≡ false
none_there v d bytes count few low none = false_from_ne_true (admits_checkpoint v d bytes (need_in bytes)) (λ h.
    let p = may_begin v d bytes (need_in bytes) h in
    let s = sound-parts d (need_in bytes) p.sound in
    none (need_in bytes) (fits-sound v d (need_in bytes) p.sound (omega (arith, p.room, low))) (s.same ∙ sym few) (fit_bodies d (need_in bytes).accepted (need_in bytes).bulletins s.few s.bodies) p.begins)

-- one stands there that may not be the first record
pub not_first : (v : Version) (d : Directory) (bytes : List ℕ) (n : needs.Need) → need_in bytes ≡ n → (is_sound d n ≡ true → compacted_bytes v n + draw_size v * due (begun n) ≤ d.limit → ⊥)
    → admits_checkpoint v d bytes (need_in bytes) ≡ false
not_first v d bytes n is none = grind (arith, common_steps, false_from_ne_true, may_begin)

-- one stands there without its seal
pub not_sealed : (v : Version) (d : Directory) (bytes : List ℕ) (n : needs.Need) → need_in bytes ≡ n → is_sealed v (first_seal v d.mark) (checkpoint_text n) bytes ≡ false
    → admits_checkpoint v d bytes (need_in bytes) ≡ false
not_sealed v d bytes n is none = false_from_ne_true (admits_checkpoint v d bytes (need_in bytes)) (λ h.
    let p = may_begin v d bytes n (ap (admits_checkpoint v d bytes) (sym is) ∙ h) in absurd (cc (p.stands, none)))

-- the text at the front, by its size
pub text_there : (bytes : List ℕ) (n : needs.Need) (size : ℕ) → BeginsWith bytes (checkpoint_text n) → size ≡ length (checkpoint_text n) → take size bytes ≡ checkpoint_text n
text_there bytes n size begins is = ap (take size) begins.1 ∙ take_at (checkpoint_text n) begins.0 size (sym is)

pub there_are : (bytes : List ℕ) (n : needs.Need) (size : ℕ) → BeginsWith bytes (checkpoint_text n) → size ≡ length (checkpoint_text n) → size ≤ length bytes
there_are bytes n size begins is = omega (arith, is, ap (λ (l : List ℕ). length l) begins.1, length-append (checkpoint_text n) begins.0)

-- ---- why it isn't read

pub no_damage : {T : Type 0} (v : Version) (d : Directory) (file : ℕ) (bytes : List ℕ) (r : Result T OpenFault) → IfErr r IsReadFault → IfErr r (IsDamage v d file bytes)
no_damage v d file bytes (Ok x) h = tt
no_damage v d file bytes (Err DiskFault) h = h
no_damage v d file bytes (Err NoMemory) h = h
no_damage v d file bytes _ h = absurd h

-- ---- the room that is counted

-- a number that is counted up to the greatest one, where it isn't that
counted : (w waits : ℕ) → w ≡ min waits (2 ^ 64 - 1) → w ≤ 2 ^ 30 → w ≡ waits
counted w waits is low = omega arith

all_counted : (w waits : ℕ) → w ≡ min waits (2 ^ 64 - 1) → waits ≤ 2 ^ 30 → w ≡ waits
all_counted w waits is low = omega arith

-- a checkpoint's text stands at the front, and its need is as a checkpoint has it
pub record Stands (bytes : List ℕ) (n : needs.Need) : Type 0 where
  pub begins : BeginsWith bytes (checkpoint_text n)
  pub fits : FitsNeed n
  pub free : unowed n ≡ n

-- How much waits was counted up to the greatest number, the text ends at a place, and the limit is that of the directory.
pub record Counted (d : Directory) (n : Need) (at w limit : ℕ) : Type 0 where
  pub waits : w ≡ min (length (flat_map waiting_of n.circuits)) (2 ^ 64 - 1)
  pub place : at ≡ 41 + length (checkpoint_text (need_of n))
  pub limit_is : limit ≡ d.limit
  pub low : limit ≤ 2 ^ 30

pub stands_there : (bytes : List ℕ) (count : ℕ) (found : Option (Need × ℕ)) (n : Need) (at : ℕ) → found ≡ Some (n, at) → FindsText bytes count (first_of found)
    → IfSome found (λ f. FitsNeed (need_of f.0)) → IfSome found (λ f. unowed (need_of f.0) ≡ need_of f.0) → Stands bytes (need_of n)
stands_there bytes count found n at is finds fits free = grind (arith, common_steps)

place_is : (found : Option (Need × ℕ)) (n : Need) (at : ℕ) → found ≡ Some (n, at) → IfSome found (λ f. f.1 ≡ 41 + length (checkpoint_text (need_of f.0))) → at ≡ 41 + length (checkpoint_text (need_of n))
place_is found n at is place = let F : Option (Need × ℕ) → Type 0 = λ o. IfSome o (λ f. f.1 ≡ 41 + length (checkpoint_text (need_of f.0))) in subst F is place

pub counts_there : (d : Directory) (found : Option (Need × ℕ)) (n : Need) (at w limit : ℕ) (circuits : List value_circuit.CircuitNeed) → found ≡ Some (n, at)
    → IfSome found (λ f. f.1 ≡ 41 + length (checkpoint_text (need_of f.0))) → w ≡ min (length (flat_map waiting_of circuits)) (2 ^ 64 - 1) → circuits ≡ n.circuits → limit ≡ d.limit → limit ≤ 2 ^ 30
    → Counted d n at w limit
counts_there d found n at w limit circuits is place w_is same limit_is low = grind (arith, common_steps, place_is, waits)

-- the bytes of the text stand there
pub size_there : (bytes : List ℕ) (n : Need) (found : Option (Need × ℕ)) (at : ℕ) → found ≡ Some (n, at) → Stands bytes (need_of n)
    → IfSome found (λ f. f.1 ≡ 41 + length (checkpoint_text (need_of f.0))) → at - 41 ≤ length bytes
size_there bytes n found at is stands place = grind (arith, common_steps, there_are, place_is)

-- there is room for all that is due
pub can_begin : (v : Version) (d : Directory) (n : Need) (at w limit gate : ℕ) → Counted d n at w limit → unowed (need_of n) ≡ need_of n → is_sound d (need_of n) ≡ true
    → gate ≡ at + seal_size v → gate + 1 + draw_size v * w ≤ limit → CanBegin v d (need_of n) gate
can_begin v d n at w limit gate counts free sound gate_is room = grind (arith, common_steps, counted, due_is, waits)

-- there is none, however it is counted
pub over_limit : (v : Version) (d : Directory) (n : Need) (at w limit : ℕ) → Counted d n at w limit → limit < at + seal_size v + 1 + draw_size v * w
    → is_sound d (need_of n) ≡ true → compacted_bytes v (need_of n) + draw_size v * due (begun (need_of n)) ≤ d.limit → ⊥
over_limit v d n at w limit counts over sound room = grind (arith, common_steps, all_counted, due_is, waits)

pub no_room : (v : Version) (d : Directory) (bytes : List ℕ) (n : Need) (at w limit : ℕ) → Stands bytes (need_of n) → Counted d n at w limit
    → limit < at + seal_size v + 1 + draw_size v * w → admits_checkpoint v d bytes (need_in bytes) ≡ false
no_room v d bytes n at w limit stands counts over =
    not_first v d bytes (need_of n) (need_read bytes (need_of n) stands.begins stands.fits stands.free) (over_limit v d n at w limit counts over)

-- no history can have it
pub not_sound : (v : Version) (d : Directory) (bytes : List ℕ) (n : needs.Need) → Stands bytes n → is_sound d n ≡ false → admits_checkpoint v d bytes (need_in bytes) ≡ false
not_sound v d bytes n stands none =
    not_first v d bytes n (need_read bytes n stands.begins stands.fits stands.free) (λ sound room. absurd (false≢true (sym none ∙ sound)))

-- ---- its seal

-- what was compared: as many bytes as the text has, with the seal of what they are, where this seal stands before them
pub record Compared (v : Version) (d : Directory) (bytes : List ℕ) (n : needs.Need) (before : List ℕ) (size : ℕ) (found : Option (List ℕ)) : Type 0 where
  pub before_is : held v before ≡ first_seal v d.mark
  pub size_is : size ≡ length (checkpoint_text n)
  pub stands : is_some found ≡ is_sealed v (held v before) (take size bytes) bytes

pub compares : (v : Version) (d : Directory) (calls now : List Call) (file : ℕ) (n : Need) (at : ℕ) (found : Option (Need × ℕ)) (before mark : List ℕ) (last : Option (List ℕ)) → found ≡ Some (n, at)
    → IfSome found (λ f. f.1 ≡ 41 + length (checkpoint_text (need_of f.0))) → now ≡ calls → held v before ≡ first_seal v mark → mark ≡ d.mark
    → is_some last ≡ is_sealed v (held v before) (take (at - 41) (bytes_from now file 41)) (bytes_from now file 41) → Compared v d (bytes_from calls file 41) (need_of n) before (at - 41) last
compares v d calls now file n at found before mark last is place told before_is mark_is stands = grind (arith, common_steps, place_is)

same_seal : (v : Version) (d : Directory) (bytes : List ℕ) (n : needs.Need) (before : List ℕ) (size : ℕ) (found : Option (List ℕ)) → Stands bytes n → Compared v d bytes n before size found
    → is_sealed v (first_seal v d.mark) (checkpoint_text n) bytes ≡ is_some found
same_seal v d bytes n before size found stands compared = grind (arith, common_steps, text_there)

-- it stands there without its seal
pub no_seal : (v : Version) (d : Directory) (bytes : List ℕ) (n : needs.Need) (before : List ℕ) (size : ℕ) (found : Option (List ℕ)) → Stands bytes n → Compared v d bytes n before size found
    → found ≡ None → admits_checkpoint v d bytes (need_in bytes) ≡ false
no_seal v d bytes n before size found stands compared is =
    not_sealed v d bytes n (need_read bytes n stands.begins stands.fits stands.free) (same_seal v d bytes n before size found stands compared ∙ ap (λ (o : Option (List ℕ)). is_some o) is)

-- it stands there with its seal
pub has_read : (v : Version) (d : Directory) (bytes : List ℕ) (n : needs.Need) (before : List ℕ) (size gate : ℕ) (found : Option (List ℕ)) (last : List ℕ) → Stands bytes n → Compared v d bytes n before size found
    → CanBegin v d n gate → found ≡ Some last → held v last ≡ seal v (held v before) (take size bytes) → HasRead v d bytes n (held v last)
has_read v d bytes n before size gate found last stands compared can is seal_of = record {
  need = need_read bytes n stands.begins stands.fits stands.free;
  admitted = admitted v d bytes n stands.begins (same_seal v d bytes n before size found stands compared ∙ ap (λ (o : Option (List ℕ)). is_some o) is) can.sound (omega (arith, can.place, can.room));
  seal_is = seal_of ∙ ap (λ (l : List ℕ). seal v l (take size bytes)) compared.before_is ∙ ap (seal v (first_seal v d.mark)) (text_there bytes n size stands.begins compared.size_is);
}
