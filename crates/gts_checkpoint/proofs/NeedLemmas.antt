-- A need as it is written.
use Rattle.gts_checkpoint.proofs.Cited.{common_steps, ◌≡◌, ℕ, ◌+◌, ◌*◌, ◌^◌, ◌<◌, ◌≤◌, List, [], ◌∷◌, ◌++◌, length, map, flat_map, refl, sym, ap, ◌∙◌, append_assoc, length-append, arith, AllByRecursion, Call, CanPutBulletin, CanPutCircuit, Cuts, Did, FitsByte, HasWritten, SealingWriter, Syncs, Writes, bulletin_of, bulletin_text, checkpoint_file, checkpoint_text, circuit_need_of, circuit_text, closed_gate, head_text, header_text, magic, need_of, open_gate, put_by, sealed_need, seen, written, written_bulletin, written_circuit, Need, append-nil, length-map, eq-eqb, flat_of}
use Rattle.gts_event.specs.declared.values.Bulletin.{Bulletin}
use Rattle.gts_event.specs.declared.values.CircuitNeed.{CircuitNeed}
use Rattle.gts_event.specs.State as states
use Rattle.gts_event.specs.Need as needs
use Rattle.gts_checkpoint.proofs.WriterLemmas.{written_end}
use Rattle.gts_checkpoint.proofs.HeadLemmas.{length-bulletin_text, length-circuit_text}

-- the pieces of a need are its checkpoint
pub need_text : (n : Need) → head_text (length n.circuits) n.accepted (length n.bulletins) ++ flat_map written_bulletin n.bulletins ++ flat_map written_circuit n.circuits ≡ checkpoint_text (need_of n)
need_text n =
    let b : List ℕ = flat_map bulletin_text (map bulletin_of n.bulletins) in
    let c : List ℕ = flat_map circuit_text (map circuit_need_of n.circuits) in
    ap (λ (l : List ℕ). head_text (length n.circuits) n.accepted (length n.bulletins) ++ l ++ flat_map written_circuit n.circuits) (flat_of bulletin_text bulletin_of n.bulletins)
    ∙ ap (λ (l : List ℕ). head_text (length n.circuits) n.accepted (length n.bulletins) ++ b ++ l) (flat_of circuit_text circuit_need_of n.circuits)
    ∙ ap (λ (k : ℕ). head_text k n.accepted (length n.bulletins) ++ b ++ c) (sym (length-map n.circuits circuit_need_of))
    ∙ ap (λ (k : ℕ). head_text (length (map circuit_need_of n.circuits)) n.accepted k ++ b ++ c) (sym (length-map n.bulletins bulletin_of))

-- ---- what is written is longer than what is in it

pub body_within : (b : Bulletin) → 16 + length b.body ≡ length (written_bulletin b)
body_within b = sym (length-bulletin_text (bulletin_of b))

pub lists_within : (c : CircuitNeed) → 16 + 8 * (length c.waiting + length c.kept) ≡ length (written_circuit c)
lists_within c = sym (length-circuit_text (circuit_need_of c))

pub many_bulletins : (bs : List Bulletin) → 16 * length bs ≤ length (flat_map written_bulletin bs)
many_bulletins [] = omega arith
many_bulletins (b ∷ bs) = omega (arith, length-append (written_bulletin b) (flat_map written_bulletin bs), body_within b, many_bulletins bs)

pub many_circuits : (cs : List CircuitNeed) → 16 * length cs ≤ length (flat_map written_circuit cs)
many_circuits [] = omega arith
many_circuits (c ∷ cs) = omega (arith, length-append (written_circuit c) (flat_map written_circuit cs), lists_within c, many_circuits cs)

pub can_put_bulletins : (bs : List Bulletin) → AllByRecursion FitsByte (map bulletin_of bs) → length (flat_map written_bulletin bs) < 2 ^ 32 → AllByRecursion CanPutBulletin bs
can_put_bulletins [] fits few = tt
can_put_bulletins (b ∷ bs) fits few =
    let size = length-append (written_bulletin b) (flat_map written_bulletin bs) in
    ((fits.0, omega (arith, size, body_within b, few)), can_put_bulletins bs fits.1 (omega (arith, size, few)))

pub can_put_circuits : (cs : List CircuitNeed) → length (flat_map written_circuit cs) < 2 ^ 32 → AllByRecursion CanPutCircuit cs
can_put_circuits [] few = tt
can_put_circuits (c ∷ cs) few =
    let size = length-append (written_circuit c) (flat_map written_circuit cs) in
    ((omega (arith, size, lists_within c, few), omega (arith, size, lists_within c, few)), can_put_circuits cs (omega (arith, size, few)))

-- how the parts of a checkpoint's size come together
pub need_size : (n : Need) → 20 + length (flat_map written_bulletin n.bulletins) + length (flat_map written_circuit n.circuits) ≡ length (checkpoint_text (need_of n))
need_size n =
    let h : List ℕ = head_text (length n.circuits) n.accepted (length n.bulletins) in
    let b : List ℕ = flat_map written_bulletin n.bulletins in
    let c : List ℕ = flat_map written_circuit n.circuits in
    let long : length h ≡ 20 = refl in
    let e : 20 + length b + length c ≡ length ((h ++ b) ++ c) = omega (arith, long, length-append h b, length-append (h ++ b) c) in
    e ∙ ap (λ (l : List ℕ). length l) (need_text n)

-- ---- how long it is, by what it holds

bulletins_long : (bs : List states.Bulletin) → length (flat_map bulletin_text bs) ≡ 16 * length bs + length (flat_map (λ (b : states.Bulletin). b.body) bs)
bulletins_long [] = refl
bulletins_long (b ∷ bs) =
    omega (arith, length-bulletin_text b, length-append (bulletin_text b) (flat_map bulletin_text bs), length-append b.body (flat_map (λ (x : states.Bulletin). x.body) bs), bulletins_long bs)

circuits_long : (cs : List needs.CircuitNeed) → length (flat_map circuit_text cs) ≡ 16 * length cs + 8 * length (flat_map (λ (c : needs.CircuitNeed). c.waiting ++ c.kept) cs)
circuits_long [] = refl
circuits_long (c ∷ cs) =
    omega (arith, length-circuit_text c, length-append (circuit_text c) (flat_map circuit_text cs), length-append c.waiting c.kept, length-append (c.waiting ++ c.kept) (flat_map (λ (x : needs.CircuitNeed). x.waiting ++ x.kept) cs), circuits_long cs)

pub text_long : (n : needs.Need) → length (checkpoint_text n)
    ≡ 20 + (16 * length n.bulletins + length (flat_map (λ b. b.body) n.bulletins)) + (16 * length n.circuits + 8 * length (flat_map (λ c. c.waiting ++ c.kept) n.circuits))
text_long n = grind (arith, common_steps, bulletins_long, circuits_long)

-- ---- the whole file

pub file_is : (mark : List ℕ) (n : needs.Need) → header_text mark ++ (sealed_need mark n ++ (closed_gate ∷ [])) ≡ checkpoint_file mark n
file_is mark n =
    let m : List ℕ = magic written in
    let s : List ℕ = sealed_need mark n in
    let c : List ℕ = closed_gate ∷ [] in
    ap (λ (l : List ℕ). l ++ (s ++ c)) (sym (append_assoc m mark (open_gate ∷ [])))
    ∙ append_assoc (m ++ mark) (open_gate ∷ []) (s ++ c)
    ∙ sym (append_assoc (m ++ mark) (open_gate ∷ s) c)
    ∙ ap (λ (l : List ℕ). ((m ++ mark) ++ (open_gate ∷ l)) ++ c) (sym (append-nil s))

-- what was put behind what a file has is what it has then, where nothing is held
pub file_has : (text : List ℕ) (old new : List Call) (writer next : SealingWriter) → writer.held ≡ [] → next.held ≡ [] → next.file ≡ writer.file → put_by new next ≡ put_by old writer ++ text
    → seen new writer.file ≡ seen old writer.file ++ text
file_has text old new writer next held none in_file put = grind (arith, common_steps, append-nil)

-- ---- cut before, and synced behind

pub cut_empty : (file : ℕ) (old mid new : List Call) → mid ≡ Did (Cuts file 0) ∷ old → new ≡ Did Syncs ∷ mid → seen new file ≡ []
cut_empty file old mid new first second = grind (arith, common_steps, eq-eqb)

pub wrote_front : (file : ℕ) (text : List ℕ) (old new : List Call) → new ≡ Did (Writes file 0 text) ∷ old → seen old file ≡ [] → seen new file ≡ text
wrote_front file text old new is none = grind (arith, common_steps, eq-eqb, written_end)

pub has_written : (mark : List ℕ) (n : needs.Need) (file : ℕ) (mid new : List Call) → new ≡ Did Syncs ∷ mid → seen mid file ≡ checkpoint_file mark n → HasWritten mark n file new
has_written mark n file mid new is text = grind (arith, common_steps)
