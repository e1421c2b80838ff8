-- A checkpoint is written to the file that isn't the journal's.
use Rattle.gts_recovery.proofs.Cited.{◌≡◌, ℕ, ◌-◌, ◌<◌, List, [], ◌∷◌, ◌++◌, length, take, refl, sym, ap, arith, length-append, take_at, Call, EndsAt, HasWritten, InHand, IsClosedAt, Need, StandsOn, WorksBeside, checkpoint_file, checkpoint_text, closed_gate, compacted_bytes, first_seal, magic, open_gate, sealed, written, length-sealed, magic_size, same_stands, common_steps}

-- it ends at the closed gate behind the checkpoint
pub ends_there : (mark : List ℕ) (n : Need) (used : ℕ) → length mark ≡ 32 → used ≡ compacted_bytes written n
    → EndsAt (take (used - 1) (checkpoint_file mark n)) (checkpoint_file mark n)
ends_there mark n used long size =
    let last : List ℕ = first_seal written mark in
    let cp : List ℕ = sealed written last (checkpoint_text n) in
    let m : List ℕ = magic written in
    let front : List ℕ = (m ++ mark) ++ ((open_gate ∷ cp) ++ []) in
    let at : length front ≡ used - 1 =
    omega (arith, size, long, magic_size written, length-append m mark, length-append (m ++ mark) ((open_gate ∷ cp) ++ []), length-append cp [], length-sealed written last (checkpoint_text n)) in
    let same : take (used - 1) (front ++ closed_gate ∷ []) ≡ front = take_at front (closed_gate ∷ []) (used - 1) at in
    record { gate = closed_gate; behind = []; closed = refl; is = ap (λ (l : List ℕ). l ++ closed_gate ∷ []) (sym same) }

-- so it does once it is written
pub closed_there : (mark : List ℕ) (n : Need) (file : ℕ) (mid : List Call) (j : InHand) (used : ℕ) → HasWritten mark n file mid → length mark ≡ 32 → used ≡ compacted_bytes written n → IsClosedAt mid j file used
closed_there mark n file mid j used wrote long size = grind (arith, common_steps, ends_there)

-- the journal stands where it stood while the other file is written, also where nobody knows what it stands for
pub still_stands : (calls mid : List Call) (j : InHand) → StandsOn calls j → j.file < 2 → WorksBeside (1 - j.file) calls mid → StandsOn mid j
still_stands calls mid j stands low beside = grind (arith, common_steps, same_stands)
