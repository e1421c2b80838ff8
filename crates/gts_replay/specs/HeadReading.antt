-- A head read from left to right: it is there, and leaves the bytes behind it; or the bytes end in it; or a byte can't
-- stand in its place.
use Rattle.std.specs.Prelude.{ℕ, zero, suc, ◌+◌, ◌-◌, ◌*◌, ◌/◌, Bool, ◌&&◌, ◌||◌, ◌==◌, nat_lt, List, [], ◌∷◌, length, Result, Ok, Err, if◌then◌else◌}
use Rattle.gts_replay.specs.Cited.Below.{CaptureKind, is_ascii_digit}
use Rattle.gts_replay.specs.Heads.{has_journal}
use Rattle.gts_replay.specs.declared.head.Head.{Head}
use Rattle.gts_replay.specs.declared.head.Head.TheVariants.{Feed, Take, Reopen, Drain, Restart, Compact, End}
use Rattle.gts_replay.specs.declared.head_cursor.Stop.{Stop}
use Rattle.gts_replay.specs.declared.head_cursor.Stop.TheVariants.{More, Bad}

-- the next part, where this one is there
infixl 10 ◌>>=◌
abbrev pub ◌>>=◌ : {A B : Type 0} → Result A Stop → (A → Result B Stop) → Result B Stop
(Ok x) >>= f = f x
(Err e) >>= f = Err e

-- a byte that passes a test
abbrev pub byte_where : (ℕ → Bool) → List ℕ → Result (ℕ × List ℕ) Stop
byte_where test [] = Err More
byte_where test (byte ∷ rest) = if test byte then Ok (byte, rest) else Err (Bad (length (byte ∷ rest)))

-- a digit below a limit, and its number; 48 is the digit 0
abbrev pub is_digit_below : ℕ → ℕ → Bool
is_digit_below limit byte = is_ascii_digit byte && nat_lt (byte - 48) limit

abbrev pub digit_at : ℕ → List ℕ → Result (ℕ × List ℕ) Stop
digit_at limit bytes = do
  digit ← byte_where (is_digit_below limit) bytes
  Ok (digit.0 - 48, digit.1)

-- so many digits behind those of a number
unfoldable pub digits_at : ℕ → ℕ → List ℕ → Result (ℕ × List ℕ) Stop
digits_at zero number bytes = Ok (number, bytes)
digits_at (suc more) number bytes = do
  digit ← digit_at 10 bytes
  digits_at more (10 * number + digit.0) digit.1

-- a blank (32), and the two digits of one of the circuits
unfoldable pub circuit_at : ℕ → List ℕ → Result (ℕ × List ℕ) Stop
circuit_at circuits bytes = do
  blank ← byte_where (λ byte. byte == 32) bytes
  tens ← digit_at ((circuits + 9) / 10) blank.1
  units ← digit_at (circuits - 10 * tens.0) tens.1
  Ok (10 * tens.0 + units.0, units.1)

-- a blank, and the six digits of a size
unfoldable pub size_at : List ℕ → Result (ℕ × List ℕ) Stop
size_at bytes = do
  blank ← byte_where (λ byte. byte == 32) bytes
  digits_at 6 0 blank.1

-- LF (10), the end of a head
unfoldable pub end_at : Head → List ℕ → Result (Head × List ℕ) Stop
end_at head bytes = do
  lf ← byte_where (λ byte. byte == 10) bytes
  Ok (head, lf.1)

-- Some head begins with this byte. F, T, O and D (70, 84, 79 and 68) name a circuit; R and C (82 and 67) stand in no plain
-- capture; E is 69.
abbrev pub is_letter : (circuits : ℕ) → CaptureKind → ℕ → Bool
is_letter circuits kind byte =
    (nat_lt 0 circuits && ((byte == 70) || (byte == 84) || (byte == 79) || (byte == 68)))
    || (has_journal kind && ((byte == 82) || (byte == 67))) || (byte == 69)

abbrev pub letter_at : (circuits : ℕ) → CaptureKind → List ℕ → Result (ℕ × List ℕ) Stop
letter_at circuits kind bytes = byte_where (is_letter circuits kind) bytes

-- what stands behind the first byte of a head
unfoldable pub behind_letter : ℕ → ℕ × List ℕ → Result (Head × List ℕ) Stop
behind_letter circuits first =
    if first.0 == 70 then circuit_at circuits first.1 >>= (λ c. size_at c.1 >>= (λ size. end_at (Feed c.0 size.0) size.1))
    else if first.0 == 84 then circuit_at circuits first.1 >>= (λ c. end_at (Take c.0) c.1)
    else if first.0 == 79 then circuit_at circuits first.1 >>= (λ c. end_at (Reopen c.0) c.1)
    else if first.0 == 68 then circuit_at circuits first.1 >>= (λ c. end_at (Drain c.0) c.1)
    else if first.0 == 82 then end_at Restart first.1
    else if first.0 == 67 then end_at Compact first.1 else end_at End first.1

-- a head at the front
unfoldable pub head_at : (circuits : ℕ) → CaptureKind → List ℕ → Result (Head × List ℕ) Stop
head_at circuits kind bytes = letter_at circuits kind bytes >>= behind_letter circuits
