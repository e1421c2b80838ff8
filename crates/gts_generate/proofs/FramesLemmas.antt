-- What was said on the circuits, piece by piece, and the frames in it.
use Rattle.gts_generate.proofs.Cited.{◌≡◌, ℕ, ◌+◌, Bool, true, false, cond, ◌==◌, List, [], ◌∷◌, ◌++◌, refl, ap, arith, if◌then◌else◌, length, map-append, filter-append, sum_by-append, An, Bi, ETX, Fx, Kind, Outside, dec, frame, frames_in, frames_said, is_circuit, letters, message_of, on, common_steps}
use Rattle.gts_generate.proofs.ByteLemmas.{lacks, lacks-dec, counts-none}

pub frames-append : (xs ys : Outside) → frames_said (xs ++ ys) ≡ frames_said xs ++ frames_said ys
frames-append xs ys = grind (arith, common_steps, filter-append, map-append)

-- bytes on the channel of a circuit, and on another one
frames-there : (channel : ℕ) (bytes : List ℕ) → is_circuit channel ≡ true → frames_said (on channel bytes) ≡ bytes
frames-there channel [] here = refl
frames-there channel (byte ∷ bytes) here = rw here (ap (λ (l : List ℕ). byte ∷ l) (frames-there channel bytes here))

frames-elsewhere : (channel : ℕ) (bytes : List ℕ) → is_circuit channel ≡ false → frames_said (on channel bytes) ≡ []
frames-elsewhere channel [] here = refl
frames-elsewhere channel (byte ∷ bytes) here = rw here (frames-elsewhere channel bytes here)

pub frames-where : (there : Bool) (channel : ℕ) (bytes : List ℕ) → is_circuit channel ≡ there
    → frames_said (on channel bytes) ≡ (if there then bytes else [])
frames-where true channel bytes here = frames-there channel bytes here
frames-where false channel bytes here = frames-elsewhere channel bytes here

-- ---- the ends of frames

pub ends-append : (xs ys : List ℕ) → frames_in (xs ++ ys) ≡ frames_in xs + frames_in ys
ends-append xs ys = sum_by-append (λ (byte : ℕ). cond (byte == ETX) 1 0) xs ys

-- none in what lacks ETX
pub no-end : (bytes : List ℕ) → lacks ETX bytes ≡ true → frames_in bytes ≡ 0
no-end bytes e = counts-none ETX bytes e

-- a message has the ends of its body, where its number has none
pub ends-message : (number body : List ℕ) → lacks ETX number ≡ true → frames_in (message_of number body) ≡ frames_in body
ends-message number body e = grind (arith, common_steps, ends-append, no-end)

-- and a frame those of its message
pub ends-frame : (kind : Kind) (message : List ℕ) → frames_in (frame kind message) ≡ frames_in message
ends-frame kind message =
    let size : List ℕ = dec 8 (length message) in
    omega (
      arith,
      ends-append (size ++ letters kind) message,
      ends-append size (letters kind),
      no-end size (lacks-dec ETX 8 (length message) (omega arith)),
      no-letter kind,
    )
  where
    no-letter : (k : Kind) → frames_in (letters k) ≡ 0
    no-letter An = refl
    no-letter Bi = refl
    no-letter Fx = refl
