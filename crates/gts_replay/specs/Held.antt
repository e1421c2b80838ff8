-- What a reader of a capture holds, and what its answers say.
use Rattle.std.specs.Prelude.{◌≡◌, ℕ, ◌+◌, ◌-◌, ◌<◌, ◌≤◌, List, [], ◌∷◌, ◌++◌, length, take, Result, Err, OnOk}
use Rattle.gts_replay.specs.Cited.Below.{CaptureKind, IsFrontIn, IsHeadIn, IsPartIn, LONGEST_CAPTURE, Rose, head_text}
use Rattle.gts_replay.specs.Heads.{head_of}
use Rattle.gts_replay.specs.declared.capture_fault.CaptureFault.{CaptureFault}
use Rattle.gts_replay.specs.declared.capture_fault.CaptureFault.TheVariants as capture
use Rattle.gts_replay.specs.declared.head.Head.{Head}
use Rattle.gts_replay.specs.declared.head_cursor.Stop.{Stop}
use Rattle.gts_replay.specs.declared.head_cursor.Stop.TheVariants.{More, Bad}

-- Of how many circuits the capture is, and of which kind; the bytes that were read ahead; the place of the first of
-- these in the capture; and how many bytes of the last feed weren't taken yet.
pub record Held : Type 0 where
  pub circuits : ℕ
  pub kind : CaptureKind
  pub ahead : List ℕ
  pub at : ℕ
  pub feed : ℕ

-- before the first byte of a capture
abbrev pub at_start : (circuits : ℕ) → (kind : CaptureKind) → Held
at_start circuits kind = record { circuits = circuits; kind = kind; ahead = []; at = 0; feed = 0 }

-- a head stands at the front of these bytes, and these behind it
pub record BeginsWithHead (circuits : ℕ) (kind : CaptureKind) (bytes : List ℕ) (head : Head) (rest : List ℕ) : Type 0 where
  pub valid : IsHeadIn circuits kind (head_of head)
  pub text : bytes ≡ head_text (head_of head) ++ rest

-- why no head stands at the front of these bytes: they end in one, or so many are left from the first bad one on
abbrev pub IsStop : (circuits : ℕ) → (kind : CaptureKind) → List ℕ → Stop → Type 0
IsStop circuits kind bytes More = IsPartIn circuits kind bytes
IsStop circuits kind bytes (Bad left) =
    (front : List ℕ) × (byte : ℕ) × (unread : List ℕ) × (bytes ≡ front ++ byte ∷ unread) × (left ≡ length (byte ∷ unread))
    × IsPartIn circuits kind front × (IsFrontIn circuits kind (front ++ byte ∷ []) → ⊥)

-- What is read of bytes that stand in a capture from this place on: the longest capture ends in them.
abbrev pub readable_from : ℕ → List ℕ → List ℕ
readable_from place left = take (LONGEST_CAPTURE - place) left

-- of the same capture
pub record IsSameCapture (old new : Held) : Type 0 where
  pub circuits : new.circuits ≡ old.circuits
  pub kind : new.kind ≡ old.kind

-- so many bytes of a feed were passed over, and none behind the longest capture
pub record Passed (old new : Held) (count : ℕ) : Type 0 where
  pub feed : new.feed + count ≡ old.feed
  pub at : new.at ≡ old.at + count
  pub within : new.at ≤ LONGEST_CAPTURE

-- What is read of what is left is bad at a place: at the first byte that no capture has there, or where the bytes end in a head.
pub data IsBadAt (held : Held) (left : List ℕ) (at : ℕ) : Type 0 where
  BadByte : (front : List ℕ) (byte : ℕ) (unread : List ℕ) → IsPartIn held.circuits held.kind front
      → (IsFrontIn held.circuits held.kind (front ++ byte ∷ []) → ⊥) → left ≡ front ++ byte ∷ unread
      → at ≡ held.at + length front → IsBadAt held left at
  EndsInHead : IsPartIn held.circuits held.kind left → at ≡ held.at + length left → IsBadAt held left at

-- What is read of what is left ends in a feed: nothing is left of it, and bytes of it are still to come.
pub record EndsInFeed (held : Held) (left : List ℕ) (at : ℕ) : Type 0 where
  pub nothing : left ≡ []
  pub announced : 0 < held.feed
  pub place : at ≡ held.at

-- The source failed in a head: what is held is the beginning of one, and nothing else was taken from what is left.
pub record StopsInHead (old new : Held) (before after : List ℕ) : Type 0 where
  pub kept : new.ahead ++ after ≡ old.ahead ++ before
  pub begun : IsPartIn new.circuits new.kind new.ahead
  pub place : new.at ≡ old.at
  pub within : new.at + length new.ahead ≤ LONGEST_CAPTURE

-- The source failed in a feed: nothing is held, and nothing was taken from what is left.
pub record StopsInFeed (old new : Held) (before after : List ℕ) : Type 0 where
  pub kept : after ≡ before
  pub empty : old.ahead ≡ []
  pub unchanged : new ≡ old

-- the source's fault is answered only where its count rose, and without one the count is as before
pub record HasSourceCause {T : Type 0} (result : Result T CaptureFault) (before now : ℕ) : Type 0 where
  pub later : before ≤ now
  pub failed : result ≡ Err capture.SourceFault → Rose before now
  pub sound : OnOk result (now ≡ before)
  pub bad : (at : ℕ) → result ≡ Err (capture.Bad at) → now ≡ before
