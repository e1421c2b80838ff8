-- How far a capture was read.
use Rattle.std.specs.Prelude.{◌≡◌, ℕ, ◌+◌, ◌≤◌, List, [], ◌∷◌, ◌++◌, length, flat_map}
use Rattle.gts_replay.specs.Cited.Below.{AreStepsOf, CaptureKind, Directory, EndsEarlyOf, Feed, FeedHead, IsHeadIn, IsHeadOf, LONGEST_CAPTURE, ReadingOf, Step, head_of, head_text, step_text}
use Rattle.gts_replay.specs.Held.{Held, IsSameCapture, readable_from}

-- These steps of a capture of this kind, under a directory, were read, and this is left.
pub record IsReadTo (kind : CaptureKind) (d : Directory) (bytes : List ℕ) (steps : List Step) (held : Held) (left : List ℕ) : Type 0 where
  pub circuits : held.circuits ≡ length d.circuits
  pub of_kind : held.kind ≡ kind
  pub are : AreStepsOf kind d steps
  pub text : bytes ≡ flat_map step_text steps ++ left
  pub place : held.at ≡ length (flat_map step_text steps)
  pub within : held.at ≤ LONGEST_CAPTURE

-- The next step of what is left was read, and so much is left behind it.
pub record Passes (step : Step) (old new : Held) (before after : List ℕ) : Type 0 where
  pub valid : IsHeadIn old.circuits old.kind (head_of step)
  pub text : before ≡ step_text step ++ after
  pub same : IsSameCapture old new
  pub place : new.at ≡ old.at + length (step_text step)
  pub within : new.at ≤ LONGEST_CAPTURE

-- Behind these steps a feed of so many bytes was begun, and this piece of it was read; these bytes are left.
pub record IsInFeed (kind : CaptureKind) (d : Directory) (bytes : List ℕ) (steps : List Step) (held : Held) (c n : ℕ)
    (piece left : List ℕ) : Type 0 where
  pub read : IsReadTo kind d bytes steps held (head_text (FeedHead c n) ++ piece ++ left)
  pub head : IsHeadOf kind d (FeedHead c n)
  pub most : length piece ≤ n
  pub within : held.at + length (head_text (FeedHead c n) ++ piece) ≤ LONGEST_CAPTURE

-- Where nothing of what is left is read, the capture ends behind that piece, which is read as a feed.
abbrev pub EndsThere : CaptureKind → Directory → List ℕ → List Step → Held → (c n : ℕ) → (piece left : List ℕ) → Type 0
EndsThere kind d bytes steps held c n piece left =
    let at : ℕ = held.at + length (head_text (FeedHead c n) ++ piece) in
    readable_from at left ≡ [] → EndsEarlyOf kind d bytes (steps ++ Feed c piece ∷ []) at

-- All but these bytes were taken, and what was taken is read as these steps, up to its end.
pub record IsTaken (kind : CaptureKind) (d : Directory) (bytes : List ℕ) (steps : List Step) (left : List ℕ) : Type 0 where
  pub taken : List ℕ
  pub text : bytes ≡ taken ++ left
  pub read : ReadingOf kind d taken steps (length taken)

-- Behind whatever steps these bytes are left from this place on, the capture goes on with the same steps.
pub record GoesOn (kind : CaptureKind) (d : Directory) (place : ℕ) (left : List ℕ) : Type 0 where
  pub more : List Step
  pub read : (bytes : List ℕ) (steps : List Step) (held : Held) → IsReadTo kind d bytes steps held left → held.at ≡ place
      → (at : ℕ) × ReadingOf kind d bytes (steps ++ more) at

-- Behind whatever steps a feed has these bytes in front and these are left from this place on, the capture goes on with the same
-- feed and steps.
pub record FeedGoesOn (kind : CaptureKind) (d : Directory) (c n place : ℕ) (x left : List ℕ) : Type 0 where
  pub rest : List ℕ
  pub more : List Step
  pub read : (bytes : List ℕ) (steps : List Step) (held : Held) → IsInFeed kind d bytes steps held c n x left
      → place ≡ held.at + length (head_text (FeedHead c n) ++ x) → (at : ℕ) × ReadingOf kind d bytes (steps ++ Feed c (x ++ rest) ∷ more) at
