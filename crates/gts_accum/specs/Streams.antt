-- Streams that become a file, as a grammar: which bytes are one, and from which place on bytes are none.
use Rattle.std.specs.Prelude.{ℕ, ◌+◌, ◌<◌, ◌≤◌, List, length, take}
use Rattle.gts_accum.specs.Cited.Below.{IsStream, IsStreamFront}

-- frames and keep-alives one after another, within so many bytes
pub record IsStreamWithin (most : ℕ) (stream : List ℕ) : Type 0 where
  pub each : IsStream stream
  pub short : length stream ≤ most

-- The bytes are no stream within so many bytes, and this is the first place that none goes on through: streams begin with all that
-- stands before it, and none with the byte at it too, where there is one and a stream may have more bytes.
pub record IsBadStream (most : ℕ) (stream : List ℕ) (at : ℕ) : Type 0 where
  pub within : at ≤ length stream
  pub allowed : at ≤ most
  pub before : IsStreamFront (take at stream)
  pub no_stream : IsStreamWithin most stream → ⊥
  pub byte : at < length stream → at < most → IsStreamFront (take (at + 1) stream) → ⊥
