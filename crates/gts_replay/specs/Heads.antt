-- The heads of a capture's steps as they are read (profile).
use Rattle.std.specs.Prelude.{ℕ, Bool, true, false, List}
use Rattle.gts_replay.specs.Cited.Below.{CaptureKind, CompactHead, DrainHead, EndHead, FeedHead, Head, Journaled, ReopenHead, RestartHead, TakeHead, Traffic, head_text}
pub use Rattle.gts_connection.specs.Capture.{IsHeadIn, IsPartIn, IsFrontIn}
use Rattle.gts_replay.specs.declared.head.Head as program
use Rattle.gts_replay.specs.declared.head.Head.TheVariants as read

-- a head of the program
abbrev pub head_of : program.Head → Head
head_of (read.Feed c length) = FeedHead c length
head_of (read.Take c) = TakeHead c
head_of (read.Reopen c) = ReopenHead c
head_of (read.Drain c) = DrainHead c
head_of read.Restart = RestartHead
head_of read.Compact = CompactHead
head_of read.End = EndHead

-- the line of a head of the program
abbrev pub line_of : program.Head → List ℕ
line_of head = head_text (head_of head)

-- a capture of this kind may have steps of the journal
abbrev pub has_journal : CaptureKind → Bool
has_journal Journaled = true
has_journal Traffic = false

-- the bytes announced by a head
abbrev pub bytes_announced : Head → ℕ
bytes_announced (FeedHead circuit size) = size
bytes_announced _ = 0
