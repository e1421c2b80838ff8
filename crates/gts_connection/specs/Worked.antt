-- Worked rows over literal bytes: connections and captures.
use Rattle.std.specs.Prelude.{◌≡◌, ℕ, map, flat_map, List, [], ◌∷◌, ◌++◌, length, take, drop, codes}
unfoldable pub use Rattle.std.specs.Fmt.{digits}
use Rattle.gts_connection.specs.Cited.Below.{An, Directory, Entry, Event, Heard, Lost, Restarted, empty}
use Rattle.gts_frame.specs.declared.lost.FrameField.TheVariants as lost
use Rattle.gts_event.specs.Worked.{two, report, message_text, frame_of, first, second, take_on, channel}
use Rattle.gts_connection.specs.declared.kind.CaptureKind.TheVariants.{Traffic}
use Rattle.gts_connection.specs.Connection.{connection}
use Rattle.gts_connection.specs.Capture.{Step, Feed, Take, Reopen, Drain, Restart, Compact, EndHead, head_text, step_text, entries, compactions, Reading, ReadingOf}

-- two frames
abbrev pub frame_1 : List ℕ
frame_1 = frame_of (codes "001") (codes "NIL=")

abbrev pub frame_2 : List ℕ
frame_2 = frame_of (codes "002") (codes "NIM=")

-- what the steps of a capture say on a channel, from nothing
abbrev pub channel_of_steps : Directory → ℕ → List Step → List ℕ
channel_of_steps d c steps = channel d c (entries d (empty d) steps)

-- the entries of the steps of a capture, from nothing
abbrev pub entries_of : List Step → List Entry
entries_of steps = entries two (empty two) steps

-- ---- connections

-- A frame in 49 steps of one byte each is the same as in one.
abbrev pub ByteByByte : Type 0
ByteByByte =
    let steps : List Step = map (λ byte. Feed 0 (byte ∷ [])) frame_1 ++ Take 1 ∷ [] in
    (entries_of steps ≡ first ∷ take_on 1 ∷ []) × (length steps ≡ 50)

-- A keep-alive between two frames of one feed is passed over.
abbrev pub KeepAliveBetween : Type 0
KeepAliveBetween =
    let steps : List Step = Feed 0 (frame_1 ++ codes "00000000AN" ++ frame_2) ∷ Take 1 ∷ Take 1 ∷ [] in
    (channel_of_steps two 0 steps ≡ codes "ACC 0 0 1 SMVG01 TVSV 280000\nACC 0 1 1 SMVG01 TVSV 280000\n")
    × (channel_of_steps two 2 steps ≡ frame_1 ++ frame_2)

-- After a loss all bytes are dropped until a new connection begins; the other circuit goes on.
abbrev pub LossAndReopen : Type 0
LossAndReopen =
    channel_of_steps two 0 (Feed 0 (codes "0000039 AN") ∷ Feed 0 frame_1 ∷ Feed 1 frame_2 ∷ Reopen 0 ∷ Feed 0 frame_1 ∷ [])
    ≡ codes "LOS 0 Length\nACC 1 0 1 SMVG01 TVSV 280000\nACC 0 1 1 SMVG01 TVSV 280000\n"

-- one loss, in this field
abbrev pub IsLoss : List ℕ → List Event → Type 0
IsLoss bytes loss = connection 0 bytes ≡ loss

-- The first byte that fits no frame is a loss, in the field that stands there: a length above the longest is one at its last
-- digit, a first digit 1 at once.
abbrev pub Losses : Type 0
Losses =
    IsLoss (codes "0050000") [] × IsLoss (codes "00500001") (Lost 0 lost.Length ∷ [])
    × IsLoss (codes "1") (Lost 0 lost.Length ∷ []) × IsLoss (codes "00000001") (Lost 0 lost.Length ∷ [])
    × IsLoss (codes "00199999") [] × IsLoss (codes "006") (Lost 0 lost.Length ∷ [])
    × IsLoss (codes "00000002X") (Lost 0 lost.Kind ∷ []) × IsLoss (codes "00000002AX") (Lost 0 lost.Kind ∷ [])
    × IsLoss (codes "00000002ANX") (Lost 0 lost.Soh ∷ []) × IsLoss (codes "00000002AN" ++ 1 ∷ 4 ∷ []) (Lost 0 lost.Etx ∷ [])

-- Frames in front of a loss are heard; what carries nothing readable is a frame too.
abbrev pub FramesBeforeLoss : Type 0
FramesBeforeLoss =
    connection 0 (frame_1 ++ codes "00000002AN" ++ 1 ∷ 3 ∷ codes "00000000FX007")
    ≡ Heard 0 An (message_text (codes "001") report (codes "NIL=")) ∷ Heard 0 An (1 ∷ 3 ∷ []) ∷ Lost 0 lost.Length ∷ []

-- ---- captures

-- A drain takes until one take gives nothing.
abbrev pub DrainTakes : Type 0
DrainTakes =
    (entries_of (Feed 0 (frame_1 ++ frame_2) ∷ Drain 1 ∷ []) ≡ first ∷ second ∷ take_on 1 ∷ take_on 1 ∷ take_on 1 ∷ [])
    × (entries_of (Drain 1 ∷ []) ≡ take_on 1 ∷ [])

-- A restart begins each connection anew, and the last draw is repeated; a compaction and a new connection are no entries.
abbrev pub RestartedConnections : Type 0
RestartedConnections =
    (entries_of (Feed 0 frame_1 ∷ Take 1 ∷ Feed 0 (codes "000") ∷ Restart ∷ Feed 0 frame_2 ∷ Drain 1 ∷ [])
    ≡ first ∷ take_on 1 ∷ Restarted ∷ second ∷ take_on 1 ∷ take_on 1 ∷ take_on 1 ∷ [])
    × (entries_of (Feed 0 (take 20 frame_1) ∷ Compact ∷ Reopen 0 ∷ Feed 0 frame_1 ∷ []) ≡ first ∷ [])
    × (entries_of (Feed 0 (take 20 frame_1) ∷ Compact ∷ Feed 0 (drop 20 frame_1) ∷ []) ≡ first ∷ [])

-- A compaction behind one entry, and two behind three: the restart is an entry, a compaction is none. Each is read as a step.
abbrev pub CountedCompactions : Type 0
CountedCompactions =
    (compactions two (empty two) 0 (Feed 0 frame_1 ∷ Compact ∷ Take 1 ∷ Restart ∷ Compact ∷ Compact ∷ []) ≡ 1 ∷ 3 ∷ 3 ∷ [])
    × Reading two (codes "C\nT 01\nC\nE\n") (Compact ∷ Take 1 ∷ Compact ∷ []) 11

-- In a capture of traffic the head of a restart or of a compaction is bad at its first byte.
abbrev pub TrafficHeads : Type 0
TrafficHeads =
    ReadingOf Traffic two (codes "T 01\nR\nE\n") (Take 1 ∷ []) 5 × ReadingOf Traffic two (codes "T 01\nC\nE\n") (Take 1 ∷ []) 5

-- one bulletin and one draw
abbrev pub steps_of_one_draw : List Step
steps_of_one_draw = Feed 0 frame_1 ∷ Take 1 ∷ []

-- its text
abbrev pub capture_of_one_draw : List ℕ
capture_of_one_draw = codes "F 00 000049\n" ++ frame_1 ++ codes "T 01\nE\n"

-- The text of a capture is that of its steps and its end, and it is read through its end.
abbrev pub WholeCapture : Type 0
WholeCapture =
    (flat_map step_text steps_of_one_draw ++ head_text EndHead ≡ capture_of_one_draw)
    × Reading two (capture_of_one_draw ++ 1 ∷ 2 ∷ []) steps_of_one_draw 68

-- Cut after 20 bytes of its frame it is read up to its end at 32, and a feed of 20 bytes is read.
abbrev pub CutInFeed : Type 0
CutInFeed = Reading two (take 32 capture_of_one_draw) (Feed 0 (take 20 frame_1) ∷ []) 32

-- Cut in a head it is read up to its end, and the steps before that head are read.
abbrev pub CutInHead : Type 0
CutInHead = Reading two (codes "T 01\nF 00 0000") (Take 1 ∷ []) 14

-- The number of a circuit that the directory hasn't is the first byte that no capture has there.
abbrev pub BadByte : Type 0
BadByte = Reading two (codes "T 01\nT 02\nE\n") (Take 1 ∷ []) 8
