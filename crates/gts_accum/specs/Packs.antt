-- How packing a stream ended, and what of its file was said.
use Rattle.std.specs.Prelude.{◌≡◌, ℕ, ◌≤◌, List, [], ◌++◌, length, Some, None, Result, Ok, Err, OnOk}
use Rattle.gts_accum.specs.Cited.Below.{Call, Decoding, Rose, SaysFront, SaysOnly, SourceMeanings, StationMeanings, held_in, on, seen, signs_in}
use Rattle.gts_accum.specs.Packing.{entries_text, messages_of, bad_in_stream, packed}
use Rattle.gts_accum.specs.declared.pack_end.PackEnd.{PackEnd}
use Rattle.gts_accum.specs.declared.pack_end.PackEnd.TheVariants as end
use Rattle.gts_accum.specs.declared.packing.Stop.{Stop}
use Rattle.gts_accum.specs.declared.packing.Stop.TheVariants.{Lost, Unsaid}

-- the entries of the messages in these bytes
abbrev pub entries_in : List ℕ → List ℕ
entries_in bytes = entries_text (messages_of (signs_in bytes))

-- Of a stream these bytes were taken, behind which these are held: the entries of their messages were said, and nothing else.
pub record Holds (observed : Type 0) (first now : List Call) (bytes held : List ℕ) : Type 0 where
  pub is : held_in bytes ≡ Some held
  pub said : observed → SaysOnly first now (on 0 (entries_in bytes))

-- the same, where the decoder holds them
pub record Stands (observed : Type 0) (first now : List Call) (bytes : List ℕ) (decoder : Decoding) : Type 0 where
  pub held : List ℕ
  pub is : decoder.held ≡ Some held
  pub holds : Holds observed first now bytes held

-- the stream is bad at this place, and what is said of it was said
pub record IsBad (observed : Type 0) (first now : List Call) (stream : List ℕ) (at : ℕ) : Type 0 where
  pub place : bad_in_stream stream ≡ Some at
  pub said : observed → SaysOnly first now (on 0 (packed stream))

-- Whatever follows these bytes of a stream: they were taken; or the stream is bad in them; or a front of its file was said.
abbrev pub PieceEnds : Type 0 → List Call → List Call → List ℕ → Result (Unit {0}) Stop → Decoding → Type 0
PieceEnds observed first now bytes (Ok _) decoder = Stands observed first now bytes decoder
PieceEnds observed first now bytes (Err (Lost at)) decoder = (more : List ℕ) → IsBad observed first now (bytes ++ more) at
PieceEnds observed first now bytes (Err Unsaid) decoder = (more : List ℕ) → observed → SaysFront first now (on 0 (packed (bytes ++ more)))

-- A piece that stands at this place of a stream was taken, whatever bytes stand before it.
abbrev pub TakesPiece : (observed : Type 0) → (start : ℕ) → (piece : List ℕ) → Result (Unit {0}) Stop → (old new : List Call)
    → (decoder now : Decoding) → Type 0
TakesPiece observed start piece result old new decoder now =
    (first : List Call) (before : List ℕ) → start ≡ length before → Stands observed first old before decoder
    → PieceEnds observed first new (before ++ piece) result now

-- these bytes were taken of a stream, and the entries of their messages were said
pub record IsTaken (observed : Type 0) (first now : List Call) (stream left : List ℕ) : Type 0 where
  pub taken : List ℕ
  pub text : stream ≡ taken ++ left
  pub said : observed → SaysOnly first now (on 0 (entries_in taken))

-- What each end of packing a stream means, of which this is left: where it is bad, and what was said.
abbrev pub Packs : (observed : Type 0) → PackEnd → (stream left : List ℕ) → (old new : List Call) → Type 0
Packs observed end.Done stream left old new = (bad_in_stream stream ≡ None) × (observed → SaysOnly old new (on 0 (packed stream)))
Packs observed (end.Bad at) stream left old new = IsBad observed old new stream at
Packs observed end.SourceFault stream left old new = IsTaken observed old new stream left
Packs observed end.SayFault stream left old new = observed → SaysFront old new (on 0 (packed stream))
Packs observed end.NoMemory stream left old new = (left ≡ stream) × (observed → SaysOnly old new [])

-- what reads of the files give stays
abbrev pub SameFiles : List Call → List Call → Type 0
SameFiles old new = (file : ℕ) → seen new file ≡ seen old file

-- A piece was taken with this answer, and nothing but saying was asked: it is answered as failed only where its count rose, and with
-- any other answer the count is as before.
pub record SaysPiece {P : Type 0} (station : StationMeanings P) (result : Result (Unit {0}) Stop) (old new : P) : Type 0 where
  pub later : station.say_faults old ≤ station.say_faults new
  pub failed : result ≡ Err Unsaid → Rose (station.say_faults old) (station.say_faults new)
  pub sound : OnOk result (station.say_faults new ≡ station.say_faults old)
  pub lost : (at : ℕ) → result ≡ Err (Lost at) → station.say_faults new ≡ station.say_faults old
  pub disk : station.disk_faults new ≡ station.disk_faults old

-- The end of a stream was met, and nothing but saying was asked: it failed only where its count rose, and with any other end the count
-- is as before.
pub record SaysEnd {P : Type 0} (station : StationMeanings P) (result : PackEnd) (old new : P) : Type 0 where
  pub later : station.say_faults old ≤ station.say_faults new
  pub failed : result ≡ end.SayFault → Rose (station.say_faults old) (station.say_faults new)
  pub still : (result ≡ end.SayFault → ⊥) → station.say_faults new ≡ station.say_faults old
  pub disk : station.disk_faults new ≡ station.disk_faults old

-- A stream was packed with this end, and nothing but its source and saying was asked: each failed only where its count rose, and with
-- any other end its count is as before.
pub record CountsPack {S P : Type 0} (source : SourceMeanings S) (station : StationMeanings P) (result : PackEnd) (before after : S)
    (old new : P) : Type 0 where
  pub source_later : source.faults before ≤ source.faults after
  pub source_failed : result ≡ end.SourceFault → Rose (source.faults before) (source.faults after)
  pub source_still : (result ≡ end.SourceFault → ⊥) → source.faults after ≡ source.faults before
  pub say_later : station.say_faults old ≤ station.say_faults new
  pub say_failed : result ≡ end.SayFault → Rose (station.say_faults old) (station.say_faults new)
  pub say_still : (result ≡ end.SayFault → ⊥) → station.say_faults new ≡ station.say_faults old
  pub disk : station.disk_faults new ≡ station.disk_faults old
