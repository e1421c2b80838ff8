use Rattle.gts_sender.proofs.Cited.{◌≡◌, ℕ, ◌++◌, List, take, frames_of, sizes_of, texts}
use Rattle.gts_sender.proofs.writing.write_frames.Given as goal

-- the frames before this one were written
abbrev pub invariant-loop-i : goal.invariant-loop-i
invariant-loop-i g l = record {
  at : l.at ≡ sizes_of (take l.i l.fn.frames.each);
  written : (bytes : List ℕ) × (bytes ≡ texts (take l.i (frames_of l.fn.frames)))
      × (g.K.Sink.observed → g.K.Sink.written l.sink ≡ g.K.Sink.written l.fn.sink ++ bytes);
  sound : g.K.Sink.faults l.sink ≡ g.K.Sink.faults l.fn.sink;
}
