use Rattle.gts_replay.proofs.Cited.{◌≡◌, ◌++◌, map, take, drop}
use Rattle.gts_frame.specs.Decoder.{fresh}
use Rattle.gts_replay.proofs.decoders.reopen_all.Given as goal

-- those before the index begin a new connection
abbrev pub invariant-loop-decoder : goal.invariant-loop-decoder
invariant-loop-decoder l = l.decoders ≡ map (λ _. fresh) (take l.decoder-index l.initial.decoders) ++ drop l.decoder-index l.initial.decoders
