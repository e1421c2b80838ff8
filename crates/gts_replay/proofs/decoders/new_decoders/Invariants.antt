use Rattle.gts_replay.proofs.Cited.{◌≡◌, replicate}
use Rattle.gts_frame.specs.Decoder.{fresh}
use Rattle.gts_replay.proofs.decoders.new_decoders.Given as goal

abbrev pub invariant-loop : goal.invariant-loop
invariant-loop l = l.decoders.items ≡ replicate l.counter fresh
