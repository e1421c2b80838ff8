use Rattle.gts_gap.proofs.Cited.{arith}
use Rattle.gts_gap.proofs.BitsLemmas.{bits-long}
use Rattle.gts_gap.proofs.bits.Bits.new.Goals as goal

pub returns : goal.returns
returns c = omega (arith, bits-long c.in_ok-vec.field-0.items, c.in_ok-vec.ensures.len)
