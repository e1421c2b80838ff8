use Rattle.gts_gap.proofs.Cited.{length, ap, arith, get_or_read, common_steps}
use Rattle.gts_gap.proofs.BitsLemmas.{bits-long, bits-read}
use Rattle.gts_gap.proofs.bits.Bits.test.Goals as goal

pub index-requires : goal.index-requires
index-requires c = omega (arith, bits-long c.self.inside.words.items, ap length c.self.view_is, c.requires)

pub returns : goal.returns
returns c = grind (arith, common_steps, bits-long, get_or_read, bits-read)
