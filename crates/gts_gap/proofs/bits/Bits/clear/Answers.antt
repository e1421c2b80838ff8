use Rattle.gts_gap.proofs.Cited.{length, ap, arith, get_or_read, common_steps}
use Rattle.gts_gap.proofs.BitsLemmas.{bits-long, bits-set, with-clear}
use Rattle.gts_gap.proofs.bits.Bits.clear.Goals as goal

pub index_mut-requires : goal.index_mut-requires
index_mut-requires c = omega (arith, bits-long c.self.inside.words.items, ap length c.self.view_is, c.requires)

pub returns : goal.returns
returns c = grind (arith, common_steps, bits-long, get_or_read, bits-set, with-clear)
