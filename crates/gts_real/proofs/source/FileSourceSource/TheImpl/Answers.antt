use Rattle.std.proofs.Common.{rules}
use Rattle.gts_real.proofs.source.FileSourceSource.TheImpl.Goals as goal

pub read-tells : goal.read-tells
read-tells g c = record {
  bytes = λ told. absurd told;
  same = λ told. absurd told;
  count = search rules;
  cause = search rules;
}
