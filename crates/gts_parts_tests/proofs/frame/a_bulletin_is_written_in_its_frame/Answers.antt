use Rattle.std.proofs.Common.{refl, codes}
use Rattle.gts_parts_tests.proofs.frame.a_bulletin_is_written_in_its_frame.Goals as goal

pub write_frame-requires-clause-end : goal.write_frame-requires-clause-end
write_frame-requires-clause-end g c = (codes "SMVG01 TVSV 280000\r\r\n\r\r\n", refl)
