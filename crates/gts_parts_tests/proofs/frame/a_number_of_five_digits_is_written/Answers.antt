use Rattle.std.proofs.Common.{refl, codes}
use Rattle.gts_parts_tests.proofs.frame.a_number_of_five_digits_is_written.Goals as goal

pub write_frame_in-requires-clause-end : goal.write_frame_in-requires-clause-end
write_frame_in-requires-clause-end g c = (codes "SMVG01 TVSV 280000\r\r\n\r\r\n", refl)
