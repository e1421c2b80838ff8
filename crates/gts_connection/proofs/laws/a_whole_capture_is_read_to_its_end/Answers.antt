use Rattle.gts_connection.proofs.LongestLemmas.{whole_is_read}
use Rattle.gts_connection.proofs.laws.a_whole_capture_is_read_to_its_end.Goals as goal

pub returns : goal.returns
returns c = whole_is_read
