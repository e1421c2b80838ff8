use Rattle.gts_connection.proofs.LongestLemmas.{readable-all, readable-behind, length-readable}
use Rattle.gts_connection.proofs.laws.a_capture_is_read_up_to_the_longest.Goals as goal

pub returns-clause-all : goal.returns-clause-all
returns-clause-all c = readable-all

pub returns-clause-behind : goal.returns-clause-behind
returns-clause-behind c = readable-behind

pub returns-clause-length : goal.returns-clause-length
returns-clause-length c = length-readable
