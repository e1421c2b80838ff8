use Rattle.gts_connection.proofs.HereLemmas.{entries_here}
use Rattle.gts_connection.proofs.laws.a_capture_comes_on_circuits_of_the_directory.Goals as goal

pub returns : goal.returns
returns c = entries_here
