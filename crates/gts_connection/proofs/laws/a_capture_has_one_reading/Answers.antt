use Rattle.gts_connection.specs.Capture.{readable}
use Rattle.gts_connection.proofs.ReadingLemmas.{reads, reads_once}
use Rattle.gts_connection.proofs.LongestLemmas.{place-within}
use Rattle.gts_connection.proofs.laws.a_capture_has_one_reading.Goals as goal

pub returns-clause-some : goal.returns-clause-some
returns-clause-some c = λ kind d bytes. reads kind d (readable bytes)

pub returns-clause-one : goal.returns-clause-one
returns-clause-one c = λ kind d bytes. reads_once kind d (readable bytes)

pub returns-clause-within : goal.returns-clause-within
returns-clause-within c = place-within
