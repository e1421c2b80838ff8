use Rattle.gts_accum.proofs.Cited.{ap, arith}
use Rattle.gts_accum.specs.Capture.{capture_of}
use Rattle.gts_accum.proofs.PlaceLemmas.{reads-entries}
use Rattle.gts_accum.proofs.laws.a_file_stands_for_the_steps_of_its_entries.Goals as goal

pub returns : goal.returns
returns c = λ file written circuit is. ap (capture_of circuit) (reads-entries 0 file written (omega arith) is)
