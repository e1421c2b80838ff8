use Rattle.gts_accum.proofs.Cited.{arith}
use Rattle.gts_accum.proofs.PlaceLemmas.{reads-entries, good-file, bad-file, file-bad}
use Rattle.gts_accum.proofs.laws.a_bad_place_is_where_no_file_goes_on.Goals as goal

pub returns-clause-file : goal.returns-clause-file
returns-clause-file c = λ file written is. reads-entries 0 file written (omega arith) is

pub returns-clause-good : goal.returns-clause-good
returns-clause-good c = λ file none. good-file file none

pub returns-clause-bad : goal.returns-clause-bad
returns-clause-bad c = λ file at. (bad-file file at, file-bad file at)
