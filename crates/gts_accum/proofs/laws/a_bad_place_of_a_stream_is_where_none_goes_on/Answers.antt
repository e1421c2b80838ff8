use Rattle.gts_accum.proofs.LossLemmas.{good-stream, stream-good, bad-stream, stream-bad}
use Rattle.gts_accum.proofs.laws.a_bad_place_of_a_stream_is_where_none_goes_on.Goals as goal

pub returns-clause-good : goal.returns-clause-good
returns-clause-good c = λ stream. (good-stream stream, stream-good stream)

pub returns-clause-bad : goal.returns-clause-bad
returns-clause-bad c = λ stream at. (bad-stream stream at, stream-bad stream at)
