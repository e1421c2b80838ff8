use Rattle.gts_standby.proofs.PartLemmas.{any_part}
use Rattle.gts_standby.proofs.laws.a_whole_feed_brings_a_standby_that_has_a_part.Goals as goal

pub returns : goal.returns
returns c = λ d own files from read fed more mark limit part h whole comes.
    let brings = any_part d own files from read fed more part.first part.more whole mark limit part.is.reads part.is.is part.seals h.reads h.is comes in
    record { end = brings.0; reads = brings.1 }
