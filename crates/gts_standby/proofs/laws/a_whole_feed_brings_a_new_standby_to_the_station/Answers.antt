use Rattle.gts_standby.proofs.StationLemmas.{whole_comes}
use Rattle.gts_standby.proofs.laws.a_whole_feed_brings_a_new_standby_to_the_station.Goals as goal

pub returns : goal.returns
returns c = λ d own files read fed mark limit none h whole comes.
    let brings = whole_comes d own files read fed whole mark limit none h.reads h.is comes in record { end = brings.0; reads = brings.1 }
