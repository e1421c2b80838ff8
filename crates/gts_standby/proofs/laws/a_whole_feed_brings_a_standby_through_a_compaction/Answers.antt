use Rattle.gts_standby.proofs.Cited.{ap, first_seal, seals_behind, selected_bytes, written}
use Rattle.gts_standby.proofs.StationLemmas.{anew_whole}
use Rattle.gts_standby.proofs.laws.a_whole_feed_brings_a_standby_through_a_compaction.Goals as goal

pub returns : goal.returns
returns c = λ d own files from read fed mark limit o h whole comes.
    let other = o.other _ _ (ap (seals_behind written (first_seal written d.mark) (selected_bytes files)) o.packed) in
    let brings = anew_whole d own files from.0 from.1 from.2 read fed o.first o.more whole mark limit o.reads o.seals h.reads o.packed h.is other o.further comes in
    record { end = brings.0; reads = brings.1 }
