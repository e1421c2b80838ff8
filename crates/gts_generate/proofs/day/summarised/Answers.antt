use Rattle.gts_generate.proofs.Cited.{ℕ, List, ◌++◌, ap, ◌∙◌, calls_on, said_by, summary_text}
use Rattle.gts_generate.proofs.RunningLemmas.{summed}
use Rattle.gts_generate.proofs.day.summarised.Goals as goal

pub returns : goal.returns
returns c =
    let e = c.args.engine in
    let station = c.into_parts-station.result.0 in
    let n = c.in_ok-need.need in
    let used : ℕ = c.used-used.result in
    let ends = c.requires.ends in
    let text : List ℕ = summary_text c.args.count (said_by (calls_on station)) n used in
    c.in_ok-summary.ensures ∙ ap (λ (t : List ℕ). t ++ text) c.new-text.ensures
    ∙ summed c.args.count e station n used ends c.in_ok-need.ensures c.used-used.ensures.used c.into_parts-station.ensures.station
