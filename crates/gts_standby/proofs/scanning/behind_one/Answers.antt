use Rattle.gts_standby.proofs.Cited.{refl, sym, ap, ◌∙◌, listed_size}
use Rattle.gts_standby.specs.Taking as feeds
use Rattle.gts_standby.proofs.ScanLemmas.{size_read, reaches_same}
use Rattle.gts_standby.proofs.scanning.behind_one.Goals as goal

pub returns-in-Some-clause-reached : goal.returns-in-Some-clause-reached
returns-in-Some-clause-reached g c = λ observed fed read.
    let now = c.in_ok-fill.ensures.kept observed fed read in
    let limit = c.args.limit in
    let at = c.args.at in
    let found = sym (size_read c.args.listed fed _ c.fill.new.self at now c.in_ok-fill.ensures.enough) ∙ ap (listed_size c.args.listed) (sym c.bytes_from.ensures) ∙ sym c.in-Some.ensures.size in
    reaches_same c.reach.result (feeds.reach limit fed at c.in-Some.size) (feeds.behind_one c.args.listed limit fed at) fed c.reach.new.ahead (g.S.Source.left c.reach.new.source)
    (ap (feeds.reach_found limit fed at) found) (c.reach.ensures.reached observed fed now)

pub returns-in-None-clause-reached : goal.returns-in-None-clause-reached
returns-in-None-clause-reached g c = λ observed fed read.
    let now = c.in_ok-fill.ensures.kept observed fed read in
    let none = sym (size_read c.args.listed fed _ c.fill.new.self c.args.at now c.in_ok-fill.ensures.enough) ∙ ap (listed_size c.args.listed) (sym c.bytes_from.ensures) ∙ sym c.in-None.ensures.size in
    (ap (feeds.reach_found c.args.limit fed c.args.at) none, refl)
