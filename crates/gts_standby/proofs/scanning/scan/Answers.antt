use Rattle.gts_standby.proofs.Cited.{refl, sym, ap, ◌∙◌, front_counts}
use Rattle.gts_standby.specs.Taking as feeds
use Rattle.gts_standby.proofs.ScanLemmas.{front_read, reaches_same}
use Rattle.gts_standby.proofs.scanning.scan.Goals as goal

pub returns-in-None-clause-reached : goal.returns-in-None-clause-reached
returns-in-None-clause-reached g c = λ observed fed read.
    let now = c.in_ok-fill.ensures.kept observed fed read in
    let none = sym (front_read fed _ c.fill.new.self now c.in_ok-fill.ensures.enough) ∙ ap front_counts (sym c.bytes.ensures) ∙ sym c.in-None.ensures in
    (ap (feeds.behind_front c.args.limit fed) none, refl)

pub returns-in-Some-clause-reached : goal.returns-in-Some-clause-reached
returns-in-Some-clause-reached g c = λ observed fed read.
    let now = c.in_ok-fill.ensures.kept observed fed read in
    let limit = c.args.limit in
    let found = sym (front_read fed _ c.fill.new.self now c.in_ok-fill.ensures.enough) ∙ ap front_counts (sym c.bytes.ensures) ∙ sym c.in-Some.ensures in
    reaches_same c.behind_lists.result (feeds.behind_counted limit fed c.in-Some.bulletins c.in-Some.circuits) (feeds.behind_checkpoint limit fed) fed c.behind_lists.new.ahead (g.S.Source.left c.behind_lists.new.source)
    (ap (feeds.behind_front limit fed) found) (c.behind_lists.ensures.reached observed fed now)
