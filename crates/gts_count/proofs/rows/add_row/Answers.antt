use Rattle.gts_count.proofs.Cited.{sym, ◌∙◌}
use Rattle.gts_count.proofs.RowLemmas.{adds}
use Rattle.gts_count.proofs.rows.add_row.Goals as goal

-- src/rows.rt:43:1
pub returns-clause-same : goal.returns-clause-same
returns-clause-same c = adds c.args.rows.now c.insert.new.self c.args.key c.in_ok-insert.ensures.updates.0 (sym c.contains_key.ensures ∙ c.if-contains_key.false)
