use Rattle.gts_directory.proofs.Cited.{◌*◌, List, drop, take_rest, RuleRow, fields_of, matches}
use Rattle.gts_directory.proofs.CellLemmas.{fits_are, joined-more, joined-nowhere, bits_of-below}
use Rattle.gts_directory.proofs.table.RuleTable.routed.Goals as goal
use Rattle.gts_directory.proofs.table.RuleTable.routed.Goals.{then-fits-ne0, else-fits-ne0}

pub joined-requires : goal.joined-requires
joined-requires c =
    let rows : List RuleRow = c.self.inside.rows.items in
    let h = fields_of c.args.heading.now in
    let fits =
    fits_are rows c.self.inside.blocks.items _ h _ c.loop-number.number _ c.self.invariant c.deref-block-items.ensures.value c.cells_of-cells.ensures.cells
    c.cells_of-cells.ensures.characters c.cells_of-cells.ensures.inside c.loop-number-test.true c.fitting-fits.ensures in
    rw (c.deref.ensures.value, take_rest rows (64 * c.loop-number.number), fits)
    (bits_of-below (λ row. matches row.heading h) (drop (64 * c.loop-number.number) rows) 64)

pub loop-number-preserved : goal.loop-number-preserved
loop-number-preserved c k =
    let rows : List RuleRow = c.self.inside.rows.items in
    let h = fields_of c.args.heading.now in
    let fits =
    fits_are rows c.self.inside.blocks.items _ h _ c.loop-number.number _ c.self.invariant c.deref-block-items.ensures.value c.cells_of-cells.ensures.cells
    c.cells_of-cells.ensures.characters c.cells_of-cells.ensures.inside c.loop-number-test.true c.fitting-fits.ensures in
    elim c.if-fits-ne0.branch [
      | then-fits-ne0 w ↦
          rw (w.set-is, w.union-set.ensures) (joined-more rows _ h c.loop-number.set c.fitting-fits.result _ c.loop-number.number k
          (rw w.deref.ensures.value (take_rest rows (64 * c.loop-number.number))) fits (c.loop-number.invariant k) (w.joined.ensures k))
      | else-fits-ne0 w ↦ rw w.set-is (joined-nowhere rows h c.loop-number.set c.fitting-fits.result c.loop-number.number k w.if-fits-ne0.false fits (c.loop-number.invariant k))
    ]
