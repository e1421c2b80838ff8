use Rattle.gts_count.proofs.Cited.{◌≡◌, ◌+◌, Some, is_some, nat_eq, refl, ap, sym, ◌∙◌, Row, option_copied_mut, pointwise, with_draw, get}
use Rattle.gts_count.proofs.RowLemmas.{changed}
use Rattle.gts_count.proofs.rows.join_draw.Goals as goal

pub returns-in-Some : goal.returns-in-Some
returns-in-Some c =
    let was : Row = c.in-Some.row.now in
    let now : Row = record { bulletins = was.bulletins; bytes = was.bytes; draws = was.draws + 1 } in
    let found : get (pointwise nat_eq) c.args.rows.now c.args.key ≡ Some was = sym c.get_mut.ensures.value ∙ ap option_copied_mut c.in-Some.is in
    let updates = (c.get_mut.follows.holds now).3 (ap is_some found) in
    changed c.args.rows.now (c.get_mut.follows.lender now) c.args.key with_draw was now found refl updates.0
