use Rattle.gts_count.proofs.Cited.{◌≡◌, ◌+◌, Some, is_some, nat_eq, ap, sym, ◌∙◌, Row, option_copied_mut, pointwise, get}
use Rattle.gts_count.specs.Cited.{with_bulletin}
use Rattle.gts_count.proofs.RowLemmas.{changed}
use Rattle.gts_count.proofs.rows.join.Goals as goal

pub returns-in-Some : goal.returns-in-Some
returns-in-Some c =
    let was : Row = c.in-Some.row.now in
    let now : Row = record { bulletins = was.bulletins + 1; bytes = was.bytes + c.from.result; draws = was.draws } in
    let found : get (pointwise nat_eq) c.args.rows.now c.args.bulletin.key ≡ Some was = sym c.get_mut.ensures.value ∙ ap option_copied_mut c.in-Some.is in
    let updates = (c.get_mut.follows.holds now).3 (ap is_some found) in
    changed c.args.rows.now (c.get_mut.follows.lender now) c.args.bulletin.key (with_bulletin c.args.bulletin) was now found (ap (λ k. record { bulletins = was.bulletins + 1; bytes = was.bytes + k; draws = was.draws }) c.from.ensures) updates.0
