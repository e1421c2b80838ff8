use Rattle.gts_count.proofs.Cited.{ap, sym, ◌∙◌, err_from_is_err_and, Arrival, has_row}
use Rattle.gts_count.proofs.CountingLemmas.{current_counts, left_accepted}
use Rattle.gts_count.proofs.counting.ready.Goals as goal

pub returns-in_default-clause-ready : goal.returns-in_default-clause-ready
returns-in_default-clause-ready c = λ d s h current here counts kind p n is.
    absurd (c.heard_in.ensures.none d s kind p n c.in_default.is (current_counts d s h c.args.counting.now current counts).0.centre is)

pub returns-in_err-prepare-clause-left : goal.returns-in_err-prepare-clause-left
returns-in_err-prepare-clause-left c =
    let p = err_from_is_err_and c.from_residual.result c.from_residual.ensures.1 in
    rw p.1 (λ d s h kind counts.
    let known = current_counts d s h c.args.counting.now c.if-not-counting.false counts in
    left_accepted d s c.args.counting.now.numbers c.args.c kind c.args.message.now known.1 (c.in-Some.ensures.read d known.0.centre)
    (sym (ap (λ (r : Arrival). has_row c.args.counting.now.numbers.rows r.key) c.in-Some.ensures.some) ∙ c.in_err-prepare.ensures.none))
