use Rattle.gts_checkpoint.proofs.Cited.{rules, sym}
use Rattle.gts_checkpoint.proofs.HeadLemmas.{bulletin_found, circuit_found}
use Rattle.gts_checkpoint.proofs.heads.listed_size.Goals as goal

pub returns-in_ok-head-in-Bulletin-clause-size : goal.returns-in_ok-head-in-Bulletin-clause-size
returns-in_ok-head-in-Bulletin-clause-size c =
    let h = c.in_ok-head-in-Bulletin.head in
    let e = c.in_ok-head-in-Bulletin.ensures in
    rw c.in-Bulletin.is (sym (bulletin_found c.args.bytes.now h.position h.from h.kind h.size e.found (search rules) e.short))

pub returns-in_ok-head-in-Circuit-clause-size : goal.returns-in_ok-head-in-Circuit-clause-size
returns-in_ok-head-in-Circuit-clause-size c =
    let h = c.in_ok-head-in-Circuit.head in
    rw c.in-Circuit.is (sym (circuit_found c.args.bytes.now h.draws h.waiting h.kept c.in_ok-head-in-Circuit.ensures.found (search rules) (search rules)))
