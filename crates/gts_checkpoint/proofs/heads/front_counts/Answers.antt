use Rattle.gts_checkpoint.proofs.Cited.{rules, sym}
use Rattle.gts_checkpoint.proofs.HeadLemmas.{front_found}
use Rattle.gts_checkpoint.proofs.heads.front_counts.Goals as goal

pub returns : goal.returns
returns c =
    let f = c.in_ok-front.front in
    sym (front_found c.args.bytes.now f.circuits f.accepted f.bulletins c.in_ok-front.ensures.found (search rules) (search rules) (search rules))
