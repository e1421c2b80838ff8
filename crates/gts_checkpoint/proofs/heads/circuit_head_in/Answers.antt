use Rattle.gts_checkpoint.proofs.Cited.{rules, ◌≡◌, ◌∙◌, circuit_by}
use Rattle.gts_checkpoint.proofs.HeadLemmas.{circuit_head_stands}
use Rattle.gts_checkpoint.proofs.heads.circuit_head_in.Goals as goal

pub returns-clause-found : goal.returns-clause-found
returns-clause-found c =
    let same : circuit_by c.args.bytes.now ≡ c.put_over.new.text = search rules in
    same ∙ circuit_head_stands c.put_over.new.text c.number_in_eight.result c.number_in_four.result c.number_in_four-2.result (search rules) (search rules) (search rules) (search rules)
