use Rattle.gts_checkpoint.proofs.Cited.{rules, ◌≡◌, [], ◌∷◌, ◌∙◌, front_by, head_of_four}
use Rattle.gts_checkpoint.proofs.HeadLemmas.{front_stands}
use Rattle.gts_checkpoint.proofs.heads.front_in.Goals as goal

pub returns-clause-found : goal.returns-clause-found
returns-clause-found c =
    let head : c.in_ok-letter.letter.now ≡ 67 ∷ 0 ∷ 0 ∷ 0 ∷ [] =
    head_of_four c.in_ok-letter.letter.now 67 0 0 0 (search rules) (search rules) (search rules) (search rules) (search rules) in
    let same : front_by c.args.bytes.now ≡ c.put_over.new.text = search rules in
    same ∙ front_stands c.put_over.new.text c.number_in_four.result c.number_in_eight.result c.number_in_four-2.result (search rules) (search rules) (search rules) (search rules) (search rules)
