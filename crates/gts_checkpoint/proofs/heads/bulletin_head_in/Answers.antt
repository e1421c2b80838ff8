use Rattle.gts_checkpoint.proofs.Cited.{rules, ◌≡◌, [], ◌∷◌, get_or, sym, ◌∙◌, bulletin_by, head_of_four}
use Rattle.gts_checkpoint.proofs.HeadLemmas.{bulletin_head_stands}
use Rattle.gts_checkpoint.proofs.heads.bulletin_head_in.Goals as goal

pub returns-clause-found : goal.returns-clause-found
returns-clause-found c =
    let letter = get_or c.in_ok-letters.letters.now 1 0 in
    let from = get_or c.in_ok-letters.letters.now 0 0 in
    let head : c.in_ok-letters.letters.now ≡ from ∷ letter ∷ 0 ∷ 0 ∷ [] =
    head_of_four c.in_ok-letters.letters.now from letter 0 0 (search rules) (search rules) (search rules) (search rules) (search rules) in
    let same : bulletin_by c.args.bytes.now ≡ c.put_over.new.text = search rules in
    same ∙ bulletin_head_stands c.put_over.new.text c.number_in_eight.result from letter c.number_in_four-size.result c.in_ok-kind.kind
    (search rules) (search rules) (search rules) (sym c.in_ok-kind.ensures) (search rules)
