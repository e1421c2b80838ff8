use Rattle.gts_checkpoint.proofs.Cited.{◌∙◌, searched, has_searched}
use Rattle.gts_checkpoint.proofs.ascending.is_among.Goals as goal

pub returns : goal.returns
returns c =
    c.is_ok.ensures.value
    ∙ has_searched c.args.numbers.now c.args.number c.binary_search.result
    (searched c.args.numbers.now c.args.number c.binary_search.result c.binary_search.ensures.position (λ i j l m. c.requires i j 0 l m))
