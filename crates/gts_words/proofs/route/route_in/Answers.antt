use Rattle.gts_words.proofs.Cited.{◌∙◌, sym}
use Rattle.gts_words.proofs.WordLemmas.{three_words}
use Rattle.gts_words.proofs.route.route_in.Goals as goal

pub returns : goal.returns
returns c =
    c.routed.ensures
    ∙ sym (three_words c.args.words.now c.in_ok-name.name.now c.in_ok-heading.heading.now c.in_ok-from.from.now c.in_ok-name.ensures.word c.in_ok-heading.ensures.word c.in_ok-from.ensures.word c.requires)
