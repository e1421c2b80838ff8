use Rattle.gts_words.proofs.Cited.{◌∙◌, sym}
use Rattle.gts_words.proofs.WordLemmas.{four_words}
use Rattle.gts_words.proofs.since.since_in.Goals as goal

pub returns : goal.returns
returns c =
    c.shipped.ensures
    ∙ sym (four_words c.args.words.now c.in_ok-name.name.now c.in_ok-since.since.now c.in_ok-used.used.now c.in_ok-seal.seal.now c.in_ok-name.ensures.word c.in_ok-since.ensures.word c.in_ok-used.ensures.word c.in_ok-seal.ensures.word c.requires)
