use Rattle.gts_checkpoint.proofs.Cited.{map, sym, ◌∙◌, positions}
use Rattle.gts_checkpoint.specs.Sound.{bulletin_of}
use Rattle.gts_checkpoint.proofs.NamedLemmas.{has-found, there-has}
use Rattle.gts_checkpoint.proofs.bulletins.is_there.Goals as goal

pub returns : goal.returns
returns c =
    c.is_some.ensures
    ∙ sym (has-found (positions c.args.bulletins.now) c.args.position c.place_of.result c.place_of.ensures.found c.place_of.ensures.none)
    ∙ sym (there-has (map bulletin_of c.args.bulletins.now) c.args.position)
