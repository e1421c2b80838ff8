use Rattle.gts_checkpoint.proofs.Cited.{sym, ◌∙◌, rules, YieldsList-from_slice, all_from_yields_List, list_all-map, tests}
use Rattle.gts_checkpoint.specs.Sound.{is_bulletin, bulletin_of}
use Rattle.gts_checkpoint.proofs.bulletins.are_bulletins.Goals as goal

pub returns : goal.returns
returns c =
    let d = c.args.directory.now in
    let n = c.args.accepted in
    all_from_yields_List (λ b. is_bulletin d n (bulletin_of b)) _ _ c.all.result c.all.ensures.ran (YieldsList-from_slice c.args.bulletins.now cc) (λ x b q k. search (rules, tests))
    ∙ sym (list_all-map (is_bulletin d n) bulletin_of c.args.bulletins.now)
