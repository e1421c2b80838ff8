use Rattle.gts_inspect.proofs.Cited.{◌∙◌, List, ap, length, fields_of, matches, places}
use Rattle.gts_directory.specs.Directory as directory
use Rattle.gts_inspect.proofs.RouteLemmas.{places_of_rules}
use Rattle.gts_inspect.proofs.routing.route_of.Goals as goal

pub returns-clause-rules : goal.returns-clause-rules
returns-clause-rules c =
    let d = c.args.file.now in
    let h = fields_of c.args.heading.now in
    c.in_ok-rules.ensures ∙ places_of_rules (length d.circuits) 0 h c.rules-2.result.now
    ∙ ap (λ (l : List directory.Rule). places (λ rule. matches rule.heading h) 0 l) c.rules-2.ensures.same
