use Rattle.gts_inspect.proofs.Cited.{◌==◌, ◌&&◌, ◌∙◌, ◌≤◌, List, Bool, ap, arith, length, take_all, RuleRow, bit_at, fields_of, list_any, matches}
use Rattle.gts_inspect.proofs.RouteLemmas.{reached_is}
use Rattle.gts_inspect.proofs.routing.is_reached.Goals as goal

pub returns : goal.returns
returns c =
    let rows : List RuleRow = c.args.rules.now in
    let h = fields_of c.args.heading.now in
    let test : RuleRow → Bool = λ row. matches row.heading h && (bit_at row.to c.args.circuit == 1) in
    let all : length rows ≤ c.loop-rule.rule-index = omega (arith, c.loop-rule-test.false) in
    c.loop-rule.invariant ∙ ap (list_any test) (take_all c.loop-rule.rule-index rows all)
    ∙ reached_is c.args.directory.now c.args.circuit h rows c.requires.there c.requires.rules
