use Rattle.gts_inspect.proofs.Cited.{◌≡◌, take, fields_of, matches, places}
use Rattle.gts_inspect.proofs.routing.matching.Given as goal

abbrev pub invariant-loop-place : goal.invariant-loop-place
invariant-loop-place l = l.places.items ≡ places (λ rule. matches rule.heading (fields_of l.heading)) 0 (take l.place l.rules)
