use Rattle.std.proofs.Common.{Option, None, Some, IfNone, sym, subst}
use Rattle.gts_tcp.specs.Numbers.{IsNumberAt}
use Rattle.gts_tcp.proofs.numbers.number_in.Goals as goal

-- what follows from a fact holds where that does
mapped : {T P Q : Type 0} → (o : Option T) → (P → Q) → IfNone o P → IfNone o Q
mapped None f p = f p
mapped (Some x) f p = p

-- a frame that carries five digits has them where they were looked for
pub returns-clause-none_of_five : goal.returns-clause-none_of_five
returns-clause-none_of_five c =
    mapped c.number_of.result
    (λ none n carries. none n (subst (λ bytes. IsNumberAt 5 n bytes) (sym c.in_ok-rest.ensures.found) carries.behind))
    c.number_of.ensures.none_of_five
