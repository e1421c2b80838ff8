use Rattle.gts_inspect.proofs.Cited.{◌≡◌, ◌++◌, ◌+◌, ◌∷◌, [], ℕ, List, Option, None, get_or, take, told, ap, sym, ◌∙◌, append_assoc, take_more}
use Rattle.gts_inspect.specs.declared.finding.Finding.{Finding}
use Rattle.gts_inspect.proofs.OrderLemmas.{told_more}
use Rattle.gts_inspect.proofs.inspection.add_told.Goals as goal

pub loop-look-preserved : goal.loop-look-preserved
loop-look-preserved c =
    let looked : List (Option Finding) = c.args.looked.now in
    let i : ℕ = c.loop-look.look-index in
    let look : Option Finding = get_or looked i None in
    let front = take i looked in
    let more : take (i + 1) looked ≡ front ++ look ∷ [] = take_more looked i None c.loop-look-test.true in
    let all : told (take (i + 1) looked) ≡ told front ++ told (look ∷ []) = ap told more ∙ told_more front look in
    c.in_ok-add_look.ensures ∙ ap (λ (l : List Finding). l ++ told (look ∷ [])) c.loop-look.invariant
    ∙ append_assoc c.args.found.now.items (told front) (told (look ∷ [])) ∙ ap (λ (l : List Finding). c.args.found.now.items ++ l) (sym all)
