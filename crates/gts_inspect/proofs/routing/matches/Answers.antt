use Rattle.gts_inspect.proofs.Cited.{◌≡◌, ◌≤◌, ◌∙◌, ℕ, List, arith, ap, refl, length, length-drop, take, take_all, drop, agrees, dec}
use Rattle.gts_inspect.proofs.routing.matches.Goals as goal

pub returns : goal.returns
returns c =
    let p : List ℕ = c.args.pattern.now in
    let number = c.agrees-of_number.ensures ∙ ap (λ (text : List ℕ). agrees (take 2 (drop 4 p)) text) (c.digits_of.ensures ∙ ap (dec 2) c.from.ensures) in
    let has : length p ≡ 11 = c.type_inv.pattern.1.1.0.1 in
    let few : length (drop 7 p) ≤ 4 = omega (arith, has, length-drop 7 p) in
    let centre = c.agrees-of_centre.ensures ∙ ap (λ (part : List ℕ). agrees part c.args.heading.now.cccc) (take_all 4 (drop 7 p) few) in
    rw (c.agrees-of_type.ensures, c.agrees-of_area.ensures, number, centre) refl
