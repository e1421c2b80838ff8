use Rattle.gts_standby.proofs.Cited.{ℕ, List, take, drop, ap, ◌∙◌, is_some, arith, put_mid}
use Rattle.gts_standby.proofs.MayBeginLemmas.{accept_may, accept_long, some_found}
use Rattle.gts_standby.proofs.fed.may_begin_accept.Goals as goal

pub returns-then-number_in_four-gt-LONGEST_BODY : goal.returns-then-number_in_four-gt-LONGEST_BODY
returns-then-number_in_four-gt-LONGEST_BODY c =
    accept_long c.args.bytes.now c.number_in_four.result c.requires (omega (arith, c.number_in_four.type_inv))
    (c.number_in_four.ensures ∙ c.copy_from_slice.ensures.after ∙ ap (λ (l : List ℕ). take 4 (drop 12 l)) c.put_over.ensures) c.if-number_in_four-gt-LONGEST_BODY.true

pub returns : goal.returns
returns c =
    c.is_some.ensures ∙ some_found _ c.decode.result ∙ ap (λ o. is_some o) c.decode.ensures.found
    ∙ accept_may c.args.bytes.now c.number_in_four.result c.requires (omega (arith, c.number_in_four.type_inv))
    (c.number_in_four.ensures ∙ c.copy_from_slice.ensures.after ∙ ap (λ (l : List ℕ). take 4 (drop 12 l)) c.put_over.ensures) _ c.if-number_in_four-gt-LONGEST_BODY.false
    ((λ k. put_mid 12 4 (c.put_over.ensures k) (c.copy_from_slice-2.ensures.after k)))
