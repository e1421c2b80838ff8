-- What was kept stays in front.
use Rattle.std.proofs.Common.{ℕ, List, [], ◌++◌, sym, ap, ◌∙◌, append_assoc}
use Rattle.std.proofs.lemmas.List.{append-nil}
use Rattle.gts_traits.specs.Cited.{IsFront}

pub unchanged : (a : List ℕ) → IsFront a a
unchanged a = ([], sym (append-nil a))

pub chains : (a b c : List ℕ) → IsFront a b → IsFront b c → IsFront a c
chains a b c first next = (first.0 ++ next.0, next.1 ∙ ap (λ x. x ++ next.0) first.1 ∙ append_assoc a first.0 next.0)
