-- What the laws of src/laws.rt say, for the proofs of crates above: each is an answer of one of them.
use Rattle.std.proofs.Common.{ℕ, List, IsTrue, sym, ◌∙◌, ◌↔◌, IsSome}
use Rattle.gts_bbb.specs.Cited.{is_bbb, kind_of}
use Rattle.gts_bbb.proofs.GroupLemmas.{is_some-kind_of}

pub kinds_are_groups : (three : List ℕ) → IsSome (kind_of three) ↔ IsTrue (is_bbb three)
kinds_are_groups three = (λ e. sym (is_some-kind_of three) ∙ e, λ e. is_some-kind_of three ∙ e)
