use Rattle.std.proofs.Common.{◌≡◌, ℕ, Bool, true, false, ◌&&◌, nat_eq, cond, Option, None, Some, option_copied, IfSome, refl, sym, ap, subst, ◌∙◌, slice_get}
use Rattle.gts_dup.specs.Cited.{Forgets, indexed, is_of, is_position, key_of, option_eq}
use Rattle.std.proofs.lemmas.Bool.{true≢false}
use Rattle.gts_dup.proofs.WindowLemmas.{Pair}
use Rattle.gts_dup.proofs.table.take_out_oldest.Goals as goal

told : (o : Option ℕ) (n : ℕ) → option_eq nat_eq o (Some n) ≡ true → is_position o n ≡ true
told None n e = absurd (true≢false (sym e))
told (Some position) n e = e

where_also : (a b : Bool) (x y : Option ℕ) → b ≡ true → cond a x y ≡ cond (a && b) x y
where_also true b x y e = ap (λ t. cond t x y) (sym e)
where_also false b x y e = refl

pub returns-then-eq-clause-forgets : goal.returns-then-eq-clause-forgets
returns-then-eq-clause-forgets c =
    let old = c.args.index.now in
    let oldest : Pair = c.in-Some.oldest.now in
    let first : Some oldest ≡ slice_get c.args.ring.now.items 0 = sym (ap option_copied c.in-Some.is) ∙ c.front.ensures in
    let there : c.copied.result ≡ indexed old oldest.0 = c.copied.ensures ∙ c.get.ensures.value in
    let same : is_position (indexed old oldest.0) oldest.1 ≡ true = subst (λ (o : Option ℕ). is_position o oldest.1 ≡ true) there (told c.copied.result oldest.1 (sym c.eq.ensures ∙ c.if-eq.true)) in
    subst (λ (o : Option Pair). IfSome o (Forgets old c.remove.new.self)) first
    (λ digest. c.remove.ensures.updates.0 (key_of digest) ∙ where_also (is_of digest oldest) (is_position (indexed old oldest.0) oldest.1) None (indexed old digest) same)
