use Rattle.gts_count.proofs.Cited.{◌≡◌, ℕ, List, length, sym, ap, ◌∙◌, Arrival, parts_of}
use Rattle.gts_count.proofs.KeyLemmas.{key_message}
use Rattle.gts_count.proofs.counting.heard_in.Goals as goal

arrival_is : (k k' : List ℕ) (from n n' : ℕ) → k ≡ k' → n ≡ n' → ◌≡◌ {A = Arrival} (record { key = k; from = from; bytes = n }) (record { key = k'; from = from; bytes = n' })
arrival_is k k' from n n' e f = ap (λ (x : List ℕ). record { key = x; from = from; bytes = n }) e ∙ ap (λ (x : ℕ). record { key = k'; from = from; bytes = x }) f

pub returns-clause-some : goal.returns-clause-some
returns-clause-some c =
    let read = key_message c.args.message.now (parts_of c.in-Ok.parts) c.in-Ok.ensures.exact in
    arrival_is _ _ c.args.c _ _ (c.key_in.ensures read.1 ∙ read.2) (ap length (sym read.0))
