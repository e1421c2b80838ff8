use Rattle.gts_checkpoint.proofs.Cited.{◌≡◌, Bool, true, ◌&&◌, nat_le, nat_lt, length, sym, ap, ◌∙◌, arith, rules, circuit_need_of, is_kept, list_all, most_owed, le-leb, YieldsList-from_slice, all_from_yields_List, tests}
use Rattle.gts_checkpoint.proofs.SoundLemmas.{all-agree, kept-is}
use Rattle.gts_checkpoint.proofs.sound.owes_few.Goals as goal

pub returns-then-len-le-MOST_OWED : goal.returns-then-len-le-MOST_OWED
returns-then-len-le-MOST_OWED c =
    let q = c.args.circuit.now in
    let first = c.saturating_sub-first.result in
    let few : nat_le (length q.owed) most_owed ≡ true = le-leb (length q.owed) most_owed (omega arith) in
    let each = all_from_yields_List (λ i. nat_le first i && nat_lt i q.draws) _ _ c.all.result c.all.ensures.ran (YieldsList-from_slice q.owed cc) (λ x b q k. search (rules, tests)) in
    let same = all-agree (λ i. nat_le first i && nat_lt i q.draws) (is_kept (circuit_need_of q)) q.owed (λ i. kept-is q.draws (length q.kept) first i (omega arith)) in
    each ∙ same ∙ sym (ap (λ (b : Bool). b && list_all (is_kept (circuit_need_of q)) q.owed) few)
