use Rattle.gts_gap.proofs.Cited.{◌-◌, ◌++◌, ℕ, List, [], take, drop, refl, sym, ap, subst, ◌∙◌, append_assoc, arith, length, length-drop, take-append-drop, take_all, Adds, events_of_signs, signs_of_step, numbers_of}
use Rattle.gts_gap.proofs.CountingLemmas.{fed_none, fed_step}
use Rattle.gts_gap.proofs.hearing.feed_piece.Goals as goal

pub loop-rest-init : goal.loop-rest-init
loop-rest-init c = record { fed = ([], refl, fed_none c.args.c c.args.decoder.now c.args.table.now); circuits = refl }

pub loop-rest-preserved : goal.loop-rest-preserved
loop-rest-preserved c =
    let fed = c.loop-rest.invariant.fed in
    let rest : List ℕ = c.loop-rest.rest.now in
    let n : ℕ = c.take-count.result.0 in
    let next = c.take-count.new.self in
    let x : List ℕ = take n rest in
    let behind : List ℕ = drop n rest in
    let A : List ℕ → Type 0 = λ m. Adds c.loop-rest.table c.deal.new.table (numbers_of (events_of_signs c.args.c (signs_of_step c.take-count.result.1 m))) in
    record {
      fed = (
        fed.0 ++ x,
        fed.1 ∙ ap (λ (e : List ℕ). fed.0 ++ e) (sym (take-append-drop n rest)) ∙ sym (append_assoc fed.0 x behind)
            ∙ ap (λ (e : List ℕ). (fed.0 ++ x) ++ e) (sym (take_all (length rest - n) behind (omega (arith, length-drop n rest)))),
        fed_step c.args.c c.args.decoder.now c.args.table.now fed.0 x c.take-count.result.1 c.loop-rest.decoder next c.loop-rest.table c.deal.new.table fed.2 c.take-count.ensures.reads
            (subst A c.message.ensures c.deal.ensures.adds),
      );
      circuits = c.deal.ensures.circuits ∙ c.loop-rest.invariant.circuits;
    }
