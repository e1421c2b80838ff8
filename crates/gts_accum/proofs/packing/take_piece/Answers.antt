use Rattle.gts_accum.proofs.Cited.{◌≤◌, ◌++◌, ℕ, List, take, Result, Err, Ok, subst, ◌∙◌, append_assoc, arith, rules, length-append, length-take-le, common_steps, Failed, Stands, Tells, entries_text, messages_of, on, signs_of_step}
use Rattle.gts_accum.proofs.PackLemmas.{IsStep, piece_more, piece_lost, piece_unsaid, rest_of_piece}
use Rattle.gts_accum.proofs.packing.take_piece.Goals as goal

pub returns-in-Lost-clause-ends : goal.returns-in-Lost-clause-ends
returns-in-Lost-clause-ends g c = λ first before here stands more.
    let taken = c.loop-rest.invariant.taken in
    let n : ℕ = c.take-count.result.0 in
    let rest : List ℕ = c.loop-rest.rest.now in
    let some : 1 ≤ n = first_of (search rules, grind (arith, common_steps)) in
    let is : IsStep rest n c.take-count.result.1 c.loop-rest.decoder c.take-count.new.self = search rules in
    piece_lost g.P.Station.observed first (g.P.Station.calls c.loop-rest.station) before taken.0 rest c.args.piece.now more c.args.start c.loop-rest.at n c.take-count.result.1 c.in-Lost.field-0
    c.loop-rest.decoder c.take-count.new.self (taken.3 first before stands) is c.in-Lost.is taken.1 taken.2 here c.requires

pub returns-in-Err-clause-ends : goal.returns-in-Err-clause-ends
returns-in-Err-clause-ends g c = λ first before here stands more.
    let taken = c.loop-rest.invariant.taken in
    let n : ℕ = c.take-count.result.0 in
    let rest : List ℕ = c.loop-rest.rest.now in
    let next = c.take-count.new.self in
    let some : 1 ≤ n = first_of (search rules, grind (arith, common_steps)) in
    let is : IsStep rest n c.take-count.result.1 c.loop-rest.decoder next = search rules in
    let T : List ℕ → Result (Unit {0}) Failed → Type 0 = λ m r. Tells r (on 0 (entries_text (messages_of (signs_of_step c.take-count.result.1 m)))) (g.P.Station.calls c.loop-rest.station) (g.P.Station.calls c.say_step.new.station) in
    piece_unsaid g.P.Station.observed first (g.P.Station.calls c.loop-rest.station) (g.P.Station.calls c.say_step.new.station) before taken.0 rest c.args.piece.now more c.args.start n c.take-count.result.1
    c.loop-rest.decoder next (taken.3 first before stands) is taken.1 here c.requires
    (λ t. subst (λ (m : List ℕ). T m (Err c.in-Err.field-0)) c.message.ensures (subst (T c.message.result.now) c.in-Err.is (c.say_step.ensures.told t)))

pub loop-rest-preserved : goal.loop-rest-preserved
loop-rest-preserved g c =
    let taken = c.loop-rest.invariant.taken in
    let n : ℕ = c.take-count.result.0 in
    let rest : List ℕ = c.loop-rest.rest.now in
    let next = c.take-count.new.self in
    let some : 1 ≤ n = first_of (search rules, grind (arith, common_steps)) in
    let is : IsStep rest n c.take-count.result.1 c.loop-rest.decoder next = search rules in
    let T : List ℕ → Result (Unit {0}) Failed → Type 0 = λ m r. Tells r (on 0 (entries_text (messages_of (signs_of_step c.take-count.result.1 m)))) (g.P.Station.calls c.loop-rest.station) (g.P.Station.calls c.say_step.new.station) in
    record {
      taken = (
        taken.0 ++ take n rest,
        rest_of_piece taken.0 rest c.args.piece.now n taken.1,
        omega (arith, taken.2, length-append taken.0 (take n rest), length-take-le n rest c.take-count.ensures.count),
        λ first before stands. subst (λ (l : List ℕ). Stands g.P.Station.observed first (g.P.Station.calls c.say_step.new.station) l next) (append_assoc before taken.0 (take n rest))
            (piece_more g.P.Station.observed first (g.P.Station.calls c.loop-rest.station) (g.P.Station.calls c.say_step.new.station) (before ++ taken.0) rest n c.take-count.result.1
            c.loop-rest.decoder next (taken.3 first before stands) is c.in_default.not-Lost
            (λ t. subst (λ (m : List ℕ). T m (Ok c.in_default-say_step.field-0)) c.message.ensures (subst (T c.message.result.now) c.in_default-say_step.is (c.say_step.ensures.told t)))),
      );
      sound = c.in_default-say_step.ensures.cause.sound ∙ c.loop-rest.invariant.sound;
      disk = c.say_step.ensures.cause.disk ∙ c.loop-rest.invariant.disk;
    }
