use Rattle.gts_gap.proofs.Cited.{◌≡◌, ◌+◌, ◌<◌, ◌++◌, ℕ, length, Result, Err, Ok, sym, ap, subst, ◌∙◌, append_assoc, arith, codes, Failed, Outside, SaysFront, SaysOnly, Tells, on, report, said_from, said_of, front_more}
use Rattle.gts_gap.proofs.SayingLemmas.{said_more_of, said_split, tells_behind, front_told}
use Rattle.gts_gap.proofs.reporting.say_report.Goals as goal

pub returns-in_err-say_circuit-clause-told : goal.returns-in_err-say_circuit-clause-told
returns-in_err-say_circuit-clause-told g c = λ t numbers stand.
    let d = c.args.directory.now in
    let k : ℕ = c.loop-c.c in
    let within : k < length d.circuits = omega (arith, c.loop-c-test.true, c.circuits-c-end.ensures.value) in
    let a = g.P.Station.calls c.args.station.now in
    let b = g.P.Station.calls c.loop-c.station in
    let e = g.P.Station.calls c.say_circuit.new.station in
    let before : Outside = said_from d c.args.moment numbers 0 k in
    let here : Outside = said_of d c.args.moment k (numbers k) in
    let fails : SaysFront b e here = subst (λ (r : Result (Unit {0}) Failed). Tells r here b e) c.in_err-say_circuit.was (c.say_circuit.ensures.told t (numbers k) (stand k within)) in
    let front : SaysFront a e (before ++ here) = tells_behind {T = Unit {0}} (Err c.in_err-say_circuit.field-0.0) a b e before here (c.loop-c.invariant.said t numbers stand) fails in
    let split = said_split d c.args.moment numbers k (length d.circuits) within in
    front_told c.from_residual.result c.in_err-say_circuit.field-0.0 (report d c.args.moment numbers) a e c.from_residual.ensures.1
    (subst (λ (o : Outside). SaysFront a e o) (sym (ap (λ (o : Outside). o ++ on 0 (codes "end\n")) split.1 ∙ append_assoc (before ++ here) split.0 (on 0 (codes "end\n"))))
    (front_more a e (before ++ here) (split.0 ++ on 0 (codes "end\n")) front))

pub loop-c-preserved : goal.loop-c-preserved
loop-c-preserved g c =
    let d = c.args.directory.now in
    let k : ℕ = c.loop-c.c in
    let within : k < length d.circuits = omega (arith, c.loop-c-test.true, c.circuits-c-end.ensures.value) in
    let a = g.P.Station.calls c.args.station.now in
    let b = g.P.Station.calls c.loop-c.station in
    let e = g.P.Station.calls c.say_circuit.new.station in
    record {
      said = λ t numbers stand.
          let before : Outside = said_from d c.args.moment numbers 0 k in
          let here : Outside = said_of d c.args.moment k (numbers k) in
          let says : SaysOnly b e here = subst (λ (r : Result (Unit {0}) Failed). Tells r here b e) c.in_ok-say_circuit.was (c.say_circuit.ensures.told t (numbers k) (stand k within)) in
          let both : SaysOnly a e (before ++ here) = tells_behind {T = Unit {0}} {E = Failed} (Ok tt) a b e before here (c.loop-c.invariant.said t numbers stand) says in
          subst (λ (o : Outside). SaysOnly a e o) (sym (said_more_of d c.args.moment numbers 0 k ∙ ap (λ (n : ℕ). before ++ said_of d c.args.moment n (numbers n)) (let z : 0 + k ≡ k = omega arith in z))) both;
      sound = c.in_ok-say_circuit.ensures.cause.sound ∙ c.loop-c.invariant.sound;
      disk = c.say_circuit.ensures.cause.disk ∙ c.loop-c.invariant.disk;
    }

pub returns-clause-told : goal.returns-clause-told
returns-clause-told g c = λ t numbers stand.
    let d = c.args.directory.now in
    let all : c.loop-c.c ≡ length d.circuits = omega (arith, c.loop-c-test.false, c.circuits-c-end.ensures.value, c.loop-c.auto.c-end) in
    let a = g.P.Station.calls c.args.station.now in
    let b = g.P.Station.calls c.loop-c.station in
    let e = g.P.Station.calls c.say.new.station in
    let said : SaysOnly a b (said_from d c.args.moment numbers 0 (length d.circuits)) =
    subst (λ (n : ℕ). SaysOnly a b (said_from d c.args.moment numbers 0 n)) all (c.loop-c.invariant.said t numbers stand) in
    tells_behind c.say.result a b e (said_from d c.args.moment numbers 0 (length d.circuits)) (on 0 (codes "end\n")) said (c.say.ensures.told t)
