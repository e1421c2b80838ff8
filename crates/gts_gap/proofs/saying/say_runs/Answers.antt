use Rattle.gts_gap.proofs.Cited.{◌≡◌, ◌∷◌, ◌++◌, List, ℕ, Result, Err, Ok, sym, ap, subst, ◌∙◌, append_assoc, AllByRecursion, Failed, HasDigits, SaysFront, SaysOnly, Tells, on, run_line, run_lines}
use Rattle.gts_gap.proofs.SayingLemmas.{tells_on, front_on, front_told}
use Rattle.gts_gap.proofs.saying.say_runs.Goals as goal

pub returns-in_err-say-clause-told : goal.returns-in_err-say-clause-told
returns-in_err-say-clause-told g c = λ t.
    let x = c.loop-first.invariant.said t in
    let line : List ℕ = run_line c.args.c (c.in-Some.first, c.in-Some.last, c.in-Some.digits) in
    let rest : List ℕ = run_lines c.args.c c.next.new.self in
    let a = g.P.Station.calls c.args.station.now in
    let b = g.P.Station.calls c.loop-first.station in
    let d = g.P.Station.calls c.say.new.station in
    let T : List ℕ → Result (Unit {0}) Failed → Type 0 = λ piece r. Tells r (on 0 piece) b d in
    let said : Tells {T = Unit {0}} (Err c.in_err-say.field-0.0) (on 0 line) b d =
    subst (λ (piece : List ℕ). T piece (Err c.in_err-say.field-0.0)) (c.bytes.ensures ∙ c.line_of-line.ensures) (subst (T c.bytes.result.now) c.in_err-say.was (c.say.ensures.told t)) in
    let front : SaysFront a d (on 0 (x.0 ++ line)) = tells_on {T = Unit {0}} (Err c.in_err-say.field-0.0) a b d 0 x.0 line x.2 said in
    let all : run_lines c.args.c c.args.runs ≡ (x.0 ++ line) ++ rest = x.1 ∙ ap (λ (rs : List (ℕ × ℕ × ℕ)). x.0 ++ run_lines c.args.c rs) c.in-Some.ensures.steps ∙ sym (append_assoc x.0 line rest) in
    front_told c.from_residual.result c.in_err-say.field-0.0 (on 0 (run_lines c.args.c c.args.runs)) a d c.from_residual.ensures.1
    (subst (λ (l : List ℕ). SaysFront a d (on 0 l)) (sym all) (front_on a d 0 (x.0 ++ line) rest front))

pub loop-first-preserved : goal.loop-first-preserved
loop-first-preserved g c =
    let line : List ℕ = run_line c.args.c (c.in-Some.first, c.in-Some.last, c.in-Some.digits) in
    let rest : List ℕ = run_lines c.args.c c.next.new.self in
    let a = g.P.Station.calls c.args.station.now in
    let b = g.P.Station.calls c.loop-first.station in
    let d = g.P.Station.calls c.say.new.station in
    let T : List ℕ → Result (Unit {0}) Failed → Type 0 = λ piece r. Tells r (on 0 piece) b d in
    let both : AllByRecursion HasDigits ((c.in-Some.first, c.in-Some.last, c.in-Some.digits) ∷ c.next.new.self) =
    subst (λ (rs : List (ℕ × ℕ × ℕ)). AllByRecursion HasDigits rs) c.in-Some.ensures.steps c.loop-first.invariant.digits in
    record {
      can = tt;
      finite = tt;
      digits = both.1;
      said = λ t.
          let x = c.loop-first.invariant.said t in
          let said : SaysOnly b d (on 0 line) =
          subst (λ (piece : List ℕ). T piece (Ok tt)) (c.bytes.ensures ∙ c.line_of-line.ensures) (subst (T c.bytes.result.now) c.in_ok-say.was (c.say.ensures.told t)) in (
            x.0 ++ line,
            x.1 ∙ ap (λ (rs : List (ℕ × ℕ × ℕ)). x.0 ++ run_lines c.args.c rs) c.in-Some.ensures.steps ∙ sym (append_assoc x.0 line rest),
            tells_on {T = Unit {0}} {E = Failed} (Ok tt) a b d 0 x.0 line x.2 said,
          );
      sound = c.in_ok-say.ensures.cause.sound ∙ c.loop-first.invariant.sound;
      disk = c.say.ensures.cause.disk ∙ c.loop-first.invariant.disk;
    }
