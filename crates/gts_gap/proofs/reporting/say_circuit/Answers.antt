use Rattle.gts_gap.proofs.Cited.{◌≡◌, ◌+◌, List, ℕ, Result, Err, Ok, sym, ap, subst, ◌∙◌, append-nil, Failed, Outside, SaysFront, SaysOnly, Tells, ask_frame, ask_heading, asked, circuit_of_row, digits_of, gap_lines, gaps, on, peer_of, run_lines, runs_given, said_of, text_of, front_more, common_steps, arith}
use Rattle.gts_gap.proofs.SayingLemmas.{lines_given, asked_none, asked_some, peer_is, tells_behind, front_told}
use Rattle.gts_gap.proofs.reporting.say_circuit.Goals as goal

pub returns-in_err-say_runs-clause-told : goal.returns-in_err-say_runs-clause-told
returns-in_err-say_runs-clause-told g c = λ t ns stands.
    let a = g.P.Station.calls c.args.station.now in
    let b = g.P.Station.calls c.say_runs.new.station in
    let w : ℕ = digits_of ns in
    let lines : run_lines c.args.c c.runs.result ≡ gap_lines c.args.c w (gaps ns) = ap (run_lines c.args.c) (c.runs.ensures.runs ns stands) ∙ lines_given c.args.c w (gaps ns) in
    let T : List ℕ → Result (Unit {0}) Failed → Type 0 = λ piece r. Tells r (on 0 piece) a b in
    let said : SaysFront a b (on 0 (gap_lines c.args.c w (gaps ns))) =
    subst (λ (piece : List ℕ). T piece (Err c.in_err-say_runs.field-0.0)) lines (subst (T (run_lines c.args.c c.runs.result)) c.in_err-say_runs.was (c.say_runs.ensures.told t)) in
    front_told c.from_residual.result c.in_err-say_runs.field-0.0 (said_of c.args.directory.now c.args.moment c.args.c ns) a b c.from_residual.ensures.1
    (front_more a b (on 0 (gap_lines c.args.c w (gaps ns))) (asked c.args.directory.now c.args.moment c.args.c w (gaps ns)) said)

pub returns-then-not-ask-clause-told : goal.returns-then-not-ask-clause-told
returns-then-not-ask-clause-told g c = grind (arith, common_steps, lines_given, asked_none, append-nil)

pub returns-clause-told : goal.returns-clause-told
returns-clause-told g c = λ t ns stands.
    let d = c.args.directory.now in
    let a = g.P.Station.calls c.args.station.now in
    let b = g.P.Station.calls c.say_runs.new.station in
    let e = g.P.Station.calls c.say_request.new.station in
    let w : ℕ = digits_of ns in
    let lines : run_lines c.args.c c.runs.result ≡ gap_lines c.args.c w (gaps ns) = ap (run_lines c.args.c) (c.runs.ensures.runs ns stands) ∙ lines_given c.args.c w (gaps ns) in
    let T : List ℕ → Result (Unit {0}) Failed → Type 0 = λ piece r. Tells r (on 0 piece) a b in
    let said : SaysOnly a b (on 0 (gap_lines c.args.c w (gaps ns))) =
    subst (λ (piece : List ℕ). T piece (Ok tt)) lines (subst (T (run_lines c.args.c c.runs.result)) c.in_ok-say_runs.was (c.say_runs.ensures.told t)) in
    let some = (c.ask.ensures.some ns stands).0 c.if-not-ask.false in
    let all = asked_some d c.args.moment c.args.c w (gaps ns) some in
    let peer : peer_of d c.args.c ≡ c.circuit.result.now.peer = peer_is d.circuits c.args.c (circuit_of_row c.circuit.result.now) c.circuit.ensures.row in
    let text = c.bytes.ensures.text ∙ c.ask.ensures.text ns stands ∙ ap (λ (own : List ℕ). text_of own w (runs_given ns)) c.centre.ensures in
    let F : ℕ → List ℕ → List ℕ → Type 0 = λ n p x. Tells c.say_request.result (on n (ask_frame (ask_heading p c.args.moment.day c.args.moment.hour c.args.moment.minute) x)) b e in
    let frame : F (c.args.c + 1) (peer_of d c.args.c) (text_of d.centre w (runs_given ns)) =
    rw (← c.of_circuit.ensures, peer, ← text) (c.say_request.ensures.told t) in
    tells_behind c.say_request.result a b e (on 0 (gap_lines c.args.c w (gaps ns))) (asked d c.args.moment c.args.c w (gaps ns)) said (subst (λ (o : Outside). Tells c.say_request.result o b e) (sym all) frame)
