use Rattle.gts_gap.proofs.Cited.{◌+◌, ◌++◌, List, ℕ, length, Result, Err, Ok, sym, subst, ◌∙◌, arith, Failed, SaysFront, SaysOnly, Tells, ask_frame, ask_heading, message_end, on, front_text}
use Rattle.gts_gap.proofs.SayingLemmas.{frame_text, tells_on, front_on, front_told}
use Rattle.gts_gap.proofs.saying.say_request.Goals as goal

pub returns-in_err-say-clause-told : goal.returns-in_err-say-clause-told
returns-in_err-say-clause-told g c = λ t.
    let text : List ℕ = c.args.text.now in
    let front : List ℕ = front_text c.args.peer c.args.moment (35 + length text) in
    let a = g.P.Station.calls c.args.station.now in
    let b = g.P.Station.calls c.say.new.station in
    let T : List ℕ → Result (Unit {0}) Failed → Type 0 = λ piece r. Tells r (on c.args.channel piece) a b in
    let said : SaysFront a b (on c.args.channel front) =
    subst (λ (piece : List ℕ). T piece (Err c.in_err-say.field-0.0)) (c.bytes.ensures ∙ c.front_of-front.ensures) (subst (T c.bytes.result.now) c.in_err-say.was (c.say.ensures.told t)) in
    front_told c.from_residual.result c.in_err-say.field-0.0 (on c.args.channel (ask_frame (ask_heading c.args.peer c.args.moment.day c.args.moment.hour c.args.moment.minute) text)) a b c.from_residual.ensures.1
    (subst (λ (frame : List ℕ). SaysFront a b (on c.args.channel frame)) (sym (frame_text c.args.peer c.args.moment text (omega arith)))
    (front_on a b c.args.channel (front ++ text) message_end (front_on a b c.args.channel front text said)))

pub returns-in_err-say-2-clause-told : goal.returns-in_err-say-2-clause-told
returns-in_err-say-2-clause-told g c = λ t.
    let text : List ℕ = c.args.text.now in
    let front : List ℕ = front_text c.args.peer c.args.moment (35 + length text) in
    let a = g.P.Station.calls c.args.station.now in
    let b = g.P.Station.calls c.say.new.station in
    let d = g.P.Station.calls c.say-2.new.station in
    let T : List ℕ → Result (Unit {0}) Failed → Type 0 = λ piece r. Tells r (on c.args.channel piece) a b in
    let said : SaysOnly a b (on c.args.channel front) =
    subst (λ (piece : List ℕ). T piece (Ok tt)) (c.bytes.ensures ∙ c.front_of-front.ensures) (subst (T c.bytes.result.now) c.in_ok-say.was (c.say.ensures.told t)) in
    let more : Tells {T = Unit {0}} (Err c.in_err-say-2.field-0.0) (on c.args.channel text) b d = subst (λ (r : Result (Unit {0}) Failed). Tells r (on c.args.channel text) b d) c.in_err-say-2.was (c.say-2.ensures.told t) in
    front_told c.from_residual-in_err-say-2.result c.in_err-say-2.field-0.0 (on c.args.channel (ask_frame (ask_heading c.args.peer c.args.moment.day c.args.moment.hour c.args.moment.minute) text)) a d c.from_residual-in_err-say-2.ensures.1
    (subst (λ (frame : List ℕ). SaysFront a d (on c.args.channel frame)) (sym (frame_text c.args.peer c.args.moment text (omega arith)))
    (front_on a d c.args.channel (front ++ text) message_end (tells_on {T = Unit {0}} (Err c.in_err-say-2.field-0.0) a b d c.args.channel front text said more)))

pub returns-clause-told : goal.returns-clause-told
returns-clause-told g c = λ t.
    let text : List ℕ = c.args.text.now in
    let front : List ℕ = front_text c.args.peer c.args.moment (35 + length text) in
    let a = g.P.Station.calls c.args.station.now in
    let b = g.P.Station.calls c.say.new.station in
    let d = g.P.Station.calls c.say-2.new.station in
    let e = g.P.Station.calls c.say-3.new.station in
    let T : List ℕ → Result (Unit {0}) Failed → Type 0 = λ piece r. Tells r (on c.args.channel piece) a b in
    let said : SaysOnly a b (on c.args.channel front) =
    subst (λ (piece : List ℕ). T piece (Ok tt)) (c.bytes.ensures ∙ c.front_of-front.ensures) (subst (T c.bytes.result.now) c.in_ok-say.was (c.say.ensures.told t)) in
    let more : SaysOnly b d (on c.args.channel text) = subst (λ (r : Result (Unit {0}) Failed). Tells r (on c.args.channel text) b d) c.in_ok-say-2.was (c.say-2.ensures.told t) in
    let both : SaysOnly a d (on c.args.channel (front ++ text)) = tells_on {T = Unit {0}} {E = Failed} (Ok tt) a b d c.args.channel front text said more in
    subst (λ (frame : List ℕ). Tells c.say-3.result (on c.args.channel frame) a e) (sym (frame_text c.args.peer c.args.moment text (omega arith)))
    (tells_on c.say-3.result a d e c.args.channel (front ++ text) message_end both (c.say-3.ensures.told t))
