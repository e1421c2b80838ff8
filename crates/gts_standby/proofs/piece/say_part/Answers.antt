use Rattle.gts_standby.proofs.Cited.{rules, ◌≡◌, ◌-◌, ℕ, List, length, take, drop, sym, ap, subst, ◌∙◌, arith, IsErr, length-take-le, Call, SaysFront, SaysHere, on, seen}
use Rattle.gts_standby.proofs.SayLemmas.{says_more, said_front, more_of, piece_more, piece_broken, speaks_err}
use Rattle.gts_standby.proofs.piece.say_part.Goals as goal

pub returns-in_err-found-clause-told : goal.returns-in_err-found-clause-told
returns-in_err-found-clause-told g c = λ observed.
    let inv = c.loop-at.invariant in
    let old = g.P.Station.calls c.args.station.now in
    let bytes = seen old c.args.file in
    let failed : IsErr c.from_residual.result = search rules in
    let F : List Call → Type 0 = λ calls. SaysFront old calls (on 0 (take (c.args.to - c.args.from) (drop c.args.from bytes))) in
    speaks_err c.from_residual.result old (g.P.Station.calls c.read.new.self) (take (c.args.to - c.args.from) (drop c.args.from bytes)) failed
    (subst F (sym (c.in_err-found.ensures.told observed)) (more_of old (g.P.Station.calls c.loop-at.station) bytes c.args.from c.loop-at.at c.args.to inv.begun inv.inside
    (said_front old (g.P.Station.calls c.loop-at.station) (take (c.loop-at.at - c.args.from) (drop c.args.from bytes)) (inv.says observed))))

pub returns-in_err-say_piece-clause-told : goal.returns-in_err-say_piece-clause-told
returns-in_err-say_piece-clause-told g c = λ observed.
    let inv = c.loop-at.invariant in
    let old = g.P.Station.calls c.args.station.now in
    let bytes = seen old c.args.file in
    let part : List ℕ = c.read.new.into in
    let count : ℕ = c.min-count.result in
    let room = length-take-le count c.loop-at.piece (omega (arith, c.min-count.array_long, c.min-count.ensures)) in
    let long : length part ≡ count = c.read.auto.into ∙ room in
    let all : c.in_ok-found.found ≡ count = omega (arith, c.in_ok-found.ensures.within, room, c.if-found-count.false) in
    let now = inv.says observed in
    let is : take count part ≡ take count (drop c.loop-at.at bytes) =
    ap (λ (k : ℕ). take k part) (sym all) ∙ c.in_ok-found.ensures.bytes observed ∙ ap (λ (k : ℕ). take k (drop c.loop-at.at (seen (g.P.Station.calls c.loop-at.station) c.args.file))) all
    ∙ ap (λ (l : List ℕ). take count (drop c.loop-at.at l)) (now.only.files c.args.file) in
    let failed : IsErr c.from_residual-in_err-say_piece.result = search rules in
    let S : List Call → Type 0 = λ calls. SaysHere old calls (take (c.loop-at.at - c.args.from) (drop c.args.from bytes)) in
    speaks_err c.from_residual-in_err-say_piece.result old (g.P.Station.calls c.say_piece.new.station) (take (c.args.to - c.args.from) (drop c.args.from bytes)) failed
    (piece_broken old (g.P.Station.calls c.read.new.self) (g.P.Station.calls c.say_piece.new.station) bytes part c.args.from c.loop-at.at count c.args.to inv.begun (omega (arith, c.min-count.ensures, c.loop-at-test.true)) long is
    (subst S (sym (c.in_ok-found.ensures.told observed)) now) (c.in_err-say_piece.ensures.told observed))

pub loop-at-preserved : goal.loop-at-preserved
loop-at-preserved g c =
    let inv = c.loop-at.invariant in
    let old = g.P.Station.calls c.args.station.now in
    let bytes = seen old c.args.file in
    let part : List ℕ = c.read.new.into in
    let count : ℕ = c.min-count.result in
    let room = length-take-le count c.loop-at.piece (omega (arith, c.min-count.array_long, c.min-count.ensures)) in
    let long : length part ≡ count = c.read.auto.into ∙ room in
    let all : c.in_ok-found.found ≡ count = omega (arith, c.in_ok-found.ensures.within, room, c.if-found-count.false) in
    record {
      begun = omega (arith, inv.begun);
      inside = omega (arith, c.min-count.ensures, c.loop-at-test.true);
      says = λ observed.
          let now = inv.says observed in
          let is : take count part ≡ take count (drop c.loop-at.at bytes) =
          ap (λ (k : ℕ). take k part) (sym all) ∙ c.in_ok-found.ensures.bytes observed ∙ ap (λ (k : ℕ). take k (drop c.loop-at.at (seen (g.P.Station.calls c.loop-at.station) c.args.file))) all
          ∙ ap (λ (l : List ℕ). take count (drop c.loop-at.at l)) (now.only.files c.args.file) in
          let S : List Call → Type 0 = λ calls. SaysHere old calls (take (c.loop-at.at - c.args.from) (drop c.args.from bytes)) in
          subst (λ (l : List ℕ). SaysHere old (g.P.Station.calls c.say_piece.new.station) l) (piece_more bytes part c.args.from c.loop-at.at count inv.begun long is)
          (says_more old (g.P.Station.calls c.read.new.self) (g.P.Station.calls c.say_piece.new.station) (take (c.loop-at.at - c.args.from) (drop c.args.from bytes)) part
          (subst S (sym (c.in_ok-found.ensures.told observed)) now) (c.in_ok-say_piece.ensures.told observed));
      sound = c.say_piece.ensures.cause.disk ∙ c.in_ok-found.ensures.cause.sound ∙ inv.sound;
      say = c.in_ok-say_piece.ensures.cause.sound ∙ c.read.ensures.say ∙ inv.say;
    }
