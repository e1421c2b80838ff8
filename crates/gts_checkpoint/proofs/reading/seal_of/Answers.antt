use Rattle.gts_checkpoint.proofs.Cited.{◌≡◌, ◌+◌, ◌≤◌, ℕ, List, Ok, length, take, ap, subst, ◌∙◌, arith, length-take-le, BeginsWith, Seals, bytes_from, held, common_steps}
use Rattle.gts_checkpoint.proofs.SealLemmas.{piece_there, same_place, enough}
use Rattle.gts_checkpoint.proofs.reading.seal_of.Goals as goal

pub loop-done-preserved : goal.loop-done-preserved
loop-done-preserved g c =
    let inv = c.loop-done.invariant in
    let done : ℕ = c.loop-done.done in
    let count : ℕ = c.min-count.result in
    let part : List ℕ = c.fetch.new.into in
    let long : length part ≡ count = c.fetch.auto.into ∙ length-take-le count c.loop-done.piece (omega (arith, c.min-count.array_long, c.min-count.ensures)) in
    record {
      inside = omega (arith, c.min-count.ensures, inv.inside);
      seals = λ observed.
          let before : List ℕ = held c.args.version c.args.before.now in
          let calls = g.P.Station.calls c.args.station.now in
          let all : List ℕ = bytes_from calls c.args.file 41 in
          let there : done ≤ length all = omega (arith, inv.inside, c.requires.there observed) in
          let begins = same_place (λ l. BeginsWith l part) (g.P.Station.calls c.loop-done.station) calls c.args.file c.from.result done (inv.told observed) c.from.ensures (c.in_ok-fetch.ensures.whole observed (ap Ok c.if-not-branch.false)) in
          let S : List ℕ → Type 0 = λ l. Seals c.add.new.self c.args.version before l in
          subst S (piece_there calls c.args.file done part there begins ∙ ap (λ (k : ℕ). take (done + k) all) long) (c.add.ensures c.args.version before (take done all) (inv.seals observed));
      told = λ observed. c.in_ok-fetch.ensures.looks.told observed ∙ inv.told observed;
      sound = c.in_ok-fetch.ensures.looks.sound ∙ inv.sound;
      say = c.fetch.ensures.looks.say ∙ inv.say;
    }

pub returns-then-not-branch-clause-some : goal.returns-then-not-branch-clause-some
returns-then-not-branch-clause-some g c = grind (arith, common_steps, length-take-le, enough, same_place)

pub returns-clause-found : goal.returns-clause-found
returns-clause-found g c = grind (arith, common_steps)
