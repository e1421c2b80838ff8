use Rattle.gts_checkpoint.proofs.Cited.{◌≡◌, ◌+◌, ◌<◌, Ok, length, sym, ap, ◌∙◌, arith, length-take-le, bytes_from, held, seal_size, common_steps}
use Rattle.gts_checkpoint.proofs.SealLemmas.{sealed_there, sealed_not, same_place, last_is}
use Rattle.gts_checkpoint.proofs.reading.seal_at.Goals as goal

pub returns-then-not-branch-clause-stands : goal.returns-then-not-branch-clause-stands
returns-then-not-branch-clause-stands g c = λ observed.
    let v = c.args.version in
    let calls = g.P.Station.calls c.args.station.now in
    let short = c.in_ok-fetch.ensures.short observed (ap Ok c.if-not-branch.true) in
    let long : length c.fetch.new.into ≡ seal_size v = c.fetch.auto.into ∙ length-take-le c.seal_size-count.result _ c.seal_size-count.ensures.bound ∙ c.seal_size-count.ensures.value in
    let few : length (bytes_from (g.P.Station.calls c.seal_of.new.station) c.args.file (41 + c.from.result)) < seal_size v = omega (arith, short, c.fetch.auto.into, long) in
    sym (sealed_not v (held v c.args.before.now) calls c.args.file c.args.size (c.requires.there observed)
    (same_place (λ l. length l < seal_size v) (g.P.Station.calls c.seal_of.new.station) calls c.args.file c.from.result c.args.size (c.in_ok-seal.ensures.looks.told observed) c.from.ensures few))

pub returns-then-not-starts_with-clause-stands : goal.returns-then-not-starts_with-clause-stands
returns-then-not-starts_with-clause-stands g c = grind (arith, common_steps, length-take-le, same_place, last_is, sealed_there)

pub returns-clause-stands : goal.returns-clause-stands
returns-clause-stands g c = grind (arith, common_steps, length-take-le, same_place, last_is, sealed_there)
