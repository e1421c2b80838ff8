use Rattle.gts_engine.proofs.Cited.{◌≡◌, ℕ, List, sym, subst, arith, true, EngineParts, HasSettled, engine_of, no_records, no_sayings, eqb-false, common_steps}
use Rattle.gts_engine.proofs.SettlingLemmas.{none_told, some_told, block_of, nothing_settled, all_settled, few_none}
use Rattle.gts_engine.proofs.AnsweringLemmas.{unfailed}
use Rattle.gts_engine.proofs.steps.settle.Goals as goal

pub returns-then-is_empty-clause-settles : goal.returns-then-is_empty-clause-settles
returns-then-is_empty-clause-settles g c = grind (arith, common_steps, none_told, nothing_settled, unfailed)

pub bring_and_say-result-requires-clause-some : goal.bring_and_say-result-requires-clause-some
bring_and_say-result-requires-clause-some g c = grind (arith, common_steps, eqb-false, block_of)

pub bring_and_say-result-requires-clause-version : goal.bring_and_say-result-requires-clause-version
bring_and_say-result-requires-clause-version g c = (c.requires.sound.goes c.requires.going).next.version

pub bring_and_say-result-requires-clause-end : goal.bring_and_say-result-requires-clause-end
bring_and_say-result-requires-clause-end g c = (c.requires.sound.goes c.requires.going).ended

pub bring_and_say-result-requires-clause-room : goal.bring_and_say-result-requires-clause-room
bring_and_say-result-requires-clause-room g c = omega (arith, (c.requires.sound.goes c.requires.going).room, c.args.parts.now.within.limit)

pub bring_and_say-result-requires-clause-stands : goal.bring_and_say-result-requires-clause-stands
bring_and_say-result-requires-clause-stands g c = λ observed. ((c.requires.sound.goes c.requires.going).stands observed).stands

pub returns-clause-settles : goal.returns-clause-settles
returns-clause-settles g c =
    let old = c.args.parts.now in
    let mid = c.bring_and_say-result.new.parts in
    let result = c.bring_and_say-result.result in
    let b = c.bring_and_say-result.ensures in
    let some : (engine_of old).gathered ≡ true = some_told _ c.is_empty.result c.is_empty.ensures.value c.is_empty.ensures.closed c.if-is_empty.false in
    let H : EngineParts g.row.P.Denot → Type 0 = λ p. HasSettled g.P.Station result old p in
    let D : List ℕ → EngineParts g.row.P.Denot = λ drawn. record mid { batch = no_records mid.journal; held = no_sayings; drawn = drawn } in
    let S : List ℕ → Type 0 = λ drawn. H (D drawn) in
    subst H (sym c.clear.ensures.rest) (subst S (sym c.clear.ensures.drawn) (all_settled g.P.Station old mid c.requires.going c.requires.sound some result b.brings b.said b.place b.rest b.stops b.kind b.cause (few_none old.directory)))
