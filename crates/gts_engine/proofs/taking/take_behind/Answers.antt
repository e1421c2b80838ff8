use Rattle.gts_engine.proofs.Cited.{◌≡◌, inl, Bool, true, List, [], ◌∷◌, ◌++◌, if◌then◌else◌, Result, Ok, refl, ap, subst, ◌∙◌, arith, Caller, Outside, SwitchFault, Taken, engine_of, event_record, gathered_after, held_pieces, common_steps}
use Rattle.gts_engine.proofs.SettlingLemmas.{some_told}
use Rattle.gts_engine.proofs.TakingLemmas.{caller_silent, room_less}
use Rattle.gts_engine.proofs.AnsweringLemmas.{answers_untold}
use Rattle.gts_engine.proofs.BehindLemmas.{still_gathered}
use Rattle.gts_engine.proofs.taking.take_behind.Goals as goal

pub enter_take-outcome-requires-clause-ready : goal.enter_take-outcome-requires-clause-ready
enter_take-outcome-requires-clause-ready g c = c.has_room_for_take.ensures c.if-not-has_room_for_take.false

pub tell_nothing-requires : goal.tell_nothing-requires
tell_nothing-requires g c = grind (arith, common_steps, room_less)

pub returns-clause-gathered : goal.returns-clause-gathered
returns-clause-gathered g c = some_told _ c.is_empty.result c.is_empty.ensures.value c.is_empty.ensures.closed c.if-is_empty.false

pub returns-clause-answered : goal.returns-clause-answered
returns-clause-answered g c =
    let old = c.args.parts.now in
    let result : Result (Unit {0}) SwitchFault = Ok tt in
    answers_untold g.P.Station Caller (Taken c.args.c) old old result (inl (refl, refl)) refl c.requires.going
    c.enter_take-outcome.new.parts c.enter_take-outcome.result c.enter_take-outcome.ensures.entered
    c.tell_nothing.new.parts c.tell_nothing.ensures.rest c.tell_nothing.ensures.same c.tell_nothing.ensures.held c.tell_nothing.ensures.few (λ s h. caller_silent old.directory s c.args.c)

pub returns-clause-held : goal.returns-clause-held
returns-clause-held g c =
    let old = c.args.parts.now in
    let mid = c.enter_take-outcome.new.parts in
    let new = c.tell_nothing.new.parts in
    let e = c.enter_take-outcome.ensures.entered in
    let s0 = c.requires.sound.goes c.requires.going in
    let some : (engine_of old).gathered ≡ true = some_told _ c.is_empty.result c.is_empty.ensures.value c.is_empty.ensures.closed c.if-is_empty.false in
    let still : (engine_of mid).gathered ≡ true =
    e.entered.gathered s0.state s0.holds ∙ ap (λ (b : Bool). gathered_after b (event_record old.directory s0.state (Taken c.args.c))) some
    ∙ still_gathered (event_record old.directory s0.state (Taken c.args.c)) in
    let H : Bool → Type 0 = λ x. (engine_of new).held ≡ (if x then (engine_of mid).held ++ [] ∷ [] else (engine_of mid).held) in
    subst H still c.tell_nothing.ensures.held ∙ ap (λ (l : List Outside). l ++ [] ∷ []) (ap held_pieces e.sayings)
