use Rattle.gts_engine.proofs.Cited.{◌≡◌, ◌≢◌, true, [], ◌∷◌, ◌++◌, Ok, ap, subst, IfSome, AnswersIn, Caller, Engine, EngineParts, Nothing, SaysFrame as Says, Taken, TakesBehind, engine_of, joined, common_steps, arith}
use Rattle.gts_engine.proofs.AnsweringLemmas.{still_counts}
use Rattle.gts_engine.proofs.BehindLemmas.{takes_behind, silent_behind, each_none, both_some}
use Rattle.gts_engine.proofs.engine.Engine.take_behind.Goals as goal

pub returns-clause-called : goal.returns-clause-called
returns-clause-called g c =
    let old = c.self.inside.parts in
    let new = c.take_behind.new.parts in
    let T : Engine g.row.P.Denot → Type 0 = λ e. IfSome c.take_behind.result (λ o. TakesBehind g.P.Station c.args.c o e (engine_of new)) in
    subst T c.self.view_is
    (both_some c.take_behind.result (λ o. AnswersIn g.P.Station Caller (Taken c.args.c) (Ok o) old new)
    (λ o. ((engine_of old).gathered ≡ true) × ((engine_of new).held ≡ (engine_of old).held ++ [] ∷ [])) (λ o. TakesBehind g.P.Station c.args.c o (engine_of old) (engine_of new))
    (λ o a h. takes_behind g.P.Station c.args.c o old new c.in_default.is h.0 h.1 a)
    c.take_behind.ensures.answered
    (both_some c.take_behind.result (λ o. (engine_of old).gathered ≡ true) (λ o. (engine_of new).held ≡ (engine_of old).held ++ [] ∷ []) _ (λ o a h. (a, h)) c.take_behind.ensures.gathered c.take_behind.ensures.held))

pub returns-clause-frame : goal.returns-clause-frame
returns-clause-frame g c =
    let T : Engine g.row.P.Denot → Type 0 = λ e. IfSome c.take_behind.result (λ o. o ≢ Nothing → Says e.core c.args.c c.take_behind.new.out) in
    subst T c.self.view_is c.take_behind.ensures.frame

pub returns-clause-silent : goal.returns-clause-silent
returns-clause-silent g c =
    let old = c.self.inside.parts in
    let new = c.take_behind.new.parts in
    let T : Engine g.row.P.Denot → Type 0 = λ e. joined e.held ≡ [] → joined (engine_of new).held ≡ [] in
    subst T c.self.view_is (silent_behind c.take_behind.result (engine_of old).held (engine_of new).held (each_none c.take_behind.result (new ≡ old) ((engine_of new).held ≡ (engine_of old).held) (λ e. ap (λ (p : EngineParts g.row.P.Denot). (engine_of p).held) e) c.take_behind.ensures.none) c.take_behind.ensures.held)

pub returns-clause-sound : goal.returns-clause-sound
returns-clause-sound g c = grind (arith, common_steps, still_counts)
