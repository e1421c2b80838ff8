use Rattle.gts_engine.proofs.Cited.{◌≡◌, ℕ, List, Err, subst, AnswersFull, Engine, HadRoomFor, HasStationCause, Heard, IsAnswered, SayMode, Station, Stopped, engine_of, meanings_of, outcome, stopped_after, common_steps, arith}
use Rattle.gts_engine.proofs.SettlingLemmas.{stopped_settles}
use Rattle.gts_engine.proofs.HearingLemmas.{told_other, not_new_full, never_full, not_told, new_is}
use Rattle.gts_engine.proofs.AnsweringLemmas.{in_words, stopped_answer}
use Rattle.gts_engine.proofs.engine.Engine.gather_hear.Goals as goal

pub returns-in-Some-clause-called : goal.returns-in-Some-clause-called
returns-in-Some-clause-called g c =
    let old = c.self.inside.parts in
    let T : Engine g.row.P.Denot → Type 0 = λ e. (mode : SayMode) → IsAnswered (meanings_of g.P.Station mode) (Heard c.args.c c.args.kind c.args.message.now) (Err (Stopped c.in-Some.by)) e (engine_of old) in
    subst T c.self.view_is (λ mode. stopped_answer g.P.Station mode (Heard c.args.c c.args.kind c.args.message.now) c.in-Some.by (engine_of old) c.in-Some.is)

pub answer-requires-clause-none : goal.answer-requires-clause-none
answer-requires-clause-none g c = λ s h.
    told_other (outcome c.self.inside.parts.directory s (Heard c.args.c c.args.kind c.args.message.now)) _ (c.weigh-judged.ensures.verdict s c.args.kind h) (not_told s.count c.weigh-judged.result c.in_default-judged.not-New)

pub returns-clause-called : goal.returns-clause-called
returns-clause-called g c =
    let old = c.self.inside.parts in
    let T : Engine g.row.P.Denot → Type 0 = λ e. (mode : SayMode) → IsAnswered (meanings_of g.P.Station mode) (Heard c.args.c c.args.kind c.args.message.now) c.answer.result e (engine_of c.answer.new.parts) in
    let told = λ (mode : SayMode). in_words g.P.Station mode (Heard c.args.c c.args.kind c.args.message.now) c.answer.result _ c.answer.new.parts c.in_default.is (c.answer.ensures.answered mode) in
    subst T c.self.view_is told

pub returns-clause-full : goal.returns-clause-full
returns-clause-full g c =
    let old = c.self.inside.parts in
    let event = Heard c.args.c c.args.kind c.args.message.now in
    let F : Engine g.row.P.Denot → Type 0 = λ e. AnswersFull e event c.answer.result in
    subst F c.self.view_is
    (λ s fault holds going none e. absurd (never_full old.directory s (engine_of old).used c.args.c c.args.kind c.args.message.now _ fault (c.weigh-judged.ensures.verdict s c.args.kind holds) (not_told s.count c.weigh-judged.result c.in_default-judged.not-New) e))

pub accept_new-requires-clause-new : goal.accept_new-requires-clause-new
accept_new-requires-clause-new g c =
    let old = c.self.inside.parts in
    (new_is old.directory old.core c.args.c c.args.message.now c.weigh-judged.result c.in-New.bulletin c.in-New.is c.weigh-judged.ensures).1

pub returns-in-New-clause-called : goal.returns-in-New-clause-called
returns-in-New-clause-called g c =
    let old = c.self.inside.parts in
    let is = new_is old.directory old.core c.args.c c.args.message.now c.weigh-judged.result c.in-New.bulletin c.in-New.is c.weigh-judged.ensures in
    let M : List ℕ → Type 0 = λ m. (mode : SayMode) → IsAnswered (meanings_of g.P.Station mode) (Heard c.args.c c.args.kind m) c.accept_new.result (engine_of old) (engine_of c.accept_new.new.parts) in
    let T : Engine g.row.P.Denot → Type 0 = λ e. (mode : SayMode) → IsAnswered (meanings_of g.P.Station mode) (Heard c.args.c c.args.kind c.args.message.now) c.accept_new.result e (engine_of c.accept_new.new.parts) in
    let told = λ (mode : SayMode). in_words g.P.Station mode (Heard c.args.c c.args.kind c.in-New.bulletin.message) c.accept_new.result _ c.accept_new.new.parts c.in_default.is (c.accept_new.ensures.answered mode) in
    subst T c.self.view_is (subst M is.0 told)

pub returns-in-New-clause-full : goal.returns-in-New-clause-full
returns-in-New-clause-full g c =
    let old = c.self.inside.parts in
    let is = new_is old.directory old.core c.args.c c.args.message.now c.weigh-judged.result c.in-New.bulletin c.in-New.is c.weigh-judged.ensures in
    let F : Engine g.row.P.Denot → Type 0 = λ e. AnswersFull e (Heard c.args.c c.args.kind c.args.message.now) c.accept_new.result in
    subst F c.self.view_is (subst (λ (m : List ℕ). AnswersFull (engine_of old) (Heard c.args.c c.args.kind m) c.accept_new.result) is.0 c.accept_new.ensures.full)

pub returns-in-Some-clause-idle : goal.returns-in-Some-clause-idle
returns-in-Some-clause-idle g c = grind (arith, common_steps, stopped_settles)

pub returns-in-New-clause-idle : goal.returns-in-New-clause-idle
returns-in-New-clause-idle g c = grind (arith, common_steps)

pub returns-clause-idle : goal.returns-clause-idle
returns-clause-idle g c = λ idle. absurd (c.answer.ensures.active idle)

pub returns-in-New-clause-had_room : goal.returns-in-New-clause-had_room
returns-in-New-clause-had_room g c = grind (arith, common_steps, new_is)

pub returns-clause-had_room : goal.returns-clause-had_room
returns-clause-had_room g c =
    let old = c.self.inside.parts in
    let event = Heard c.args.c c.args.kind c.args.message.now in
    let F : Engine g.row.P.Denot → Type 0 = λ e. HadRoomFor e event c.answer.result in
    subst F c.self.view_is
    (λ ok s holds. not_new_full old.directory s (engine_of old).used c.args.c c.args.kind c.args.message.now (outcome old.directory s event)
    (told_other (outcome old.directory s event) _ (c.weigh-judged.ensures.verdict s c.args.kind holds) (not_told s.count c.weigh-judged.result c.in_default-judged.not-New)))

pub invariant_of-self-in-New : goal.invariant_of-self-in-New
invariant_of-self-in-New g c = (c.accept_new.ensures.answered Station).sound

pub returns-in-New-clause-cause : goal.returns-in-New-clause-cause
returns-in-New-clause-cause g c =
    let new = c.accept_new.new.parts in
    let T : Engine g.row.P.Denot → Type 0 = λ e. HasStationCause g.P.Station c.accept_new.result e.station new.station in
    subst T c.self.view_is (c.accept_new.ensures.answered Station).cause

pub returns-in-New-clause-stops : goal.returns-in-New-clause-stops
returns-in-New-clause-stops g c =
    let T : Engine g.row.P.Denot → Type 0 = λ e. c.accept_new.new.parts.stopped ≡ stopped_after e.stopped c.accept_new.result in
    subst T c.self.view_is (c.accept_new.ensures.answered Station).stops

pub invariant_of-self-2 : goal.invariant_of-self-2
invariant_of-self-2 g c = (c.answer.ensures.answered Station).sound

pub returns-clause-cause : goal.returns-clause-cause
returns-clause-cause g c =
    let new = c.answer.new.parts in
    let T : Engine g.row.P.Denot → Type 0 = λ e. HasStationCause g.P.Station c.answer.result e.station new.station in
    subst T c.self.view_is (c.answer.ensures.answered Station).cause

pub returns-clause-stops : goal.returns-clause-stops
returns-clause-stops g c =
    let T : Engine g.row.P.Denot → Type 0 = λ e. c.answer.new.parts.stopped ≡ stopped_after e.stopped c.answer.result in
    subst T c.self.view_is (c.answer.ensures.answered Station).stops
