use Rattle.gts_engine.proofs.Cited.{◌≡◌, Err, subst, Engine, HasStationCause, IsAnswered, Lost, SayMode, Station, Stopped, engine_of, meanings_of, stopped_after}
use Rattle.gts_engine.proofs.AnsweringLemmas.{in_words, stopped_answer}
use Rattle.gts_engine.proofs.engine.Engine.gather_lost.Goals as goal

pub returns-in-Some-clause-called : goal.returns-in-Some-clause-called
returns-in-Some-clause-called g c =
    let old = c.self.inside.parts in
    let T : Engine g.row.P.Denot → Type 0 = λ e. (mode : SayMode) → IsAnswered (meanings_of g.P.Station mode) (Lost c.args.c c.args.field) (Err (Stopped c.in-Some.by)) e e in
    subst T c.self.view_is (λ mode. stopped_answer g.P.Station mode (Lost c.args.c c.args.field) c.in-Some.by (engine_of old) c.in-Some.is)

pub returns-clause-called : goal.returns-clause-called
returns-clause-called g c =
    let old = c.self.inside.parts in
    let T : Engine g.row.P.Denot → Type 0 = λ e. (mode : SayMode) → IsAnswered (meanings_of g.P.Station mode) (Lost c.args.c c.args.field) c.lose.result e (engine_of c.lose.new.parts) in
    subst T c.self.view_is (λ mode. in_words g.P.Station mode (Lost c.args.c c.args.field) c.lose.result old c.lose.new.parts c.in_default.is (c.lose.ensures.answered mode))

pub invariant_of-self : goal.invariant_of-self
invariant_of-self g c = (c.lose.ensures.answered Station).sound

pub returns-clause-cause : goal.returns-clause-cause
returns-clause-cause g c =
    let new = c.lose.new.parts in
    let T : Engine g.row.P.Denot → Type 0 = λ e. HasStationCause g.P.Station c.lose.result e.station new.station in
    subst T c.self.view_is (c.lose.ensures.answered Station).cause

pub returns-clause-stops : goal.returns-clause-stops
returns-clause-stops g c =
    let T : Engine g.row.P.Denot → Type 0 = λ e. c.lose.new.parts.stopped ≡ stopped_after e.stopped c.lose.result in
    subst T c.self.view_is (c.lose.ensures.answered Station).stops
