use Rattle.gts_engine.proofs.Cited.{◌≢◌, IfOk, Err, subst, Engine, IsAnswered, Nothing, SaysFrame as Says, Stopped, Taken, engine_of, meanings_of}
use Rattle.gts_engine.proofs.AnsweringLemmas.{in_words, stopped_answer}
use Rattle.gts_engine.proofs.engine.Engine.gather_take.Goals as goal

pub returns-in-Some-clause-called : goal.returns-in-Some-clause-called
returns-in-Some-clause-called g c =
    let old = c.self.inside.parts in
    let T : Engine g.row.P.Denot → Type 0 = λ e. IsAnswered (meanings_of g.P.Station c.args.mode) (Taken c.args.c) (Err (Stopped c.in-Some.by)) e (engine_of old) in
    subst T c.self.view_is (stopped_answer g.P.Station c.args.mode (Taken c.args.c) c.in-Some.by (engine_of old) c.in-Some.is)

pub returns-clause-called : goal.returns-clause-called
returns-clause-called g c =
    let old = c.self.inside.parts in
    let T : Engine g.row.P.Denot → Type 0 = λ e. IsAnswered (meanings_of g.P.Station c.args.mode) (Taken c.args.c) c.take.result e (engine_of c.take.new.parts) in
    subst T c.self.view_is (in_words g.P.Station c.args.mode (Taken c.args.c) c.take.result old c.take.new.parts c.in_default.is (c.take.ensures.answered))

pub returns-clause-frame : goal.returns-clause-frame
returns-clause-frame g c =
    let T : Engine g.row.P.Denot → Type 0 = λ e. IfOk c.take.result (λ outcome. outcome ≢ Nothing → Says e.core c.args.c c.take.new.out) in
    subst T c.self.view_is c.take.ensures.frame
