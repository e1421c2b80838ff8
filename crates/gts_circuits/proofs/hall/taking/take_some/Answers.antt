use Rattle.gts_circuits.proofs.Cited.{◌≡◌, ◌≤◌, ◌++◌, [], Bool, List, ℕ, Err, Some, map, refl, sym, ap, subst, ◌∙◌, arith, slice_get, slice_index_or, err_from_is_err_and, circuit_of_row, Caller, Circuit, Directory, Entry, Frame, HasTaken, LeavesTaken, Outcome, SwitchFault, count_of, frames_by, frames_of}
use Rattle.gts_circuits.proofs.TakingLemmas.{first_fails, first_taken, most_at, settles_taken, settling_fails}
use Rattle.gts_circuits.proofs.hall.taking.take_some.Goals as goal

pub returns-in_err-first-clause-left : goal.returns-in_err-first-clause-left
returns-in_err-first-clause-left g c = λ h stands.
    let fault : SwitchFault = c.in_err-first.field-0.0 in
    let p = err_from_is_err_and c.from_residual.result c.from_residual.ensures.1 in
    let done = first_fails g.P.Station g.B.Began.beginning h c.args.c c.gather_take.result c.args.housed.now.engine c.gather_take.new.self c.gather_take.new.out stands c.gather_take.ensures.called c.gather_take.ensures.cause
    fault c.in_err-first.was (c.gather_take.ensures.caller refl stands.keeps.gathered) c.from_residual.result (rw (p.1, p.2) refl) in
    subst (λ (l : List Frame). (more : List Entry) × LeavesTaken g.P.Station g.B.Began.beginning h c.args.c l c.from_residual.result c.gather_take.new.self more) (sym (ap frames_of c.clear.ensures)) done

pub returns-in-Err-clause-left : goal.returns-in-Err-clause-left
returns-in-Err-clause-left g c = λ h stands.
    let b = g.B.Began.beginning in
    let first : Outcome = c.in_ok-first.first in
    let out : List ℕ = c.gather_take.new.out in
    let one = first_taken g.P.Station g.B.Began.beginning h c.args.c c.gather_take.result c.args.housed.now.engine c.gather_take.new.self out stands c.gather_take.ensures.called c.gather_take.ensures.cause
    first c.in_ok-first.was c.in_ok-first.ensures.frame c.gather_take.ensures.stopped (c.gather_take.ensures.silent refl stands.keeps.gathered) in
    let are : frames_of c.keep-gave.new.given.frames ≡ [] ++ frames_by first out = c.keep-gave.ensures.frames ∙ ap (λ (l : List Frame). l ++ frames_by first out) (ap frames_of c.clear.ensures) in
    let kept = subst (λ (l : List Frame). HasTaken g.P.Station g.B.Began.beginning h c.args.c l c.keep-gave.result c.gather_take.new.self) (sym are)
    (subst (λ (x : Bool). HasTaken g.P.Station g.B.Began.beginning h c.args.c ([] ++ frames_by first out) x c.gather_take.new.self) (sym c.keep-gave.ensures.gave) one) in
    let all = c.take_behind-more.ensures.taken h kept in
    let row : Circuit = circuit_of_row c.circuit.result.now in
    let at : slice_get b.origin.directory.circuits c.args.c ≡ Some row = subst (λ (d : Directory). slice_get d.circuits c.args.c ≡ Some row) (c.directory.ensures ∙ stands.keeps.directory) c.circuit.ensures.row in
    let most = most_at b.origin.directory.circuits c.args.c row at in
    let few : count_of (frames_of c.take_behind-more.new.given.frames) c.take_behind-more.result ≤ slice_index_or (map (λ (r : Circuit). r.repeat) b.origin.directory.circuits) c.args.c 0 = omega (arith, c.take_behind-more.ensures.few, most) in
    let done = settling_fails g.P.Station g.B.Began.beginning h c.args.c (frames_of c.take_behind-more.new.given.frames) c.take_behind-more.result c.take_behind-more.new.housed.engine c.settle.new.self c.in-Err.fault all
    (c.in-Err.ensures.settles.settling Caller) c.in-Err.ensures.cause (c.in-Err.ensures.silent all.silent) few in
    subst (λ (l : List Frame). (more : List Entry) × LeavesTaken g.P.Station g.B.Began.beginning h c.args.c l (Err c.in-Err.fault) c.settle.new.self more) (sym (ap frames_of c.clear-in-Err.ensures)) done

pub returns-clause-left : goal.returns-clause-left
returns-clause-left g c = λ h stands.
    let b = g.B.Began.beginning in
    let first : Outcome = c.in_ok-first.first in
    let out : List ℕ = c.gather_take.new.out in
    let one = first_taken g.P.Station g.B.Began.beginning h c.args.c c.gather_take.result c.args.housed.now.engine c.gather_take.new.self out stands c.gather_take.ensures.called c.gather_take.ensures.cause
    first c.in_ok-first.was c.in_ok-first.ensures.frame c.gather_take.ensures.stopped (c.gather_take.ensures.silent refl stands.keeps.gathered) in
    let are : frames_of c.keep-gave.new.given.frames ≡ [] ++ frames_by first out = c.keep-gave.ensures.frames ∙ ap (λ (l : List Frame). l ++ frames_by first out) (ap frames_of c.clear.ensures) in
    let kept = subst (λ (l : List Frame). HasTaken g.P.Station g.B.Began.beginning h c.args.c l c.keep-gave.result c.gather_take.new.self) (sym are)
    (subst (λ (x : Bool). HasTaken g.P.Station g.B.Began.beginning h c.args.c ([] ++ frames_by first out) x c.gather_take.new.self) (sym c.keep-gave.ensures.gave) one) in
    let all = c.take_behind-more.ensures.taken h kept in
    let row : Circuit = circuit_of_row c.circuit.result.now in
    let at : slice_get b.origin.directory.circuits c.args.c ≡ Some row = subst (λ (d : Directory). slice_get d.circuits c.args.c ≡ Some row) (c.directory.ensures ∙ stands.keeps.directory) c.circuit.ensures.row in
    let most = most_at b.origin.directory.circuits c.args.c row at in
    let few : count_of (frames_of c.take_behind-more.new.given.frames) c.take_behind-more.result ≤ slice_index_or (map (λ (r : Circuit). r.repeat) b.origin.directory.circuits) c.args.c 0 = omega (arith, c.take_behind-more.ensures.few, most) in
    settles_taken g.P.Station g.B.Began.beginning h c.args.c (frames_of c.take_behind-more.new.given.frames) c.take_behind-more.result c.take_behind-more.new.housed.engine c.settle.new.self all
    (c.in_default.ensures.settles.settling Caller) c.in_default.ensures.cause few
