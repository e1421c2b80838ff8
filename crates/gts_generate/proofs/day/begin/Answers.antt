use Rattle.gts_generate.proofs.Cited.{◌≡◌, Result, Ok, Err, refl, sym, subst, IfOk, IsErrAnd, MatchResult, IfOk-at_ok, BeginsDay, calls_on, seen}
use Rattle.gts_generate.proofs.RunningLemmas.{begun-day}
use Rattle.gts_generate.proofs.day.begin.Goals as goal

-- where an error is told otherwise, what is said of an answer without one stays
told_otherwise : {T E D : Type 0} (Q : E → D → Type 0) (P : T → Type 0) (first : Result T E) (told : Result T D)
    → MatchResult first (λ x. told ≡ Ok x) (λ e. IsErrAnd told (Q e)) → ((x : T) → first ≡ Ok x → P x) → IfOk told P
told_otherwise {T} {E} {D} Q P (Ok x) told cases each = subst (λ (r : Result T D). IfOk r P) (sym cases) (each x refl)
told_otherwise Q P (Err e) (Ok x) cases each = absurd cases
told_otherwise Q P (Err e) (Err f) cases each = tt

pub returns : goal.returns
returns c =
    let d = c.in_ok-directory.directory in
    let old = c.in_ok-station.station in
    told_otherwise _ (λ engine. BeginsDay engine) c.open.result c.map_err.result c.map_err.ensures.cases (λ e is.
    let opened = IfOk-at_ok _ is c.open.ensures.opened in
    begun-day d c.mark.result old e c.in_ok-directory.ensures c.mark.ensures
    c.in_ok-station.ensures.journal c.in_ok-station.ensures.selector c.in_ok-station.ensures.silent
    opened.directory (opened.reads tt) (opened.synced tt) opened.begins
    (λ n there. (
      c.an_opened_engine_begins_with_what_the_files_open_to.ensures.sound d (seen (calls_on old)) e n (opened.reads tt) there,
      c.an_opened_engine_begins_with_what_the_files_open_to.ensures.holds d (seen (calls_on old)) e n (opened.reads tt) there,
    ))
    c.states_are_ordered.ensures.start c.each_bulletin_is_routed_once.ensures.start c.no_circuit_is_owed_more_than_may_be.ensures.start)
