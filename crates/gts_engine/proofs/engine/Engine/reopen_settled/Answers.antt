use Rattle.gts_engine.proofs.Cited.{◌≡◌, ◌+◌, Bool, false, List, Ok, Err, refl, sym, ap, subst, ◌∙◌, arith, err_from_is_err_and, Call, Engine, EngineParts, HasFewDraws, IsOpened, IsReopening, IsSound, engine_of, held_pieces, no_records, switch_meanings, syncs_silent, common_steps}
use Rattle.gts_engine.proofs.GoingLemmas.{gathering_of, opened_on}
use Rattle.gts_engine.proofs.StepLemmas.{closed_alone, idle_going}
use Rattle.gts_engine.proofs.SettlingLemmas.{few_none}
use Rattle.gts_engine.proofs.ReopenLemmas.{syncing, same_place, same_core, reopen_fault, tried_on}
use Rattle.gts_engine.proofs.SwitchLemmas.{stopped_reopening, done_reopening, failed_reopening}
use Rattle.gts_engine.proofs.engine.Engine.reopen_settled.Goals as goal

abbrev gathered_of : {P : Type 0} → Engine P → Bool
gathered_of e = e.gathered

pub returns-in-Some-clause-reopening : goal.returns-in-Some-clause-reopening
returns-in-Some-clause-reopening g c = grind (arith, common_steps, stopped_reopening)

pub returns-clause-reopening : goal.returns-clause-reopening
returns-clause-reopening g c =
    let p = c.self.inside.parts in
    let none : (engine_of p).gathered ≡ false = ap gathered_of c.self.view_is ∙ c.requires in
    let g0 = idle_going g.P.Station p c.self.invariant c.in_default.is none in
    let old = g.P.Station.calls p.station in
    let O : List Call → Type 0 = λ l. IsOpened g.P.Station.observed p.directory l c.in_ok-core.core c.in_ok-core.journal in
    let E : EngineParts g.row.P.Denot → Type 0 = λ q. IsReopening (switch_meanings g.P.Station) g.P.Station.observed (Ok tt) (engine_of p) (engine_of q) in
    let T : Engine g.row.P.Denot → Type 0 = λ e. IsReopening (switch_meanings g.P.Station) g.P.Station.observed (Ok tt) e (engine_of c.clear.new.parts) in
    let place : g.P.Station.observed → c.in_ok-core.journal.gate + 1 ≡ p.journal.gate + 1 = λ tell. same_place g.P.Station.observed p.directory old p.core p.journal g0 tell c.in_ok-core.core c.in_ok-core.journal (subst O (c.in_ok-core.ensures.synced tell) c.in_ok-core.ensures.opened) in
    subst T c.self.view_is
    (subst E (sym c.clear.ensures.rest)
    (done_reopening g.P.Station (engine_of p) _ c.in_default.is refl refl
    (λ tell s h. syncing g.P.Station.observed p.directory old p.core p.journal g0 tell (g.P.Station.calls c.open_core.new.station) (c.open_core.ensures.told tell) s h)
    refl refl
    (λ tell. syncs_silent old (g.P.Station.calls c.open_core.new.station) (c.open_core.ensures.told tell))
    (λ tell. omega (arith, place tell, closed_alone g.P.Station p c.self.invariant c.in_default.is none))
    (λ tell s h. same_core g.P.Station.observed p.directory old p.core p.journal g0 tell c.in_ok-core.core c.in_ok-core.journal (subst O (c.in_ok-core.ensures.synced tell) c.in_ok-core.ensures.opened)
    c.restart.new.self c.restart.ensures s h)))

pub invariant_of-self-2 : goal.invariant_of-self-2
invariant_of-self-2 g c =
    let p = c.self.inside.parts in
    let S : EngineParts g.row.P.Denot → Type 0 = λ q. IsSound g.P.Station q in
    subst S (sym c.clear.ensures.rest) (record {
      goes = λ same. gathering_of g.P.Station.observed p.directory (g.P.Station.calls c.open_core.new.station) c.restart.new.self c.in_ok-core.journal (no_records c.in_ok-core.journal)
          (opened_on g.P.Station.observed p.directory (g.P.Station.calls c.open_core.new.station) c.in_ok-core.core c.restart.new.self c.in_ok-core.journal c.in_ok-core.ensures.opened c.restart.ensures) refl;
      few = subst (HasFewDraws p.directory) (sym c.clear.ensures.drawn) (few_none p.directory);
      rests = λ none. refl;
      undrawn = λ none. c.clear.ensures.drawn;
      idle = λ by is. refl;
    })

pub returns-in_err-core-clause-reopening : goal.returns-in_err-core-clause-reopening
returns-in_err-core-clause-reopening g c =
    let p = c.self.inside.parts in
    let none : (engine_of p).gathered ≡ false = ap gathered_of c.self.view_is ∙ c.requires in
    let g0 = idle_going g.P.Station p c.self.invariant c.in_default.is none in
    let old = g.P.Station.calls p.station in
    let fault = c.in_err-core.field-0.0 in
    let q = err_from_is_err_and c.from_residual.result c.from_residual.ensures.1 in
    let new : Engine g.row.P.Denot = engine_of (record p { station = c.open_core.new.station }) in
    let T : Engine g.row.P.Denot → Type 0 = λ e. IsReopening (switch_meanings g.P.Station) g.P.Station.observed (Err fault) e new in
    rw (q.1, q.2) (subst T c.self.view_is
    (failed_reopening g.P.Station (engine_of p) new c.in_default.is refl refl
    (λ tell s h. syncing g.P.Station.observed p.directory old p.core p.journal g0 tell (g.P.Station.calls c.open_core.new.station) (c.open_core.ensures.told tell) s h)
    none (ap held_pieces (c.self.invariant.rests none))
    (λ tell. syncs_silent old (g.P.Station.calls c.open_core.new.station) (c.open_core.ensures.told tell))
    fault refl refl
    (λ tell. reopen_fault g.P.Station.observed p.directory old p.core p.journal g0 tell fault (c.in_err-core.ensures.fault tell))))

pub invariant_of-self-in_err-core : goal.invariant_of-self-in_err-core
invariant_of-self-in_err-core g c =
    let p = c.self.inside.parts in
    record {
      goes = λ same. tried_on g.P.Station.observed p.directory (g.P.Station.calls p.station) (g.P.Station.calls c.open_core.new.station) p.core p.journal p.batch c.open_core.ensures.told (c.self.invariant.goes c.in_default.is);
      few = c.self.invariant.few;
      rests = c.self.invariant.rests;
      undrawn = c.self.invariant.undrawn;
      idle = c.self.invariant.idle;
    }

pub restart-requires : goal.restart-requires
restart-requires g c = let o = c.in_ok-core.ensures.opened in record { directory = (o.state, o.kept.holds) }
