use Rattle.gts_standby.proofs.Cited.{◌≡◌, ◌+◌, ◌-◌, ℕ, Bool, cond, sym, ap, subst, ◌∙◌, arith, Ok, List, [], ◌∷◌, Call, Did, IsAtFirst, SaysOnly, Syncs, first_fault, files_read, seen, ship_fault, written, said_none}
use Rattle.gts_standby.proofs.ExitLemmas.{returned}
use Rattle.gts_standby.proofs.FirstLemmas.{at_start, read_to, not_started, quiet_start, no_header_fault}
use Rattle.gts_standby.proofs.shipping.open_first.Goals as goal

pub returns-in_err-journal-clause-fault : goal.returns-in_err-journal-clause-fault
returns-in_err-journal-clause-fault g c = λ observed.
    let d = c.args.directory.now in
    let old = g.P.Station.calls c.args.station.now in
    let mid = g.P.Station.calls c.open_core.new.station in
    let o = c.in_ok-open_core.ensures.opened in
    let e = c.in_err-journal.field-0.0 in
    let quiet = quiet_start e (first_fault c.mark.result (seen mid)) (c.in_err-journal.ensures.fault observed) (λ f is. no_header_fault d mid c.in_ok-open_core.field-0.1 o.state c.mark.result f (o.stands observed) o.current c.mark.ensures is) in
    rw (returned c.from_residual-in_err-journal.result (ship_fault e) c.from_residual-in_err-journal.ensures.1)
    (λ bytes. not_started d old mid (g.P.Station.calls c.start.new.station) (ship_fault e) bytes (subst (λ (calls : List Call). SaysOnly calls mid []) (c.in_ok-open_core.ensures.synced observed) (said_none mid)) (c.in_err-journal.ensures.told observed) quiet)

pub returns-clause-opened : goal.returns-clause-opened
returns-clause-opened g c = λ observed.
    let d = c.args.directory.now in
    let mid = g.P.Station.calls c.open_core.new.station in
    let now = g.P.Station.calls c.start.new.station in
    let o = c.in_ok-open_core.ensures.opened in
    let opened = c.in_ok-open_core.field-0.1 in
    let j = c.in_ok-journal.journal in
    let first = c.in_ok-open_core.ensures.synced observed in
    let second = c.in_ok-journal.ensures.synced observed in
    let end : c.used-end.result - 1 ≡ opened.gate =
    (let u : c.used-end.result ≡ opened.gate + 1 = c.used-end.ensures ∙ ap (λ (b : Bool). cond b (opened.gate + 1) opened.gate) o.ended in omega (arith, u)) in
    record {
      state = o.state;
      last = opened.seal;
      reads = ap (λ (calls : List Call). files_read written d (seen calls)) (sym first) ∙ read_to d mid opened o.state (o.stands observed) o.current ∙ ap (λ (k : ℕ). Ok (o.state, k + 1, opened.seal)) (sym end);
      synced = second ∙ ap (λ (calls : List Call). Did Syncs ∷ calls) first;
      version = c.in_ok-journal.ensures.version;
      stands = c.in_ok-journal.ensures.stands observed;
      first = subst (λ (k : ℕ). IsAtFirst d now j k) (sym end)
          (at_start d mid now opened j o.state c.mark.result second (o.stands observed) o.current c.mark.ensures c.in_ok-journal.ensures.begins.0 c.in_ok-journal.ensures.version
          c.in_ok-journal.ensures.seal (c.in_ok-journal.ensures.stands observed) (c.in_ok-journal.ensures.fault observed) (c.in_ok-journal.ensures.checkpoint observed));
    }
