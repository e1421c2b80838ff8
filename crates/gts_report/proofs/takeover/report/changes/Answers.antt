use Rattle.gts_report.proofs.Cited.{◌≡◌, ℕ, List, ◌++◌, Ok, subst, ap, ◌∙◌, Directory, changes, files_open_any, need, need_of, seen}
use Rattle.gts_report.proofs.takeover.report.changes.Goals as goal

pub returns-clause-report : goal.returns-clause-report
returns-clause-report g c = λ tell.
    let old = c.args.old.now in
    let new = c.args.new.now in
    let t = c.in_ok-trial.ensures.tried in
    let text : List ℕ = c.args.text.now in
    let files : files_open_any old (seen (g.P.Station.calls c.args.station.now)) ≡ Ok (t.state, (t.opened tell).0) =
    subst (λ (d : Directory). files_open_any d (seen (g.P.Station.calls c.args.station.now)) ≡ Ok (t.state, (t.opened tell).0)) c.directory.ensures (t.opened tell).1 in
    let same : changes new old (need_of c.in_ok-trial.trial.need) ≡ changes new old (need old t.state) =
    ap (changes new old) (t.needed ∙ ap (λ (d : Directory). need d t.state) c.directory.ensures) in (
      t.state,
      (t.opened tell).0,
      files,
      c.in_ok-add.ensures.ok ∙ ap (λ (l : List ℕ). text ++ l) (c.bytes.ensures ∙ c.in_ok-report.ensures ∙ same),
    )
