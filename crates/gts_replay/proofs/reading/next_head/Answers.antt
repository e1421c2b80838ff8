use Rattle.gts_replay.proofs.Cited.{◌≡◌, ◌++◌, Err, ap, subst, ◌∙◌, Bad, CaptureFault, Held, IsBadAt, readable_from}
use Rattle.gts_replay.proofs.reading.next_head.Goals as goal

pub returns-in-Err-read_head-clause-bad : goal.returns-in-Err-read_head-clause-bad
returns-in-Err-read_head-clause-bad g c = λ t at e.
    let same : c.in-Err-read_head.fault ≡ Bad at = cc in
    let unchanged : c.held_head.new.self ≡ c.args.steps.now = c.in_default.ensures.unchanged in
    subst (λ (held : Held). IsBadAt held (readable_from held.at (held.ahead ++ g.S.Source.left c.args.capture.now)) at) unchanged
    (c.read_head.ensures.bad t at (c.in-Err-read_head.is ∙ ap (λ (f : CaptureFault). Err f) same))
