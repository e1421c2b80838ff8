use Rattle.gts_count.proofs.Cited.{◌≡◌, ℕ, ◌+◌, List, sym, ap, ◌∙◌, Directory, Draw, Nothing, State, Taken, all_done, on, spoken, after_all-append}
use Rattle.gts_count.proofs.TakingLemmas.{counts_taken}
use Rattle.gts_count.proofs.CallLemmas.{counted_call, state_with}
use Rattle.gts_count.proofs.steps.take.Goals as goal

pub returns-clause-called : goal.returns-clause-called
returns-clause-called g c =
    let meanings = g.T.Switch.meanings in
    let now = c.args.parts.now.switch in
    let d : Directory = meanings.directory now in
    counted_call meanings (Taken c.args.c) c.take-answer.result c.args.parts.now _ c.take-answer.ensures.called
    (λ o entries events stood told counts.
    counts_taken d (state_with meanings now o entries events) entries c.args.parts.now.counting c.note_taken.new.counting c.args.c c.requires.circuit c.bytes.result.now c.take-answer.result told
    (λ i e. ap (λ (s : State). spoken d s (Taken c.args.c)) (sym (after_all-append d (meanings.begin o) entries (all_done events)))
    ∙ c.take-answer.ensures.frame o entries events (Draw i) stood e (λ (n : Draw i ≡ Nothing). cc n) ∙ ap (λ (bytes : List ℕ). on (c.args.c + 1) bytes) (sym c.bytes.ensures)) c.note_taken.ensures.noted counts)
