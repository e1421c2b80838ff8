use Rattle.gts_replay.proofs.Cited.{◌≡◌, ◌++◌, ℕ, List, take, drop, Result, Ok, Err, sym, ap, subst, ◌∙◌, take-append-drop, err_from_is_err_and, BreaksOff, Goes, SwitchFault, all_done, answer_of, events_added, goes_of, common_steps, arith}
use Rattle.std.proofs.lemmas.List.{append_assoc}
use Rattle.gts_replay.proofs.FeedingLemmas.{fed_none, fed_piece, breaks_rest, slice_from}
use Rattle.gts_replay.proofs.feeding.feed_piece.Goals as goal

pub loop-rest-init : goal.loop-rest-init
loop-rest-init g c = grind (arith, common_steps, fed_none)

pub loop-rest-preserved : goal.loop-rest-preserved
loop-rest-preserved g c =
    let meanings = g.W.Switch.meanings in
    let circuit : ℕ = c.args.c in
    let fed = c.loop-rest.invariant.fed in
    let rest : List ℕ = c.loop-rest.rest.now in
    let n : ℕ = c.feed-fed.result.taken in
    let end = c.feed-fed.result.end in
    let next = c.feed-fed.new.decoder in
    let later = c.feed-fed.new.switch in
    let x : List ℕ = take n rest in
    let behind : List ℕ = drop n rest in
    let done : answer_of end ≡ Ok tt = sym c.answer.ensures ∙ c.in_ok-answer.was in
    record {
      fed = (
        fed.0 ++ x,
        fed.1 ∙ ap (λ (e : List ℕ). fed.0 ++ e) (sym (take-append-drop n rest)) ∙ sym (append_assoc fed.0 x behind) ∙ ap (λ (e : List ℕ). (fed.0 ++ x) ++ e) (sym (slice_from n rest)),
        fed_piece meanings circuit c.args.decoder.now c.args.switch.now fed.0 x c.loop-rest.decoder next c.loop-rest.switch later fed.2
            (λ before is. (c.feed-fed.ensures.takes before is).held)
            (λ before o first h held stands. subst (λ (r : Result (Unit {0}) SwitchFault). Goes meanings o first h (all_done (events_added circuit before x)) r later) done
            (goes_of meanings o first h circuit (events_added circuit before x) next.message end later (c.feed-fed.ensures.goes before held o first h stands))),
      );
      directory = c.feed-fed.ensures.directory ∙ c.loop-rest.invariant.directory;
      disk = c.feed-fed.ensures.cause.disk_still (λ e. cc (sym done ∙ e)) ∙ c.loop-rest.invariant.disk;
      say = c.feed-fed.ensures.cause.say_still (λ e. cc (sym done ∙ e)) ∙ c.loop-rest.invariant.say;
    }

pub returns-in_err-answer-clause-goes : goal.returns-in_err-answer-clause-goes
returns-in_err-answer-clause-goes g c = λ before o first h held stands.
    let meanings = g.W.Switch.meanings in
    let circuit : ℕ = c.args.c in
    let fed = c.loop-rest.invariant.fed in
    let rest : List ℕ = c.loop-rest.rest.now in
    let n : ℕ = c.feed-fed.result.taken in
    let end = c.feed-fed.result.end in
    let next = c.feed-fed.new.decoder in
    let later = c.feed-fed.new.switch in
    let x : List ℕ = take n rest in
    let behind : List ℕ = drop n rest in
    let fault = c.in_err-answer.field-0.0 in
    let failed : answer_of end ≡ Err fault = sym c.answer.ensures ∙ c.in_err-answer.was in
    let same : fed.0 ++ (x ++ behind) ≡ c.args.piece.now = ap (λ (e : List ℕ). fed.0 ++ e) (take-append-drop n rest) ∙ sym fed.1 in
    let broken : BreaksOff meanings (λ _. o) first h (all_done (events_added circuit before (fed.0 ++ (x ++ behind)))) fault later =
    breaks_rest meanings circuit c.args.decoder.now c.args.switch.now fed.0 x behind c.loop-rest.decoder c.loop-rest.switch later fault fed.2
    (λ b p k l is s. subst (λ (r : Result (Unit {0}) SwitchFault). Goes meanings p k l (all_done (events_added circuit b x)) r later) failed
    (goes_of meanings p k l circuit (events_added circuit b x) next.message end later (c.feed-fed.ensures.goes b is p k l s))) before o first h held stands in
    let p = err_from_is_err_and c.from_residual.result c.from_residual.ensures.1 in
    rw (p.1, p.2) (subst (λ (e : List ℕ). BreaksOff meanings (λ _. o) first h (all_done (events_added circuit before e)) fault later) same broken)
