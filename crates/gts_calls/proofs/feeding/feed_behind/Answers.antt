use Rattle.gts_calls.proofs.Cited.{◌≡◌, ◌-◌, ℕ, true, false, List, length, take, drop, sym, ap, subst, ◌∙◌, arith, length-drop, All, Entry, FeedEnd, GoesFed, GoesOver, HasCallCause, IsShortAt, answer_of, events_of_signs, is_all, signs_of_step, common_steps}
use Rattle.gts_calls.proofs.OverLemmas.{Held, held_first, held_more, goes_first, goes_more, caused_later, is_that}
use Rattle.gts_calls.proofs.ReadingLemmas.{slice_from, taken_more}
use Rattle.gts_calls.proofs.feeding.feed_behind.Goals as goal

pub loop-taken-init : goal.loop-taken-init
loop-taken-init g c = grind (arith, common_steps, held_first, goes_first)

pub loop-taken-preserved : goal.loop-taken-preserved
loop-taken-preserved g c =
    let meanings = g.W.Listens.meanings in
    let i = c.loop-taken.invariant in
    let e = c.next_step-count.ensures in
    let d = c.deal-end-in-loop-taken.ensures in
    let piece : List ℕ = c.args.piece.now in
    let n : ℕ = c.loop-taken.taken in
    let m : ℕ = c.next_step-count.result.0 in
    let slice : List ℕ = take (length piece - n) (drop n piece) in
    let long : length slice ≡ length piece - n = ap length (slice_from n piece) ∙ length-drop n piece in
    let begun : List ℕ = take c.args.begun piece in
    let taken : List ℕ = take n piece in
    let y : List ℕ = take m slice in
    let start = c.args.decoder.now in
    let decoder = c.loop-taken.decoder in
    let next = c.next_step-count.new.decoder in
    let step = c.next_step-count.result.1 in
    let end : FeedEnd = c.deal-end-in-loop-taken.result in
    let now = c.loop-taken.switch in
    let later = c.deal-end-in-loop-taken.new.switch in
    let disks = g.W.Listens.disk_faults in
    let says = g.W.Listens.say_faults in
    let all : c.loop-taken.end ≡ All = is_that c.loop-taken.end (sym c.is_all.ensures ∙ c.if-is_all.true) in
    let held : Held begun c.args.step start taken All decoder = subst (λ (x : FeedEnd). Held begun c.args.step start taken x decoder) all i.held in
    let so_far : GoesOver meanings c.args.c begun c.args.step start c.args.switch.now taken decoder.message All now =
    subst (λ (x : FeedEnd). GoesOver meanings c.args.c begun c.args.step start c.args.switch.now taken decoder.message x now) all i.goes in
    let F : List ℕ → (o : g.W.Listens.Origin) (first : ℕ) (h : List Entry) → Type 0 = λ message o first h.
    GoesFed meanings o first h c.args.c (events_of_signs c.args.c (signs_of_step step message)) message end later in
    record {
      least = omega (arith, i.least);
      most = omega (arith, long, e.most, i.most);
      held = subst (λ (l : List ℕ). Held begun c.args.step start l end next) (taken_more n m piece)
          (held_more begun taken y c.args.step step start decoder next end held e.reads d.ends);
      goes = subst (λ (l : List ℕ). GoesOver meanings c.args.c begun c.args.step start c.args.switch.now l next.message end later) (taken_more n m piece)
          (goes_more meanings c.args.c begun c.args.step start c.args.switch.now taken y decoder.message step decoder next end now later so_far held e.reads
          (λ o first h s. subst (λ (t : List ℕ). F t o first h) c.message-in-loop-taken.ensures (d.goes o first h s)));
      short = subst (λ (t : List ℕ). IsShortAt end t) c.message-in-loop-taken.ensures d.short;
      directory = d.directory ∙ i.directory;
      cause = caused_later (answer_of end) (disks c.args.switch.now) (disks now) (disks later) (says c.args.switch.now) (says now) (says later)
          (subst (λ (x : FeedEnd). HasCallCause (answer_of x) (disks c.args.switch.now) (disks now) (says c.args.switch.now) (says now)) all i.cause) d.cause;
    }

pub returns-else-is_all-clause-takes : goal.returns-else-is_all-clause-takes
returns-else-is_all-clause-takes g c = λ before reads.
    let h = c.loop-taken.invariant.held before reads in
    record {
      held = h.0;
      ends = h.1;
      all = λ e. absurd (let no : true ≡ false = sym (ap is_all e) ∙ sym c.is_all.ensures ∙ c.if-is_all.false in cc no);
    }

pub returns-after-loop-taken-clause-takes : goal.returns-after-loop-taken-clause-takes
returns-after-loop-taken-clause-takes g c = λ before reads.
    let h = c.loop-taken.invariant.held before reads in
    record {
      held = h.0;
      ends = h.1;
      all = λ e. omega (arith, c.loop-taken-test.false, c.loop-taken.invariant.most);
    }
