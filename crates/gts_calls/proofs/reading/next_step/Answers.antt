use Rattle.gts_calls.proofs.Cited.{◌≡◌, ◌<◌, ◌-◌, ◌++◌, ℕ, false, List, length, take, drop, sym, ap, subst, ◌∙◌, arith, length-drop}
use Rattle.gts_calls.specs.Reading.{is_event as shows_event, Reads}
use Rattle.gts_calls.proofs.ReadingLemmas.{reads_taken, reads_more, slice_from, taken_more}
use Rattle.gts_calls.proofs.reading.next_step.Goals as goal

pub loop-taken-init : goal.loop-taken-init
loop-taken-init c =
    let e = c.take-taken.ensures in
    record {
      most = e.count;
      some = e.progress c.requires.some;
      message = e.message;
      reads = λ before is. reads_taken before c.args.piece.now c.take-taken.result c.args.decoder.now c.take-taken.new.self is e.count (e.progress c.requires.some) e.step e.after e.dropped (e.reads before is);
    }

pub loop-taken-preserved : goal.loop-taken-preserved
loop-taken-preserved c =
    let e = c.take-count.ensures in
    let i = c.loop-taken.invariant in
    let piece : List ℕ = c.args.piece.now in
    let n : ℕ = c.loop-taken.taken in
    let m : ℕ = c.take-count.result.0 in
    let slice : List ℕ = take (length piece - n) (drop n piece) in
    let long : length slice ≡ length piece - n = ap length (slice_from n piece) ∙ length-drop n piece in
    let some : 0 < m = e.progress (omega (arith, long, c.loop-taken-test.true)) in
    let none : shows_event c.loop-taken.step ≡ false = sym c.is_event.ensures ∙ c.if-not-is_event.true in
    record {
      most = omega (arith, long, e.count, i.most);
      some = omega (arith, i.some);
      message = e.message;
      reads = λ before is.
          let a = i.reads before is in
          let b = reads_taken (before ++ take n piece) slice c.take-count.result c.loop-taken.decoder c.take-count.new.self a.held e.count some e.step e.after e.dropped (e.reads (before ++ take n piece) a.held) in
          subst (λ (l : List ℕ). Reads before l c.take-count.result.1 c.take-count.new.self) (taken_more n m piece)
          (reads_more before (take n piece) (take m slice) c.loop-taken.step c.take-count.result.1 c.loop-taken.decoder c.take-count.new.self none a b);
    }
