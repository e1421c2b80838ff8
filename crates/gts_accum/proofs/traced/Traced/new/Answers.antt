use Rattle.gts_accum.specs.Ahead.{Ahead, left_ahead}
use Rattle.gts_accum.proofs.Cited.{ℕ, length, ap, sym, ◌∙◌, arith, badplace, reading, rest_of}
use Rattle.gts_accum.proofs.PassingLemmas.{covers-fresh}
use Rattle.gts_accum.proofs.traced.Traced.new.Goals as goal

pub invariant_of-result : goal.invariant_of-result
invariant_of-result g c =
    let left = left_ahead g.S.Source.left in
    let of = c.new.ensures.source in
    let count = ap (λ (a : Ahead _). g.S.Source.faults a.source) of ∙ c.requires.faults in (
      record {
        place = λ observed. c.new.ensures.bad ∙ ap badplace (c.requires.file observed);
        short = λ observed. omega (arith, ap length c.new.ensures.capture, c.a_capture_of_a_file_is_short.ensures (g.S.Source.left c.args.source) c.args.c);
        covers = λ observed.
            covers-fresh left g.B.OfFile.file g.B.OfFile.circuit c.new.result (ap left of ∙ c.requires.file observed)
            (λ more. c.new.ensures.fresh more ∙ ap (λ (n : ℕ). rest_of n (reading more)) c.requires.circuit);
        due = c.new.ensures.due;
      },
      record {
        later = omega (arith, count);
        still = λ e. count;
        rose = λ e.
            let sound = ap (λ (a : Ahead _). a.failed) of in
            absurd (cc);
      },
    )
