use Rattle.gts_circuits.proofs.Cited.{◌≡◌, ◌++◌, Bool, true, List, length, sym, ap, subst, ◌∙◌, arith, Engine, Frame, HasTaken, count_of, frames_by, frames_of}
use Rattle.gts_circuits.proofs.TakingLemmas.{count_frames, count_more, one_behind}
use Rattle.gts_circuits.proofs.hall.taking.take_behind.Goals as goal

pub loop-gave-preserved : goal.loop-gave-preserved
loop-gave-preserved g c =
    let i = c.loop-gave.invariant in
    let frames : List Frame = frames_of c.loop-gave.given.frames in
    let new = c.take_behind.new.self in
    let are : frames_of c.keep-gave.new.given.frames ≡ frames ++ frames_by c.in-Some.outcome c.take_behind.new.out = c.keep-gave.ensures.frames in
    let count = ap (λ (l : List Frame). count_of l c.keep-gave.result) are ∙ ap (λ (b : Bool). count_of (frames ++ frames_by c.in-Some.outcome c.take_behind.new.out) b) c.keep-gave.ensures.gave
    ∙ count_more frames c.in-Some.outcome c.take_behind.new.out in
    let places : length frames ≡ length c.loop-gave.given.frames.each = count_frames c.loop-gave.given.frames.each c.loop-gave.given.frames.bytes in
    record {
      taken = λ h start.
          let has : List Frame → Bool → Type 0 = λ l b. HasTaken g.P.Station g.B.Began.beginning h c.args.c l b new in
          let before = subst (λ (b : Bool). HasTaken g.P.Station g.B.Began.beginning h c.args.c frames b c.loop-gave.housed.engine) c.loop-gave-test.true (i.taken h start) in
          let after = one_behind g.P.Station g.B.Began.beginning h c.args.c frames c.in-Some.outcome c.take_behind.new.out c.loop-gave.housed.engine new
          before c.in-Some.ensures.called c.in-Some.ensures.gathered c.in-Some.ensures.frame c.take_behind.ensures.sound.0 c.take_behind.ensures.sound.1 (c.take_behind.ensures.silent before.silent) in
          subst (λ (l : List Frame). has l c.keep-gave.result) (sym are) (subst (λ (b : Bool). has (frames ++ frames_by c.in-Some.outcome c.take_behind.new.out) b) (sym c.keep-gave.ensures.gave) after);
      few = omega (arith, count, places, c.count.ensures, c.if-count-most.true);
      directory = c.in-Some.ensures.called.directory ∙ i.directory;
      mode = i.mode;
    }

pub returns-in_default-clause-taken : goal.returns-in_default-clause-taken
returns-in_default-clause-taken g c = λ h start.
    let frames : List Frame = frames_of c.loop-gave.given.frames in
    let has : Bool → Engine _ → Type 0 = λ b e. HasTaken g.P.Station g.B.Began.beginning h c.args.c frames b e in
    let before = subst (λ (b : Bool). has b c.loop-gave.housed.engine) c.loop-gave-test.true (c.loop-gave.invariant.taken h start) in
    subst (λ (e : Engine _). has true e) (sym c.in_default.ensures.none) before
