use Rattle.gts_circuits.proofs.Cited.{◌≡◌, ◌++◌, ℕ, List, take, sym, ap, ◌∙◌, subst, AddsFor, Decoding, EndsOver, Entry, Event, Feeding, Feeds, GoesOver, Known, after_adding, all_of, entries, entries_under, held_in, seen_by, settled, Reads, common_steps, arith}
use Rattle.gts_circuits.proofs.TurningLemmas.{feeds}
use Rattle.gts_circuits.proofs.FeedingLemmas.{N, fed_more, feeds_spent, short_settled}
use Rattle.gts_circuits.proofs.hall.turns.feed.Goals as goal

pub leave-requires : goal.leave-requires
leave-requires g c =
    let b = g.B.Began.beginning in
    let meanings = N (λ (h : _). h.engine) (λ (h : _). h.makes_room) g.P.Station b in
    let h = c.in-Ok.turn.pass.seen in
    let first = c.value.result.now in
    let mid = c.feed_behind-fed.new.switch in
    let message : List ℕ = c.feed_behind-fed.new.decoder.message in
    let begun : List ℕ = take c.args.begun c.args.piece.now in
    let f : Feeding = record {
      c = c.args.c;
      begun = begun;
      step = c.args.step;
      start = g.start;
      taken = take c.settle_behind-fed.result.taken c.args.piece.now;
      message = message;
      end = c.settle_behind-fed.result.end;
    } in
    let stood : settled meanings b (all_of (entries h)) first = subst (λ (v : _). settled meanings b (all_of (entries h)) v) (sym c.value.ensures.value) c.in-Ok.ensures.value in
    let G : Decoding → ℕ → Type 0 = λ d n. GoesOver meanings c.args.c begun c.args.step d first (take n c.args.piece.now) message c.feed_behind-fed.result.end mid in
    let goes : G g.start c.settle_behind-fed.result.taken =
    subst (G g.start) (sym c.settle_behind-fed.ensures.taken) (subst (λ (d : Decoding). G d c.feed_behind-fed.result.taken) (sym c.requires.1.1.1.1.1.1.1.1.1) c.feed_behind-fed.ensures.goes) in
    let done = fed_more (λ (h : _). h.engine) (λ (h : _). h.makes_room) g.P.Station b f h first mid c.value-2.result.now
    c.settle_behind-fed.new.switch c.feed_behind-fed.result.end stood goes c.value-2.ensures.value c.settle_behind-fed.ensures.settles in
    let K : _ → Type 0 = λ w. (more : List Entry) × AddsFor g.P.Station b f h w.engine more × (w.makes_room ≡ b.makes_room) in
    let all = subst K (sym c.value-3.ensures.value) done in
    record { value = (all.0, all.1, all.1.stands); mode = all.2 }

pub returns-clause-added : goal.returns-clause-added
returns-clause-added g c = λ before reads.
    let b = g.B.Began.beginning in
    let h = c.in-Ok.turn.pass.seen in
    let t = c.in-Ok.ensures.same in
    let p = c.leave.ensures.pass in
    let message : List ℕ = c.feed_behind-fed.new.decoder.message in
    let R : Known (List Entry) → Type 0 = λ k. k.own ≡ entries_under k.name h in
    let same = subst R t c.in-Ok.ensures.accounts.0 in
    let A : Known (List Entry) → Type 0 = λ k. c.leave.result ≡ after_adding k p.0 in
    let is = subst A t p.2 in
    subst (λ (es : List Event). Feeds c.args.c es message c.settle_behind-fed.result.end (seen_by b c.args.pass) (seen_by b c.leave.result)) (sym (p.1.are before reads))
    (feeds g.P.Station b c.args.pass c.leave.result h c.value-3.result.now.engine c.in-Ok.ensures.later c.requires.1.1.1.1.0 same
    c.args.c p.1.events message c.settle_behind-fed.result.end p.0 p.1.added is p.1.stands)

pub returns-clause-takes : goal.returns-clause-takes
returns-clause-takes g c = λ before reads.
    let piece : List ℕ = c.args.piece.now in
    let same = c.settle_behind-fed.ensures.taken in
    let t = c.feed_behind-fed.ensures.takes before (subst (λ (d : Decoding). Reads before (take c.args.begun piece) c.args.step d) c.requires.1.1.1.1.1.1.1.1.1 reads) in
    let settles = c.settle_behind-fed.ensures.settles in
    record {
      held = subst (λ (n : ℕ). c.feed_behind-fed.new.decoder.held ≡ held_in (before ++ take n piece)) (sym same) t.held;
      ends = subst (λ (n : ℕ). EndsOver before (take n piece) c.settle_behind-fed.result.end) (sym same) (settles.ends before (take c.feed_behind-fed.result.taken piece) t.ends);
      all = λ e. same ∙ t.all (settles.all e);
    }

pub returns-clause-short : goal.returns-clause-short
returns-clause-short g c = grind (arith, common_steps, short_settled, N)

pub returns-in-Err-clause-added : goal.returns-in-Err-clause-added
returns-in-Err-clause-added g c = λ before reads.
    let b = g.B.Began.beginning in
    feeds_spent c.args.c before (take c.args.begun c.args.piece.now) c.args.step g.start c.args.decoder.now.message (seen_by b c.args.pass) (seen_by b c.in-Err.pass) c.requires.1.1.1.1.1.1.1.1.0 reads
    (record { is = ap (seen_by b) c.in-Err.ensures.full })
