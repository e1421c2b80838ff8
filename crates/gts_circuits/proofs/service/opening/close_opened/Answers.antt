use Rattle.gts_circuits.proofs.Cited.{◌≡◌, ℕ, ◌+◌, ◌∷◌, ◌++◌, [], length, length-append, append_assoc, sym, ap, ◌∙◌, subst, arith, get_elem?, common_steps}
use Rattle.gts_circuits.specs.Serving.{lines_seen}
use Rattle.gts_circuits.proofs.PlacesLemmas.{at_less, in_middle, nothing_left}
use Rattle.gts_circuits.proofs.LinesLemmas.{same_itself, same_still, closed_now, closed_more}
use Rattle.gts_circuits.proofs.service.opening.close_opened.Goals as goal

pub loop-both-init : goal.loop-both-init
loop-both-init g c = grind (arith, common_steps, same_itself)

pub close-requires-clause-is_open : goal.close-requires-clause-is_open
close-requires-clause-is_open g c =
    let i = c.loop-both.invariant in
    let split = subst (λ (l : _). c.loop-both.yielded ++ l ≡ c.args.sockets.items) c.in-Some.ensures.steps.0 i.split in
    let at = in_middle c.loop-both.yielded c.in-Some.both _ c.args.sockets.items split in
    (i.others c.loop-both.c (omega arith)).is_open ∙ c.requires.open c.loop-both.c c.in-Some.both (ap (get_elem? c.args.sockets.items) i.place ∙ at)

pub loop-both-preserved : goal.loop-both-preserved
loop-both-preserved g c =
    let i = c.loop-both.invariant in
    let split = subst (λ (l : _). c.loop-both.yielded ++ l ≡ c.args.sockets.items) c.in-Some.ensures.steps.0 i.split in
    let at = in_middle c.loop-both.yielded c.in-Some.both _ c.args.sockets.items split in
    let k = c.loop-both.c in
    let l = lines_seen g.L.Lines c.args.lines.now in
    let m = lines_seen g.L.Lines c.loop-both.lines in
    let n = lines_seen g.L.Lines c.close.new.self in
    let e = c.close.ensures in
    let new = closed_now g.L.In.Source g.L.Out.Sink l m n k c.in-Some.both.source c.in-Some.both.sink
    (i.others k (omega arith)) e.closed e.placed e.parts e.taken e.counted in
    record {
      can = (tt, tt);
      split = append_assoc c.loop-both.yielded (c.in-Some.both ∷ []) c.next.new.self.rest.items ∙ split;
      place = ap (λ (j : ℕ). j + 1) i.place ∙ sym (length-append c.loop-both.yielded (c.in-Some.both ∷ []));
      closed = closed_more g.L.In.Source g.L.Out.Sink l m n k e.others
          c.args.sockets.items c.in-Some.both (ap (get_elem? c.args.sockets.items) i.place ∙ at) new i.closed;
      others = λ j from. same_still l m n k j e.others (λ is. omega (arith, is, from)) (i.others j (omega (arith, from)));
    }

pub returns : goal.returns
returns g c =
    let i = c.loop-both.invariant in
    let rest = c.loop-both.both-iterator.rest in
    let whole : c.loop-both.yielded ≡ c.args.sockets.items = nothing_left c.loop-both.yielded rest.items c.args.sockets.items i.split (sym rest.ok.0 ∙ c.in-None.ensures.steps.0) in
    let many : c.loop-both.c ≡ length c.args.sockets.items = i.place ∙ ap (λ (l : _). length l) whole in
    record {
      closed = λ k x at. i.closed k x (let less = at_less c.args.sockets.items k x at in omega (arith, less, many)) at;
      others = λ k from. i.others k (omega (arith, from, many));
    }
