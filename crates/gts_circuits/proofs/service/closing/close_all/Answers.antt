use Rattle.gts_circuits.proofs.Cited.{◌≡◌, ◌+◌, ◌∷◌, [], List, length, length-append, inl, inr, ⊎_elim, refl, ap, ◌∙◌, arith, append-nil, get_elem?, ends_of, lines_seen}
use Rattle.gts_circuits.proofs.PlacesLemmas.{at_less, in_middle}
use Rattle.gts_circuits.proofs.LinesLemmas.{same_itself, same_still, closed_now, closed_back}
use Rattle.gts_circuits.proofs.PartingLemmas.{last_place, fault_more}
use Rattle.gts_circuits.proofs.service.closing.close_all.Goals as goal

pub loop-to-init : goal.loop-to-init
loop-to-init g c = record {
  pairs = c.requires.pairs;
  behind = ([], [], append-nil c.args.incoming.items, append-nil c.args.outgoing.items, refl);
  closed = λ k x y from at there. absurd (let less = at_less c.args.outgoing.items k y there in omega (arith, less, from));
  others = λ k where'. same_itself (lines_seen g.L.Lines c.args.lines.now) k;
}

pub loop-to-preserved : goal.loop-to-preserved
loop-to-preserved g c =
    let i = c.loop-to.invariant in
    let k = c.len-c.result in
    let rest = c.pop.new.self.items in
    let fore = c.pop-in-Some.new.self.items in
    let to = c.in-Some.to in
    let from = c.in-Some-pop.from in
    let outs : length c.loop-to.outgoing.items ≡ length rest + 1 = ap (λ (l : List _). length l) c.in-Some.ensures.items ∙ length-append rest (c.in-Some.to ∷ []) in
    let ins : length c.loop-to.incoming.items ≡ length fore + 1 = ap (λ (l : List _). length l) c.in-Some-pop.ensures.items ∙ length-append fore (c.in-Some-pop.from ∷ []) in
    let k_in : k ≡ length fore = omega (arith, c.len-c.ensures, c.pop.new.self.ok.0, outs, ins, i.pairs) in
    let k_out : k ≡ length rest = omega (arith, c.len-c.ensures, c.pop.new.self.ok.0) in
    let whole_in = last_place c.loop-to.incoming.items fore from i.behind.0 c.args.incoming.items c.in-Some-pop.ensures.items i.behind.2 in
    let whole_out = last_place c.loop-to.outgoing.items rest to i.behind.1 c.args.outgoing.items c.in-Some.ensures.items i.behind.3 in
    let at_in = ap (get_elem? c.args.incoming.items) k_in ∙ in_middle fore from i.behind.0 c.args.incoming.items whole_in in
    let at_out = ap (get_elem? c.args.outgoing.items) k_out ∙ in_middle rest to i.behind.1 c.args.outgoing.items whole_out in
    let l = lines_seen g.L.Lines c.args.lines.now in
    let m = lines_seen g.L.Lines c.loop-to.lines in
    let n = lines_seen g.L.Lines c.close.new.self in
    let e = c.close.ensures in
    let new = closed_now g.L.In.Source g.L.Out.Sink l m n k from.source to.sink
    (i.others k (inl (omega (arith, k_out, outs)))) e.closed e.placed e.parts e.taken e.counted in
    record {
      pairs = omega (arith, outs, ins, i.pairs);
      behind = (
        from ∷ i.behind.0,
        to ∷ i.behind.1,
        whole_in,
        whole_out,
        fault_more k (length rest) (length c.loop-to.outgoing.items) from.end to.end c.end_with-end.result c.loop-to.end (ends_of i.behind.0 i.behind.1)
            c.end_with-end.ensures i.behind.4 k_out outs,
      );
      closed = λ j x y after. closed_back g.L.In.Source g.L.Out.Sink l m n k e.others
          c.args.incoming.items c.args.outgoing.items from to at_in at_out new
          (λ p a b above. i.closed p a b (omega (arith, above, outs, k_out))) j x y (omega (arith, after, k_out));
      others = λ j side. same_still l m n k j e.others
          (λ is. ⊎_elim (λ less. omega (arith, is, less, k_out)) (λ more. omega (arith, is, more, at_less c.args.outgoing.items k to at_out)) side)
          (i.others j (⊎_elim (λ less. inl (omega (arith, less, outs))) (λ more. inr more) side));
    }

pub returns-clause-closed : goal.returns-clause-closed
returns-clause-closed g c = λ k x y at there.
    c.loop-to.invariant.closed k x y (let none = c.in_default.ensures.cases.0 in omega (arith, none, c.loop-to.outgoing.ok.0)) at there
