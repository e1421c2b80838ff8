use Rattle.gts_circuits.proofs.Cited.{◌≡◌, ℕ, List, length, sym, ap, ◌∙◌, subst, arith, some, get_elem?, AreDrained, Incoming, Outgoing, ends_of, first_fault}
use Rattle.gts_circuits.proofs.service.serving.finish.Goals as goal

pub close_all-end-requires-clause-open : goal.close_all-end-requires-clause-open
close_all-end-requires-clause-open g c κs within = λ k less.
    c.requires.open k (let many = c.drain_all.ensures.count ∙ ap (λ (l : List (Outgoing _)). length l) c.part.ensures.outgoing in omega (arith, less, many))

pub returns-clause-finished : goal.returns-clause-finished
returns-clause-finished g c =
    let many = c.drain_all.ensures.count ∙ ap (λ (l : List (Outgoing _)). length l) c.part.ensures.outgoing in
    let D : ℕ → Type 0 = λ n. AreDrained g.P.Station g.B.Began.beginning
    g.L.Out.Sink c.args.ran.pass.seen c.drain_all.new.lines.items n c.drain_all.new.housed.engine in
    record {
      sinks = c.drain_all.new.lines.items;
      count = many;
      drained = subst D (sym c.drain_all.ensures.count) c.drain_all.ensures.drained;
      closed = λ k x y at there.
          let G : List (Incoming _) → Type 0 = λ l. get_elem? l k ≡ some x in
          c.close_all-end.ensures.closed k x y (subst G (sym c.part.ensures.incoming) at) there;
      others = c.close_all-end.ensures.others;
      end_is = c.close_all-end.ensures.end ∙ ap (λ (l : List (Incoming _)). first_fault 0 (ends_of l c.drain_all.new.lines.items)) c.part.ensures.incoming;
    }
