use Rattle.gts_circuits.proofs.Cited.{rules, ◌≡◌, ℕ, ◌+◌, ◌∷◌, ◌++◌, [], List, length, length-append, append_assoc, sym, ap, ◌∙◌, subst, Some, AreGathered, Entry, Known, Line, StartsWith, TableId, after_join, common_steps, arith}
use Rattle.gts_circuits.proofs.PlacesLemmas.{in_middle, nothing_left}
use Rattle.gts_circuits.proofs.GatheredLemmas.{one_gathered}
use Rattle.gts_circuits.proofs.workers.gathering.gather.Goals as goal

pub join-first-requires-clause-hall : goal.join-first-requires-clause-hall
join-first-requires-clause-hall g c =
    let i = c.loop-worker.invariant in
    let split = subst (λ (l : _). c.loop-worker.yielded ++ l ≡ c.args.workers.items) c.in-Some.ensures.steps.0 i.split in
    let at = in_middle c.loop-worker.yielded c.in-Some.worker _ c.args.workers.items split in
    let h : c.in-Some.worker.hall ≡ c.args.hall.now = c.requires.halls (length c.loop-worker.yielded) c.in-Some.worker at in
    (i.pass.0, c.finish-pass.ensures.keeps.hall_is ∙ ap (λ (t : TableId). Some t) h)

pub loop-worker-preserved : goal.loop-worker-preserved
loop-worker-preserved g c =
    let i = c.loop-worker.invariant in
    let b = g.B.Began.beginning in
    let split = subst (λ (l : _). c.loop-worker.yielded ++ l ≡ c.args.workers.items) c.in-Some.ensures.steps.0 i.split in
    let at = in_middle c.loop-worker.yielded c.in-Some.worker _ c.args.workers.items split in
    let first = c.loop-worker.first in
    let pass = c.finish-pass.result.0 in
    let line = c.finish-pass.result.1 in
    let lines = c.loop-worker.lines.items in
    let one : StartsWith (after_join first pass).seen first.seen = let P : Known (List Entry) → Type 0 = λ k. StartsWith k.seen first.seen in subst P c.join-first.ensures.pass c.join-first.ensures.first_seen in
    let other : StartsWith (after_join first pass).seen pass.seen = let P : Known (List Entry) → Type 0 = λ k. StartsWith k.seen pass.seen in subst P c.join-first.ensures.pass c.join-first.ensures.other_seen in
    let more = one_gathered b g.S.Source g.K.Sink first pass lines line c.args.workers.items (length c.loop-worker.yielded) c.in-Some.worker at
    (sym i.joined) (i.lines ∙ sym i.joined) one other c.finish-pass.ensures.keeps c.finish-pass.ensures.ended i.gathered in
    let A : Known (List Entry) → Type 0 = λ k. AreGathered b g.S.Source g.K.Sink k (lines ++ line ∷ []) (length c.loop-worker.yielded + 1) c.args.workers.items in
    let B : List (Line _ _) → Type 0 = λ l. AreGathered b g.S.Source g.K.Sink c.join-first.result l (length c.loop-worker.yielded + 1) c.args.workers.items in
    let C : ℕ → Type 0 = λ n. AreGathered b g.S.Source g.K.Sink c.join-first.result c.push_reserved.new.self.items n c.args.workers.items in
    record {
      can = (tt, tt);
      split = append_assoc c.loop-worker.yielded (c.in-Some.worker ∷ []) c.next.new.self.rest.items ∙ split;
      pass = search rules;
      joined = ap (λ (k : Known (List Entry)). length k.joined) c.join-first.ensures.pass ∙ length-append first.joined ((pass.name, pass.own) ∷ []) ∙ ap (λ (n : ℕ). n + 1) i.joined ∙ sym (length-append c.loop-worker.yielded (c.in-Some.worker ∷ []));
      lines = ap (λ (l : List (Line _ _)). length l) c.push_reserved.ensures.items ∙ length-append lines (line ∷ []) ∙ ap (λ (n : ℕ). n + 1) i.lines ∙ sym (length-append c.loop-worker.yielded (c.in-Some.worker ∷ []));
      room = search rules;
      gathered = subst C (sym (length-append c.loop-worker.yielded (c.in-Some.worker ∷ []))) (subst B (sym c.push_reserved.ensures.items) (subst A (sym c.join-first.ensures.pass) more));
    }

pub returns-clause-gathered : goal.returns-clause-gathered
returns-clause-gathered g c =
    let i = c.loop-worker.invariant in
    let rest = c.loop-worker.worker-iterator.rest in
    let whole : c.loop-worker.yielded ≡ c.args.workers.items = nothing_left c.loop-worker.yielded rest.items c.args.workers.items i.split (sym rest.ok.0 ∙ c.in-None.ensures.steps.0) in
    let C : ℕ → Type 0 = λ n. AreGathered g.B.Began.beginning g.S.Source g.K.Sink c.loop-worker.first c.loop-worker.lines.items n c.args.workers.items in
    subst C (ap (λ (l : _). length l) whole) i.gathered

pub returns-clause-joined : goal.returns-clause-joined
returns-clause-joined g c = grind (arith, common_steps, nothing_left)
