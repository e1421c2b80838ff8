use Rattle.gts_journal.proofs.Cited.{◌≡◌, ◌+◌, ◌-◌, ◌≤◌, ℕ, List, [], ◌∷◌, ◌++◌, length, take, sym, ap, ◌∙◌, subst, arith, set, with_items_is, length-take-le, Gathered, Gathers, chain_text, closed_gate, held, open_gate, record_of, record_text, sealed, texts_of, length-sealed}
use Rattle.gts_journal.specs.contracts.batch.Batch.{the_view}
use Rattle.gts_journal.proofs.BatchLemmas.{gathers_more, put_long, put_more}
use Rattle.gts_journal.proofs.batch.Batch.add.Goals as goal
use Rattle.gts_journal.proofs.AheadLemmas.{few_bytes}

pub returns-clause-gathers : goal.returns-clause-gathers
returns-clause-gathers c = λ before rs g.
    let v = c.self.inside.version in
    let size : ℕ = c.self.inside.size in
    let count : ℕ = c.encode_sealed-count.result.0 in
    let d : List ℕ = c.deref_mut.result.now in
    let last : List ℕ = held v c.self.inside.seal in
    let bytes : List ℕ = record_text (record_of c.args.rec.now) in
    let text : List ℕ = sealed v last bytes in
    let chained : List ℕ = chain_text v before (texts_of rs) in
    let h : Gathers before rs (the_view c.self.inside) = subst (Gathers before rs) (sym c.self.view_is) g in
    let is : take size d ≡ chained ++ closed_gate ∷ [] = ap (λ (l : List ℕ). take size l) c.deref_mut.ensures.value ∙ h.text in
    let texts : length text ≡ count = omega (arith, length-sealed v last bytes, c.encode_sealed-count.ensures.size) in
    let held_long : length c.args.self.now.text ≡ size = sym (ap (λ (b : Gathered). length b.text) c.self.view_is) ∙ length-take-le size c.self.inside.buffer.items (omega (arith, c.self.invariant, c.self.inside.buffer.ok.0)) in
    let fits : size + count + 1 ≤ length d = omega (arith, held_long, texts, length-sealed v last bytes, few_bytes v, c.requires.room, c.deref_mut.ensures.len, c.self.invariant) in
    gathers_more v before last (held v c.encode_sealed-count.result.1) _ rs (record_of c.args.rec.now) h.seal c.encode_sealed-count.ensures.seal
    (ap (λ (l : List ℕ). take (size + count + 1) (set (set l (size - 1) open_gate) (size + count) closed_gate))
    (with_items_is c.self.inside.buffer _ (put_long d c.encode_sealed-count.new.into chained text size count is fits texts c.encode_sealed-count.ensures.written ∙ (ap length c.deref_mut.ensures.value ∙ sym c.self.inside.buffer.ok.0)))
    ∙ put_more d c.encode_sealed-count.new.into chained text size count is fits texts c.encode_sealed-count.ensures.written)
