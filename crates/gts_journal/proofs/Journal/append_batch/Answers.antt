use Rattle.gts_journal.proofs.Cited.{◌≡◌, ◌+◌, ◌-◌, ℕ, [], ◌∷◌, ◌++◌, List, length, take, drop, sym, ap, ◌∙◌, subst, arith, Did, EachSince, Gathered, HasBlock, InHand, OnlyTears, StandsOn, Syncs, Writes, closed_gate, open_gate, seen, the_view, length-take, common_steps}
use Rattle.gts_journal.proofs.BatchLemmas.{block_bytes, has_block, others_after, others_at_fault, placed, reaches, staged_moments, opened_moments, stands_after}
use Rattle.gts_journal.proofs.AppendLemmas.{kept_elsewhere}
use Rattle.gts_journal.proofs.Journal.append_batch.Goals as goal

pub returns-in_err-write_synced-clause-moments : goal.returns-in_err-write_synced-clause-moments
returns-in_err-write_synced-clause-moments g c = grind (arith, common_steps, block_bytes, staged_moments)

pub returns-in_err-write_synced-2-clause-moments : goal.returns-in_err-write_synced-2-clause-moments
returns-in_err-write_synced-2-clause-moments g c = λ observed.
    let old = g.P.Station.calls c.args.station.now in
    let mid = g.P.Station.calls c.write_synced.new.station in
    let new = g.P.Station.calls c.write_synced-2.new.station in
    let text : List ℕ = c.args.batch.now.text in
    let bytes : List ℕ = take (c.extent-end.result - 1) (drop 1 c.deref.result.now) in
    let more : List ℕ = take (c.extent-end.result - c.batch.inside.size) (drop c.batch.inside.size c.deref.result.now) in
    let is : bytes ≡ c.requires.some.0 ++ closed_gate ∷ more =
    block_bytes text c.deref.result.now c.batch.inside.size c.extent-end.result c.requires.some c.batch.invariant.0 c.extent-end.ensures.whole
    (ap (λ (l : List ℕ). take c.batch.inside.size l) c.deref.ensures.value ∙ ap (λ (b : Gathered). b.text) c.batch.view_is) in
    let P : InHand → Type 0 = λ j. EachSince old mid (OnlyTears old j.file (j.gate + 1) (length bytes)) in
    let Q : InHand → Type 0 = λ j. EachSince mid new (OnlyTears mid j.file j.gate 1) in
    let R : InHand → Type 0 = λ j. mid ≡ Did Syncs ∷ Did (Writes j.file (j.gate + 1) bytes) ∷ old in
    opened_moments old c.args.self.now (c.requires.stands observed) c.requires.end text c.requires.some more bytes mid is
    (subst R c.self.view_is (c.in_ok-write_synced.ensures.done observed)) new (subst P c.self.view_is (c.write_synced.ensures.moments observed))
    (c.write_synced.ensures.silent observed) (subst Q c.self.view_is (c.write_synced-2.ensures.moments observed))

pub returns-clause-moments : goal.returns-clause-moments
returns-clause-moments g c = λ observed.
    let old = g.P.Station.calls c.args.station.now in
    let mid = g.P.Station.calls c.write_synced.new.station in
    let new = g.P.Station.calls c.write_synced-2.new.station in
    let text : List ℕ = c.args.batch.now.text in
    let bytes : List ℕ = take (c.extent-end.result - 1) (drop 1 c.deref.result.now) in
    let more : List ℕ = take (c.extent-end.result - c.batch.inside.size) (drop c.batch.inside.size c.deref.result.now) in
    let is : bytes ≡ c.requires.some.0 ++ closed_gate ∷ more =
    block_bytes text c.deref.result.now c.batch.inside.size c.extent-end.result c.requires.some c.batch.invariant.0 c.extent-end.ensures.whole
    (ap (λ (l : List ℕ). take c.batch.inside.size l) c.deref.ensures.value ∙ ap (λ (b : Gathered). b.text) c.batch.view_is) in
    let P : InHand → Type 0 = λ j. EachSince old mid (OnlyTears old j.file (j.gate + 1) (length bytes)) in
    let Q : InHand → Type 0 = λ j. EachSince mid new (OnlyTears mid j.file j.gate 1) in
    let R : InHand → Type 0 = λ j. mid ≡ Did Syncs ∷ Did (Writes j.file (j.gate + 1) bytes) ∷ old in
    opened_moments old c.args.self.now (c.requires.stands observed) c.requires.end text c.requires.some more bytes mid is
    (subst R c.self.view_is (c.in_ok-write_synced.ensures.done observed)) new (subst P c.self.view_is (c.write_synced.ensures.moments observed))
    (c.write_synced.ensures.silent observed) (subst Q c.self.view_is (c.write_synced-2.ensures.moments observed))

pub returns-clause-place : goal.returns-clause-place
returns-clause-place g c = grind (arith, common_steps, placed)

pub returns-clause-stands : goal.returns-clause-stands
returns-clause-stands g c = λ observed.
    let old = g.P.Station.calls c.args.station.now in
    let mid = g.P.Station.calls c.write_synced.new.station in
    let new = g.P.Station.calls c.write_synced-2.new.station in
    let text : List ℕ = c.args.batch.now.text in
    let bytes : List ℕ = take (c.extent-end.result - 1) (drop 1 c.deref.result.now) in
    let more : List ℕ = take (c.extent-end.result - c.batch.inside.size) (drop c.batch.inside.size c.deref.result.now) in
    let is : bytes ≡ c.requires.some.0 ++ closed_gate ∷ more =
    block_bytes text c.deref.result.now c.batch.inside.size c.extent-end.result c.requires.some c.batch.invariant.0 c.extent-end.ensures.whole
    (ap (λ (l : List ℕ). take c.batch.inside.size l) c.deref.ensures.value ∙ ap (λ (b : Gathered). b.text) c.batch.view_is) in
    let R : InHand → Type 0 = λ j. mid ≡ Did Syncs ∷ Did (Writes j.file (j.gate + 1) bytes) ∷ old in
    let S : InHand → Type 0 = λ j. new ≡ Did Syncs ∷ Did (Writes j.file j.gate (open_gate ∷ [])) ∷ mid in
    let at = placed (the_view c.self.inside) c.args.self.now c.batch.inside.version c.batch.inside.size c.batch.inside.buffer.items c.batch.inside.seal c.args.batch.now c.self.view_is c.batch.view_is c.requires.version
    (omega (arith, c.batch.invariant)) in
    subst (StandsOn new) (sym at)
    (stands_after old c.args.self.now (c.requires.stands observed) c.requires.end text c.requires.some more bytes mid is
    (subst R c.self.view_is (c.in_ok-write_synced.ensures.done observed)) new (subst S c.self.view_is (c.in_ok-write_synced-2.ensures.done observed)) c.args.batch.now.seal)

pub returns-clause-added : goal.returns-clause-added
returns-clause-added g c = λ observed.
    let old = g.P.Station.calls c.args.station.now in
    let mid = g.P.Station.calls c.write_synced.new.station in
    let new = g.P.Station.calls c.write_synced-2.new.station in
    let text : List ℕ = c.args.batch.now.text in
    let bytes : List ℕ = take (c.extent-end.result - 1) (drop 1 c.deref.result.now) in
    let more : List ℕ = take (c.extent-end.result - c.batch.inside.size) (drop c.batch.inside.size c.deref.result.now) in
    let is : bytes ≡ c.requires.some.0 ++ closed_gate ∷ more =
    block_bytes text c.deref.result.now c.batch.inside.size c.extent-end.result c.requires.some c.batch.invariant.0 c.extent-end.ensures.whole
    (ap (λ (l : List ℕ). take c.batch.inside.size l) c.deref.ensures.value ∙ ap (λ (b : Gathered). b.text) c.batch.view_is) in
    let R : InHand → Type 0 = λ j. mid ≡ Did Syncs ∷ Did (Writes j.file (j.gate + 1) bytes) ∷ old in
    let S : InHand → Type 0 = λ j. new ≡ Did Syncs ∷ Did (Writes j.file j.gate (open_gate ∷ [])) ∷ mid in
    let P : InHand → Type 0 = λ j. HasBlock old c.args.self.now text (seen new j.file) in
    subst P (sym c.self.view_is)
    (has_block old c.args.self.now (c.requires.stands observed) c.requires.end text c.requires.some more bytes mid is
    (subst R c.self.view_is (c.in_ok-write_synced.ensures.done observed)) new (subst S c.self.view_is (c.in_ok-write_synced-2.ensures.done observed)))

pub returns-clause-reach : goal.returns-clause-reach
returns-clause-reach g c = grind (arith, common_steps, block_bytes, length-take, reaches)

pub returns-in_err-write_synced-clause-others : goal.returns-in_err-write_synced-clause-others
returns-in_err-write_synced-clause-others g c = grind (arith, common_steps, kept_elsewhere)

pub returns-in_err-write_synced-2-clause-others : goal.returns-in_err-write_synced-2-clause-others
returns-in_err-write_synced-2-clause-others g c = λ observed k other synced.
    let old = g.P.Station.calls c.args.station.now in
    let mid = g.P.Station.calls c.write_synced.new.station in
    let new = g.P.Station.calls c.write_synced-2.new.station in
    let text : List ℕ = c.args.batch.now.text in
    let bytes : List ℕ = take (c.extent-end.result - 1) (drop 1 c.deref.result.now) in
    let more : List ℕ = take (c.extent-end.result - c.batch.inside.size) (drop c.batch.inside.size c.deref.result.now) in
    let is : bytes ≡ c.requires.some.0 ++ closed_gate ∷ more =
    block_bytes text c.deref.result.now c.batch.inside.size c.extent-end.result c.requires.some c.batch.invariant.0 c.extent-end.ensures.whole
    (ap (λ (l : List ℕ). take c.batch.inside.size l) c.deref.ensures.value ∙ ap (λ (b : Gathered). b.text) c.batch.view_is) in
    let R : InHand → Type 0 = λ j. mid ≡ Did Syncs ∷ Did (Writes j.file (j.gate + 1) bytes) ∷ old in
    let Q : InHand → Type 0 = λ j. EachSince mid new (OnlyTears mid j.file j.gate 1) in
    others_at_fault old c.args.self.now (c.requires.stands observed) c.requires.end text c.requires.some more bytes mid is
    (subst R c.self.view_is (c.in_ok-write_synced.ensures.done observed)) new (subst Q c.self.view_is (c.write_synced-2.ensures.moments observed))
    (g.met.P.Station.possible c.write_synced-2.new.station observed) k other

pub returns-clause-others : goal.returns-clause-others
returns-clause-others g c = grind (arith, common_steps, block_bytes, others_after)
