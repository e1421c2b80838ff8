use Rattle.gts_engine.proofs.Cited.{◌≡◌, ◌+◌, ◌-◌, ◌<◌, ◌≤◌, ℕ, suc, List, [], length, take, drop, Some, sym, ap, subst, ◌∙◌, arith, slice_get, AreSayings, Saying, Sayings, held_pieces, on, sizes_of, slice_index_or, get_or-take, length-take-le, slice_get-get_or}
use Rattle.gts_engine.proofs.HeldLemmas.{piece_at, sizes_next, sizes_within, within_front}
use Rattle.gts_engine.proofs.held.Held.saying.Goals as goal

pub returns-clause-piece : goal.returns-clause-piece
returns-clause-piece c =
    let s : Saying = c.index-saying.result.now in
    let i : ℕ = c.args.i in
    let all : List Saying = c.self.inside.sayings.items in
    let each : List Saying = take c.self.inside.count all in
    let bytes : List ℕ = take c.self.inside.size c.self.inside.bytes.items in
    let are : AreSayings each bytes = c.self.invariant.4 in
    let there : i < length each = subst (λ (h : Sayings). i < length h.each) (sym c.self.view_is) c.requires.there in
    let place : c.args.at ≡ sizes_of (take i each) = subst (λ (h : Sayings). c.args.at ≡ sizes_of (take i h.each)) (sym c.self.view_is) c.requires.place in
    let count : length each ≡ c.self.inside.count = length-take-le c.self.inside.count all (omega (arith, c.self.invariant.0, c.self.invariant.2, c.self.inside.sayings.ok.0)) in
    let size : length bytes ≡ c.self.inside.size = length-take-le c.self.inside.size c.self.inside.bytes.items (omega (arith, c.self.invariant.1, c.self.invariant.3, c.self.inside.bytes.ok.0)) in
    let is : slice_get each i ≡ Some s = slice_get-get_or each i s there ∙ ap (λ (x : Saying). Some x) (get_or-take c.self.inside.count all i s (omega (arith, there, count)) ∙ sym c.index-saying.ensures) in
    let fits : c.args.at + s.size ≤ c.self.inside.size = omega (arith, place, sizes_next each i s is, sizes_within each (suc i), are, size) in
    let front : take s.size (drop c.args.at bytes) ≡ take (c.args.at + s.size - c.args.at) (drop c.args.at c.deref.result.now) =
    within_front c.self.inside.bytes.items c.self.inside.size c.args.at s.size fits
    ∙ ap (λ (l : List ℕ). take s.size (drop c.args.at l)) (sym c.deref.ensures.value) ∙ ap (λ (n : ℕ). take n (drop c.args.at c.deref.result.now)) (omega arith) in
    subst (λ (h : Sayings). slice_index_or (held_pieces h) i [] ≡ on s.channel (take (c.args.at + s.size - c.args.at) (drop c.args.at c.deref.result.now))) c.self.view_is
    (piece_at each bytes i s is ∙ ap (λ (n : ℕ). on s.channel (take s.size (drop n bytes))) (sym place) ∙ ap (λ (l : List ℕ). on s.channel l) front)
