use Rattle.gts_calls.proofs.Cited.{◌≡◌, ◌+◌, ◌-◌, ◌<◌, ◌≤◌, ℕ, suc, List, length, take, drop, Some, sym, ap, subst, ◌∙◌, arith, slice_get, Frame, Laid, Placed, frames_of, no_frame, sizes_of, slice_index_or, get_or-take, length-take-le, slice_get-get_or}
use Rattle.gts_calls.proofs.GivenLemmas.{frame_at, sizes_next, sizes_within, within_front}
use Rattle.gts_calls.proofs.given.Frames.frame.Goals as goal

pub returns-clause-frame : goal.returns-clause-frame
returns-clause-frame c =
    let s : Placed = c.index-placed.result.now in
    let i : ℕ = c.args.i in
    let F : List ℕ → Frame = λ l. record { index = s.index; text = l } in
    let all : List Placed = c.self.inside.placed.items in
    let each : List Placed = take c.self.inside.count all in
    let bytes : List ℕ = take c.self.inside.size c.self.inside.bytes.items in
    let are : sizes_of each ≡ length bytes = c.self.invariant.4 in
    let there : i < length each = subst (λ (h : Laid). i < length h.each) (sym c.self.view_is) c.requires.there in
    let place : c.args.at ≡ sizes_of (take i each) = subst (λ (h : Laid). c.args.at ≡ sizes_of (take i h.each)) (sym c.self.view_is) c.requires.place in
    let count : length each ≡ c.self.inside.count = length-take-le c.self.inside.count all (omega (arith, c.self.invariant.0, c.self.invariant.2, c.self.inside.placed.ok.0)) in
    let size : length bytes ≡ c.self.inside.size = length-take-le c.self.inside.size c.self.inside.bytes.items (omega (arith, c.self.invariant.1, c.self.invariant.3, c.self.inside.bytes.ok.0)) in
    let is : slice_get each i ≡ Some s = slice_get-get_or each i s there ∙ ap (λ (x : Placed). Some x) (get_or-take c.self.inside.count all i s (omega (arith, there, count)) ∙ sym c.index-placed.ensures) in
    let fits : c.args.at + s.size ≤ c.self.inside.size = omega (arith, place, sizes_next each i s is, sizes_within each (suc i), are, size) in
    let front : take s.size (drop c.args.at bytes) ≡ take (c.args.at + s.size - c.args.at) (drop c.args.at c.deref.result.now) =
    within_front c.self.inside.bytes.items c.self.inside.size c.args.at s.size fits
    ∙ ap (λ (l : List ℕ). take s.size (drop c.args.at l)) (sym c.deref.ensures.value) ∙ ap (λ (n : ℕ). take n (drop c.args.at c.deref.result.now)) (omega arith) in
    subst (λ (h : Laid). slice_index_or (frames_of h) i no_frame ≡ F (take (c.args.at + s.size - c.args.at) (drop c.args.at c.deref.result.now))) c.self.view_is
    (frame_at each bytes i s is ∙ ap (λ (n : ℕ). F (take s.size (drop n bytes))) (sym place) ∙ ap F front)
