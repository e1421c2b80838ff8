use Rattle.gts_generate.proofs.Cited.{◌≡◌, ℕ, ◌-◌, ◌++◌, [], List, length, take, drop, min, sym, ap, ◌∙◌, arith, take_rest, drop-drop, length-drop}
use Rattle.gts_generate.specs.DayView.{bytes_left, pieces_left}
use Rattle.gts_generate.proofs.DayLemmas.{reads_on}
use Rattle.gts_generate.proofs.generated.hand_on.Goals as goal

pub returns-clause-bytes : goal.returns-clause-bytes
returns-clause-bytes c =
    let piece : List ℕ = c.fill.new.parts.piece in
    let taken : ℕ = c.fill.new.parts.taken in
    let count : ℕ = c.min-count.result in
    let rest : List ℕ = pieces_left c.fill.new.parts.next c.fill.new.parts.count in
    let left : List ℕ = drop taken piece in
    let slice_is : take (length c.bytes.result.now - taken) (drop taken c.bytes.result.now) ≡ left = rw c.bytes.ensures (take_rest piece taken) in
    let is_least : count ≡ min (length left) (length c.args.into.now) = rw slice_is at c.min-count.ensures in
    let written : c.copy_from_slice.new.self ≡ take count left = c.copy_from_slice.ensures.after ∙ ap (λ (xs : List ℕ). take count xs) slice_is in
    let ready : length left ≡ 0 → left ++ rest ≡ [] =
    λ none. c.fill.ensures.ready (omega (arith, none, length-drop taken piece, c.fill.ensures.sound.taken)) in
    let now_is : bytes_left c.args.parts.now ≡ left ++ rest = sym c.fill.ensures.same in
    rw (now_is, written, ← drop-drop count taken piece) (reads_on left rest c.args.into.now count is_least ready).0
