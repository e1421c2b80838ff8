-- What is said of a feed, piece by piece.
use Rattle.gts_standby.proofs.Cited.{◌≡◌, ℕ, ◌+◌, ◌-◌, ◌≤◌, List, [], ◌++◌, length, take, drop, Result, Ok, Err, refl, sym, subst, ap, ◌∙◌, arith, IsErr, take-add, append-nil, drop-drop, take_all, Call, SaysFront, SaysHere, Speaks, on, on-append, said_none, said_more, front_behind, common_steps}
use Rattle.gts_traits.proofs.SayLemmas.{front_more}

pub says_none : (calls : List Call) → SaysHere calls calls []
says_none calls = record { only = said_none calls; stands = λ j stands. stands }

pub says_more : (a b c : List Call) (x y : List ℕ) → SaysHere a b x → SaysHere b c y → SaysHere a c (x ++ y)
says_more a b c x y first second = grind (arith, common_steps, on-append, said_more)

pub fronts_behind : (a b c : List Call) (x y : List ℕ) → SaysHere a b x → SaysFront b c (on 0 y) → SaysFront a c (on 0 (x ++ y))
fronts_behind a b c x y first second = subst (SaysFront a c) (sym (on-append 0 x y)) (front_behind a b c (on 0 x) (on 0 y) first.only second)

pub fronts_more : (a b : List Call) (x more : List ℕ) → SaysFront a b (on 0 x) → SaysFront a b (on 0 (x ++ more))
fronts_more a b x more f = subst (SaysFront a b) (sym (on-append 0 x more)) (front_more a b (on 0 x) (on 0 more) f)

-- nothing was said of it
pub fronts_none : (calls : List Call) (x : List ℕ) → SaysFront calls calls (on 0 x)
fronts_none calls x = record { left = []; front = (on 0 x, refl); said = said_none calls }

-- a piece of a file behind what was said of it
pub piece_more : (bytes part : List ℕ) (from at count : ℕ) → from ≤ at → length part ≡ count → take count part ≡ take count (drop at bytes)
    → take (at - from) (drop from bytes) ++ part ≡ take (at + count - from) (drop from bytes)
piece_more bytes part from at count order long is =
    let there : drop at bytes ≡ drop (at - from) (drop from bytes) =
    sym (drop-drop (at - from) from bytes ∙ ap (λ (k : ℕ). drop k bytes) (let e : from + (at - from) ≡ at = omega (arith, order) in e)) in
    let piece : part ≡ take count (drop (at - from) (drop from bytes)) =
    sym (take_all count part (omega (arith, long))) ∙ is ∙ ap (take count) there in
    ap (λ (l : List ℕ). take (at - from) (drop from bytes) ++ l) piece ∙ sym (take-add (at - from) count (drop from bytes))
    ∙ ap (λ (k : ℕ). take k (drop from bytes)) (let e : at - from + count ≡ at + count - from = omega (arith, order) in e)

-- a front of a part is a front of a longer one
pub more_of : (a b : List Call) (bytes : List ℕ) (from at to : ℕ) → from ≤ at → at ≤ to → SaysFront a b (on 0 (take (at - from) (drop from bytes))) → SaysFront a b (on 0 (take (to - from) (drop from bytes)))
more_of a b bytes from at to order inside said =
    let whole : take (to - from) (drop from bytes) ≡ take (at - from) (drop from bytes) ++ take (to - at) (drop (at - from) (drop from bytes)) =
    ap (λ (k : ℕ). take k (drop from bytes)) (let e : to - from ≡ at - from + (to - at) = omega (arith, order, inside) in e) ∙ take-add (at - from) (to - at) (drop from bytes) in
    subst (λ (l : List ℕ). SaysFront a b (on 0 l)) (sym whole) (fronts_more a b (take (at - from) (drop from bytes)) (take (to - at) (drop (at - from) (drop from bytes))) said)

-- of a piece that was to be said behind others a front was
pub piece_broken : (a b c : List Call) (bytes part : List ℕ) (from at count to : ℕ) → from ≤ at → at + count ≤ to → length part ≡ count → take count part ≡ take count (drop at bytes)
    → SaysHere a b (take (at - from) (drop from bytes)) → SaysFront b c (on 0 part) → SaysFront a c (on 0 (take (to - from) (drop from bytes)))
piece_broken a b c bytes part from at count to order inside long is says broke =
    let said = fronts_behind a b c (take (at - from) (drop from bytes)) part says broke in
    let so_far = subst (λ (l : List ℕ). SaysFront a c (on 0 l)) (piece_more bytes part from at count order long is) said in
    more_of a c bytes from (at + count) to (omega (arith, order)) inside so_far

-- all that was said is a front of itself
pub said_front : (a b : List Call) (x : List ℕ) → SaysHere a b x → SaysFront a b (on 0 x)
said_front a b x says = record { left = on 0 x; front = ([], sym (append-nil (on 0 x))); said = says.only }

pub speaks_err : {T E : Type 0} (result : Result T E) (old new : List Call) (bytes : List ℕ) → IsErr result → SaysFront old new (on 0 bytes) → Speaks result old new bytes
speaks_err (Ok x) old new bytes failed said = absurd (cc failed)
speaks_err (Err e) old new bytes failed said = said
