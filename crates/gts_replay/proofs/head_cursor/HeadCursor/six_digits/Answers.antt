use Rattle.gts_replay.proofs.Cited.{◌≡◌, ℕ, suc, ◌+◌, ◌-◌, ◌*◌, List, Ok, Err, ap, ◌∙◌, arith, pow-le-pow_right, pow_more, err_from_is_err_and, digits_at, common_steps}
use Rattle.gts_replay.specs.declared.head_cursor.Stop.{Stop}
use Rattle.gts_replay.specs.HeadReading.{digit_at}
use Rattle.gts_replay.proofs.head_cursor.HeadCursor.six_digits.Goals as goal

-- five digits leave room for a sixth
pub overflow_mul-number : goal.overflow_mul-number
overflow_mul-number c = omega (arith, pow-le-pow_right {n = 10} (omega arith) {i = c.loop.counter} {j = 5} (omega arith))

pub overflow_add-number : goal.overflow_add-number
overflow_add-number c = omega (arith, pow-le-pow_right {n = 10} (omega arith) {i = c.loop.counter} {j = 5} (omega arith), c.in_ok-number.ensures.small.1)

-- one digit more
one_more : (k more number digit : ℕ) (bytes rest : List ℕ) → k ≡ suc more → digit_at 10 bytes ≡ Ok (digit, rest)
    → digits_at k number bytes ≡ digits_at more (10 * number + digit) rest
unfolding digits_at
one_more k more number digit bytes rest e is = grind (arith, common_steps)

-- the bytes end, or one is bad
none_more : (k more number : ℕ) (bytes : List ℕ) (stop : Stop) → k ≡ suc more → digit_at 10 bytes ≡ Err stop → digits_at k number bytes ≡ Err stop
unfolding digits_at
none_more k more number bytes stop e is = grind (arith, common_steps)

all_there : (k number : ℕ) (bytes : List ℕ) → k ≡ 0 → digits_at k number bytes ≡ Ok (number, bytes)
unfolding digits_at
all_there k number bytes e = ap (λ (n : ℕ). digits_at n number bytes) e

pub loop-preserved : goal.loop-preserved
loop-preserved c = grind (arith, common_steps, one_more, pow_more)

pub returns-in_err-number : goal.returns-in_err-number
returns-in_err-number c =
    let i : ℕ = c.loop.counter in
    let p = err_from_is_err_and c.from_residual.result c.from_residual.ensures.1 in
    let none = none_more (6 - i) (6 - (i + 1)) c.loop.number c.loop.self c.in_err-number.field-0.0 (omega arith) c.in_err-number.ensures.exact in
    rw (p.1, p.2) (c.loop.invariant.left ∙ none)

pub returns : goal.returns
returns c = c.loop.invariant.left ∙ all_there (6 - c.loop.counter) c.loop.number c.loop.self (omega arith)
