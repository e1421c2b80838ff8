use Rattle.gts_replay.proofs.Cited.{◌≡◌, length, Ok, ap, arith, length-append, err_from_is_err_and, BeginsWithHead, head_at, head_text, head_of, common_steps}
use Rattle.gts_replay.proofs.HeadLemmas.{head_found, head_stops}
use Rattle.gts_replay.proofs.head_cursor.read_head.Goals as goal

pub returns-in_err-head-clause-stop : goal.returns-in_err-head-clause-stop
returns-in_err-head-clause-stop c = grind (arith, common_steps, err_from_is_err_and, head_stops)

found : (c : goal.After-rest) → BeginsWithHead c.args.circuits c.args.kind c.args.bytes.now c.in_ok-head.head c.rest.result.now
found c =
    let read : head_at c.args.circuits c.args.kind c.args.bytes.now ≡ Ok (c.in_ok-head.head, c.rest.result.now) = rw (← c.new-cursor.ensures, c.rest.ensures) c.in_ok-head.ensures in
    head_found c.args.circuits c.args.kind c.args.bytes.now c.in_ok-head.head c.rest.result.now c.requires read

pub overflow_sub-result : goal.overflow_sub-result
overflow_sub-result c = let h = found c in omega (arith, ap length h.text, length-append (head_text (head_of c.in_ok-head.head)) c.rest.result.now)

pub returns-clause-length : goal.returns-clause-length
returns-clause-length c = let h = found c in omega (arith, ap length h.text, length-append (head_text (head_of c.in_ok-head.head)) c.rest.result.now)

pub returns-clause-head : goal.returns-clause-head
returns-clause-head c = grind (arith, common_steps, found, returns-clause-length)
