use Rattle.gts_migrate.proofs.Cited.{◌≡◌, ◌-◌, ℕ, arith, err_from_is_err_and, Directory, IsOrdered, State, TakesOver, all_waiting, due, goes_on, left_behind, need, due_counted as due_waiting, common_steps}
use Rattle.gts_migrate.proofs.LettingGoLemmas.{due-on}
use Rattle.gts_migrate.proofs.preparing.check_room.Goals as goal

pub waiting-requires : goal.waiting-requires
waiting-requires c = grind (arith, common_steps, due_waiting)

-- what is due under the new directory
due_here : (new old : Directory) (s : State) (waiting left : ℕ) → TakesOver new old → IsOrdered old s → waiting ≡ all_waiting s.circuits → left ≡ left_behind new (need old s)
    → due (goes_on new old (need old s)) ≡ waiting - left
due_here new old s waiting left takes order count is = grind (arith, common_steps, due-on, due_waiting)

pub overflow_sub-waiting : goal.overflow_sub-waiting
overflow_sub-waiting c =
    let s0 = c.requires.due in
    let all = due-on c.args.new.now c.args.old.now s0.state c.requires.takes s0.holds.need.second in
    let each = due_waiting s0.state.circuits in
    let count = c.waiting.ensures c.args.old.now s0.state s0.holds in
    let left = c.requires.left s0.state s0.holds in
    omega (arith, all, each, count, left)

pub check_checkpoint-requires : goal.check_checkpoint-requires
check_checkpoint-requires c = grind (arith, common_steps, due_waiting)

pub returns-clause-room : goal.returns-clause-room
returns-clause-room c = λ s holds size.
    let old = c.args.old.now in
    let new = c.args.new.now in
    c.in_ok-check_checkpoint.ensures (goes_on new old (need old s))
    (due_here new old s c.waiting.result c.args.left c.requires.takes holds.need.second (c.waiting.ensures old s holds) (c.requires.left s holds)) size

pub returns-in_err-check_checkpoint-clause-room : goal.returns-in_err-check_checkpoint-clause-room
returns-in_err-check_checkpoint-clause-room c = λ s holds size.
    let old = c.args.old.now in
    let new = c.args.new.now in
    let p = err_from_is_err_and c.from_residual.result c.from_residual.ensures.1 in
    rw (p.1, p.2)
    (c.in_err-check_checkpoint.ensures (goes_on new old (need old s))
    (due_here new old s c.waiting.result c.args.left c.requires.takes holds.need.second (c.waiting.ensures old s holds) (c.requires.left s holds)) size)
