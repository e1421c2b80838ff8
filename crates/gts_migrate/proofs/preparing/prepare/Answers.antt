use Rattle.gts_migrate.proofs.Cited.{◌≡◌, ℕ, true, ap, ◌∙◌, arith, err_from_is_err_and, Core, Directory as DirectoryOf, HasFewDue, Holds, IsPreparedFaultOf, IsRoomAnswer, IsSaidFaultOf, MigrateFault, Need, Needs, NoMemory, State, Waits, is_sound, left_behind, need, need_of, common_steps}
use Rattle.gts_migrate.proofs.LettingGoLemmas.{due-on}
use Rattle.gts_migrate.proofs.MigratingLemmas.{brought_from}
use Rattle.gts_migrate.proofs.preparing.prepare.Goals as goal

-- the need of the core is sound
sound_here : (old : DirectoryOf) (core : Core) (n : Need) → Needs core n → HasFewDue old core → is_sound old n ≡ true
sound_here old core n needs due = ap (is_sound old) (needs old due.state due.holds) ∙ due.sound

-- as many are let go as of each state that the core holds
left_here : (old new : DirectoryOf) (core : Core) (n : Need) (left : ℕ) → Needs core n → left ≡ left_behind new n → (s : State) → Holds old core s → left ≡ left_behind new (need old s)
left_here old new core n left needs is s holds = is ∙ ap (left_behind new) (needs old s holds)

pub count_waiting-left-requires : goal.count_waiting-left-requires
count_waiting-left-requires c =
    let due = c.requires.due in
    let all = due-on c.args.new.now c.args.old.now due.state c.requires.takes due.holds.need.second in
    let same = ap (left_behind c.args.new.now) (c.in_ok-need.ensures c.args.old.now due.state due.holds) in
    let few = due.few in
    omega (arith, all, same, few)

pub check_room-requires-clause-left : goal.check_room-requires-clause-left
check_room-requires-clause-left c = left_here c.args.old.now c.args.new.now c.args.core.now (need_of c.in_ok-need.need) c.count_waiting-left.result c.in_ok-need.ensures c.count_waiting-left.ensures

pub bring_over-requires-clause-sound : goal.bring_over-requires-clause-sound
bring_over-requires-clause-sound c = sound_here c.args.old.now c.args.core.now (need_of c.in_ok-need.need) c.in_ok-need.ensures c.requires.due

pub returns-clause-brought : goal.returns-clause-brought
returns-clause-brought c = brought_from c.args.old.now c.args.new.now c.args.core.now (need_of c.in_ok-need.need) (need_of c.in_ok-brought.brought) c.in_ok-need.ensures c.in_ok-brought.ensures.need

pub returns-clause-room : goal.returns-clause-room
returns-clause-room c = grind (arith, common_steps, brought_from)

pub returns-in_err-check_room-clause-room : goal.returns-in_err-check_room-clause-room
returns-in_err-check_room-clause-room c = grind (arith, common_steps, brought_from, err_from_is_err_and)

-- where nothing can be said, the room isn't looked at
said_room : (fault : MigrateFault) (d : DirectoryOf) (t : State) → IsSaidFaultOf fault → IsRoomAnswer fault d t
said_room (Waits circuit count) d t kind = tt
said_room NoMemory d t kind = tt
said_room _ d t kind = absurd kind

said_kind : (fault : MigrateFault) → IsSaidFaultOf fault → IsPreparedFaultOf fault
said_kind (Waits circuit count) kind = tt
said_kind NoMemory kind = tt
said_kind _ kind = absurd kind

pub returns-in_err-receipts-clause-room : goal.returns-in_err-receipts-clause-room
returns-in_err-receipts-clause-room c = grind (arith, common_steps, err_from_is_err_and, said_room)

pub returns-in_err-receipts-clause-kind : goal.returns-in_err-receipts-clause-kind
returns-in_err-receipts-clause-kind c = grind (arith, common_steps, err_from_is_err_and, said_kind)
