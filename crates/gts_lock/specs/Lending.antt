-- What a turn ends as, once its value was lent.
use Rattle.std.specs.Prelude.{[]}
use Rattle.std.specs.Borrow.{Fml, RattleType, MutBor, Lends}
use mir.Syntax.{named}
use Rattle.gts_lock.specs.declared.history.HasHistory.{Ghosts}
use Rattle.gts_lock.specs.Passes.{Held, with_value}
use Rattle.gts_lock.specs.contracts.turn.Turn.{the_row}

-- the turn's value is the last one that was written through r
abbrev pub lends_value : (T E : RattleType) → Ghosts T.Denot E.Denot → MutBor (Held T.Denot E.Denot) → MutBor T.Denot → Fml
lends_value T E told turn r = Lends (the_row (record { mir = named 1; lft = [] }) T E told) T turn r (with_value turn.now)
