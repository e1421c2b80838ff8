use Rattle.gts_replay.proofs.Cited.{◌≡◌, ◌-◌, ◌<◌, ◌^◌, digits_at}
use Rattle.gts_replay.proofs.head_cursor.HeadCursor.six_digits.Given as goal

-- the digits that are left, behind those of the number so far
abbrev pub invariant-loop : goal.invariant-loop
invariant-loop l = record {
  left : digits_at 6 0 l.fn.self ≡ digits_at (6 - l.counter) l.number l.self;
  small : l.number < 10 ^ l.counter;
}
