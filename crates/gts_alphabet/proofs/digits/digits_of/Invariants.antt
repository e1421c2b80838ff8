use Rattle.std.proofs.Common.{◌≡◌, ◌≤◌, ◌++◌, drop, length}
use Rattle.gts_alphabet.specs.Digits.{dec}
use Rattle.gts_alphabet.proofs.digits.digits_of.Given as goal

-- the digits of the rest, and those that are written behind them, are the digits of the number
abbrev pub invariant-loop-i : goal.invariant-loop-i
invariant-loop-i g l = record {
  inside : l.i ≤ g.row.W;
  width : length l.digits ≡ g.row.W;
  written : dec l.i l.rest ++ drop l.i l.digits ≡ dec g.row.W l.number;
}

abbrev pub decreases-loop-i : goal.decreases-loop-i
decreases-loop-i g l = l.i
