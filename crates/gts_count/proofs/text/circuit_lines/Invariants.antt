use Rattle.gts_count.proofs.Cited.{◌≡◌, ◌++◌}
use Rattle.gts_count.specs.Text.{numbers_lines}
use Rattle.gts_count.proofs.LineLemmas.{numbers_left}
use Rattle.gts_count.proofs.text.circuit_lines.Given as goal

abbrev pub invariant-loop-c : goal.invariant-loop-c
invariant-loop-c l = l.lines.items ++ numbers_left l.numbers.came.items l.numbers.drawn.items l.c ≡ numbers_lines 0 l.numbers.came.items l.numbers.drawn.items
