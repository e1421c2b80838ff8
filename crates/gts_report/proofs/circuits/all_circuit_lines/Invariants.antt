use Rattle.gts_report.proofs.Cited.{◌≡◌, flat_map, behind, need_of, range_with_len, circuit_lines}
use Rattle.gts_report.proofs.circuits.all_circuit_lines.Given as goal

abbrev pub invariant-loop-c : goal.invariant-loop-c
invariant-loop-c l = l.all ≡ flat_map (circuit_lines l.new l.old (need_of l.need) (behind l.new l.old (need_of l.need))) (range_with_len 0 l.c)
