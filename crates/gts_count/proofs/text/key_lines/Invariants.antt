use Rattle.gts_count.proofs.Cited.{◌≡◌, ◌++◌, flat_map}
use Rattle.gts_count.specs.Text.{entry_text, key_lines}
use Rattle.gts_count.proofs.text.key_lines.Given as goal

abbrev pub invariant-loop-key : goal.invariant-loop-key
invariant-loop-key l = l.lines.items ++ flat_map entry_text l.key-iterator ≡ key_lines l.rows
