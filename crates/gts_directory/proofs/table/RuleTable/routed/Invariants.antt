use Rattle.gts_directory.proofs.Cited.{◌≡◌, ℕ, ◌*◌, take, bit, bit_at, fields_of, has_bit}
use Rattle.gts_directory.proofs.table.RuleTable.routed.Given as goal

abbrev pub invariant-loop-number : goal.invariant-loop-number
invariant-loop-number l = (k : ℕ) → bit_at l.set k ≡ bit (has_bit (take (64 * l.number) l.self-inside.rows.items) (fields_of l.heading) k)
