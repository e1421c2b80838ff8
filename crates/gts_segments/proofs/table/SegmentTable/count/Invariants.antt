use Rattle.std.proofs.Common.{◌≡◌, ◌≤◌}
use Rattle.gts_segments.specs.Cited.{fields_of, groups_of, passing}
use Rattle.gts_segments.proofs.table.SegmentTable.count.Given as goal

-- so many of the places so far are noted
abbrev pub invariant-loop-place : goal.invariant-loop-place
invariant-loop-place l = record {
  counted : l.count ≡ passing (groups_of l.self (fields_of l.heading)) l.from l.place;
  within : l.count ≤ l.place;
}
