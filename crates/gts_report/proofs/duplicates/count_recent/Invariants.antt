use Rattle.gts_report.proofs.Cited.{◌≡◌, ◌≤◌, length, map, take, bulletin_of, recent_among}
use Rattle.gts_report.proofs.duplicates.count_recent.Given as goal

abbrev pub invariant-loop-bulletin : goal.invariant-loop-bulletin
invariant-loop-bulletin l = record {
  counted : l.count ≡ length (recent_among l.directory l.fn.accepted (map bulletin_of (take l.bulletin-index l.bulletins)));
  few : l.count ≤ l.bulletin-index;
}
