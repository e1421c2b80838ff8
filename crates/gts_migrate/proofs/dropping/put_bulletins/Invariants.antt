use Rattle.gts_migrate.proofs.Cited.{◌≡◌, ◌++◌, map, take, bulletin_of, flat_map, receipt_among}
use Rattle.gts_migrate.proofs.dropping.put_bulletins.Given as goal

abbrev pub invariant-loop-bulletin : goal.invariant-loop-bulletin
invariant-loop-bulletin l = l.text.items ≡ l.fn.text.items ++ flat_map (receipt_among l.c l.waiting) (map bulletin_of (take l.bulletin-index l.bulletins))
