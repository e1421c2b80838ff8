use Rattle.gts_count.proofs.Cited.{map, take, HasKeys, bulletin_of}
use Rattle.gts_count.proofs.start.keys_of.Given as goal

abbrev pub invariant-loop-bulletin : goal.invariant-loop-bulletin
invariant-loop-bulletin l = HasKeys (take l.bulletin-index (map bulletin_of l.bulletins)) l.keys
