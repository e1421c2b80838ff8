use Rattle.gts_migrate.proofs.Cited.{◌≡◌, ◌||◌, nat_le, map, filter, bulletin_of, has}
use Rattle.gts_migrate.proofs.bringing.keep_needed.Given as goal

abbrev pub invariant-loop-bulletin : goal.invariant-loop-bulletin
invariant-loop-bulletin l = map bulletin_of l.kept ≡ filter (λ b. nat_le l.first b.position || has l.held b.position) (map bulletin_of l.yielded)
