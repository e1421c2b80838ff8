use Rattle.gts_count.proofs.Cited.{◌≡◌, ℕ, List, length, map, sym, ap, subst, arith, IsSome, All, Buffer, Circuit, CircuitNeed, HasKeys, HaveRows, Need, NotesAll, NotesDraws, bulletin_of, circuit_need_of, nat_cmp, need_of, unused, length-map, get_or-map, sound-parts, common_steps}
use Rattle.gts_count.specs.Cited.{get}
use Rattle.gts_event.specs.declared.values.Bulletin as values
use Rattle.gts_event.specs.declared.values.CircuitNeed as needs
use Rattle.gts_count.proofs.BeginningLemmas.{all_of, bodies_of, each_known, each_row, starts}
use Rattle.gts_count.proofs.start.numbers_of.Goals as goal

pub note_bulletins-requires-clause-bulletins : goal.note_bulletins-requires-clause-bulletins
note_bulletins-requires-clause-bulletins c = grind (arith, common_steps, all_of, sound-parts)

pub keys_of-requires : goal.keys_of-requires
keys_of-requires c = grind (arith, common_steps, bodies_of)

pub note_draws-requires-clause-circuits : goal.note_draws-requires-clause-circuits
note_draws-requires-clause-circuits c =
    let d = c.args.directory.now in
    let n : Need = need_of c.args.need.now in
    let cs : List needs.CircuitNeed = c.args.need.now.circuits in
    let rings : List (Buffer (List ℕ)) = c.in_ok-numbers.numbers.drawn.items in
    let capacities : map (λ (q : Buffer (List ℕ)). q.capacity) rings ≡ map (λ (row : Circuit). row.kept) d.circuits = c.in_ok-numbers.ensures.rings.kept in
    let kept : length c.note_bulletins.new.numbers.drawn.items ≡ length rings = ap (λ drawn. length drawn.items) c.in_ok-note_bulletins.ensures.drawn in
    let here : length c.as_slice-circuits.result.now ≡ length cs = ap length c.as_slice-circuits.ensures in
    omega (
      arith,
      here,
      kept,
      length-map cs circuit_need_of,
      (sound-parts d n c.requires).same,
      ap length capacities,
      length-map rings (λ (q : Buffer (List ℕ)). q.capacity),
      length-map d.circuits (λ (row : Circuit). row.kept),
    )

pub note_draws-requires-clause-rows : goal.note_draws-requires-clause-rows
note_draws-requires-clause-rows c =
    let mid = c.note_bulletins.new.numbers in
    let has = subst (λ (xs : List values.Bulletin). HasKeys (map bulletin_of xs) c.in_ok-keys.keys) c.as_slice-bulletins.ensures c.in_ok-keys.ensures in
    let rows = subst (λ (xs : List values.Bulletin). HaveRows mid (map bulletin_of xs)) c.as_slice-bulletins.ensures c.in_ok-note_bulletins.ensures.rows in
    each_row c.args.directory.now (need_of c.args.need.now) c.requires c.in_ok-keys.keys has mid rows

pub note_draws-requires-clause-known : goal.note_draws-requires-clause-known
note_draws-requires-clause-known c =
    let n : Need = need_of c.args.need.now in
    let cs : List needs.CircuitNeed = c.args.need.now.circuits in
    let has = subst (λ (xs : List values.Bulletin). HasKeys (map bulletin_of xs) c.in_ok-keys.keys) c.as_slice-bulletins.ensures c.in_ok-keys.ensures in
    subst (λ (xs : List needs.CircuitNeed). All (λ q. All (λ p. IsSome (get nat_cmp c.in_ok-keys.keys p)) q.kept) xs) (sym c.as_slice-circuits.ensures)
    (λ k q inside.
    subst (λ (x : CircuitNeed). All (λ p. IsSome (get nat_cmp c.in_ok-keys.keys p)) x.kept) (get_or-map circuit_need_of cs k q unused inside)
    (each_known c.args.directory.now n c.requires c.in_ok-keys.keys has k (omega (arith, inside, length-map cs circuit_need_of))))

pub returns : goal.returns
returns c =
    let d = c.args.directory.now in
    let n : Need = need_of c.args.need.now in
    let none = c.in_ok-numbers.numbers in
    let mid = c.note_bulletins.new.numbers in
    let new = c.note_draws.new.numbers in
    let has = subst (λ (xs : List values.Bulletin). HasKeys (map bulletin_of xs) c.in_ok-keys.keys) c.as_slice-bulletins.ensures c.in_ok-keys.ensures in
    let all = subst (λ (xs : List values.Bulletin). NotesAll d n.accepted (map bulletin_of xs) none mid) c.as_slice-bulletins.ensures c.in_ok-note_bulletins.ensures in
    let draws = subst (λ (xs : List needs.CircuitNeed). NotesDraws c.in_ok-keys.keys (map circuit_need_of xs) mid new) c.as_slice-circuits.ensures c.note_draws.ensures in
    starts d n c.requires c.in_ok-keys.keys has none mid new c.in_ok-numbers.ensures all draws
