use Rattle.gts_generate.proofs.Cited.{◌≡◌}
use Rattle.gts_generate.specs.Centre as centre
use Rattle.gts_generate.proofs.CentreLemmas.{rows-made, directory-read, no-fault}
use Rattle.gts_generate.proofs.directory.generated_directory.Goals as goal

pub unreachable-requires : goal.unreachable-requires
unreachable-requires c =
    let made : c.add_levels.new.rows ≡ centre.rows =
    rows-made c.new-rows.result c.add_circuits.new.rows c.add_rules.new.rows c.add_levels.new.rows
    c.new-rows.ensures c.in_ok-add_circuits.ensures c.in_ok-add_rules.ensures c.in_ok-add_levels.ensures in
    no-fault c.add_levels.new.rows c.in-Err.field-0 made c.in-Err.ensures

pub returns : goal.returns
returns c =
    let made : c.add_levels.new.rows ≡ centre.rows =
    rows-made c.new-rows.result c.add_circuits.new.rows c.add_rules.new.rows c.add_levels.new.rows
    c.new-rows.ensures c.in_ok-add_circuits.ensures c.in_ok-add_rules.ensures c.in_ok-add_levels.ensures in
    directory-read c.add_levels.new.rows c.in-Ok.directory made c.in-Ok.ensures
