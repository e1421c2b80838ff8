use Rattle.gts_app.proofs.Cited.{IsTrue, sym, subst, is_sound, need_of}
use Rattle.gts_directory.specs.Directory.{Directory}
use Rattle.gts_app.proofs.commands.count.count_beside.Goals as goal

pub counting_of-requires : goal.counting_of-requires
counting_of-requires g c =
    subst (λ (d : Directory). IsTrue (is_sound d (need_of c.in-Ok.need))) (sym c.directory.ensures) (c.requires (need_of c.in-Ok.need) c.in-Ok.ensures)
