use Rattle.gts_directory.proofs.Cited.{◌≡◌, refl, sym, ◌∙◌, ap, none-some, Directory, directory_of_rows, first_change, common_steps, arith}
use Rattle.gts_directory.proofs.TakingOverLemmas.{takes_over_from, none_from}
use Rattle.gts_directory.proofs.directory.Directory.takes_over.Goals as goal

pub returns-in-Some-clause-takes_over : goal.returns-in-Some-clause-takes_over
returns-in-Some-clause-takes_over c = grind (arith, common_steps, none-some, none_from)

pub returns-in-None-clause-takes_over : goal.returns-in-None-clause-takes_over
returns-in-None-clause-takes_over c =
    let told : c.first_change.result ≡ first_change c.args.self.now c.args.old.now =
    c.first_change.ensures ∙ ap (λ (d : Directory). first_change d (directory_of_rows c.old.inside.rows)) c.self.view_is ∙ ap (first_change c.args.self.now) c.old.view_is in
    (λ h. takes_over_from c.args.self.now c.args.old.now (sym told ∙ c.in-None.is), λ e. refl)
