use Rattle.gts_checkpoint.proofs.AloneLemmas.{beside}
use Rattle.gts_checkpoint.proofs.writing.write.Goals as goal

pub returns-clause-beside : goal.returns-clause-beside
returns-clause-beside g c = λ observed. beside c.args.file _ _ (c.write_with.ensures.alone observed)

pub returns-in_err-seal-clause-beside : goal.returns-in_err-seal-clause-beside
returns-in_err-seal-clause-beside g c = λ observed. beside c.args.file _ _ (c.write_with.ensures.alone observed)
