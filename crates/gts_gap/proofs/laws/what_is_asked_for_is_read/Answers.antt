use Rattle.gts_gap.proofs.Cited.{digits_of, gaps, missing, runs}
use Rattle.gts_gap.proofs.AskLemmas.{gaps-small, runs-read}
use Rattle.gts_gap.proofs.laws.what_is_asked_for_is_read.Goals as goal

pub returns : goal.returns
returns c = λ own ns four capitals digits some.
    runs-read own (digits_of ns) (gaps ns) digits four capitals (gaps-small (digits_of ns) (runs (missing ns)) digits) some
