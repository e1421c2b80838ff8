-- What `?` answers.
use Rattle.gts_standby.proofs.Cited.{◌≡◌, Result, Err, ap, ◌∙◌, IsErrAnd, err_from_is_err_and}

pub returned : {T E : Type 0} (r : Result T E) (error : E) → IsErrAnd r (λ e. e ≡ error) → r ≡ Err error
returned r error failed = let x = err_from_is_err_and r failed in x.1 ∙ ap (λ e. Err e) x.2
