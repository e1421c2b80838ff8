-- Whether a feed has another record 0, by how it is answered.
use Rattle.gts_standby.proofs.Cited.{◌≡◌, ℕ, List, Result, Ok, Err, true, false, refl, sym, ◌∙◌, Diverged, Done, Feed, FollowEnd, InFeed, IsEnd, IsFedEnd, IsLater, IsOwnEnd, KeepsOther, Open, OpenFault, ReadsAll, is_other, open_end}
use Rattle.gts_record.specs.declared.fault.OpenFault.TheVariants as opening

pub fed_other : (answer : FollowEnd) → IsFedEnd answer → is_other answer ≡ false
fed_other Done kind = refl
fed_other (Open fault) kind = refl
fed_other (Feed at) kind = refl
fed_other (Diverged index own fed) kind = absurd kind
fed_other _ kind = refl

pub own_other : (answer : FollowEnd) → IsOwnEnd answer → is_other answer ≡ false
own_other Done kind = refl
own_other (Open fault) kind = refl
own_other (Feed at) kind = refl
own_other (Diverged index own fed) kind = absurd kind
own_other _ kind = refl

pub open_other : (e : OpenFault) → is_other (open_end e) ≡ false
open_other opening.DiskFault = refl
open_other opening.NoMemory = refl
open_other opening.NoJournal = refl
open_other opening.OldVersion = refl
open_other (opening.NotThis want found) = refl
open_other (opening.Damaged file at) = refl

pub no_other : (P : Type 0) (answer : FollowEnd) → is_other answer ≡ false → is_other answer ≡ true → P
no_other P answer none other = let both : true ≡ false = sym other ∙ none in absurd (cc both)

pub kept_later : {T : Type 0} (r : Result T FollowEnd) (fed : List ℕ) (ahead : InFeed) (left : List ℕ) → IsLater r → KeepsOther r fed ahead left
kept_later (Ok x) fed ahead left later = tt
kept_later (Err end) fed ahead left later = λ other. no_other _ end later other

pub other_all : (answer : FollowEnd) (left : List ℕ) → is_other answer ≡ true → ReadsAll answer left
other_all Done left other = absurd (cc other)
other_all _ left other = tt

pub other_end : (answer : FollowEnd) → is_other answer ≡ true → IsEnd answer
other_end Done other = tt
other_end (Open fault) other = absurd (cc other)
other_end (Feed at) other = tt
other_end (Diverged index own fed) other = tt
other_end _ other = absurd (cc other)
