-- At the end of a feed its source has no more.
use Rattle.gts_standby.proofs.Cited.{◌≡◌, ◌⊎◌, inl, inr, ℕ, List, ◌++◌, refl, sym, ◌∙◌, subst, DiskFault, Done, FollowEnd, HasRead, InFeed, IsEnd, IsOwnEnd, IsPutEnd, IsReadEnd, IsUnsealed, IsWhole, OpenFault, ReadsAll, SourceFault, StopsAs, Taken, Version, open_end}
use Rattle.gts_record.specs.declared.fault.OpenFault.TheVariants as opening

pub whole_read : (ahead : InFeed) (left : List ℕ) → IsWhole ahead left → HasRead (ahead.bytes ++ left) ahead left
whole_read ahead left whole = record { is = refl; all = whole }

pub stops_all : (answer : FollowEnd) (t : Taken) (left : List ℕ) → StopsAs answer t left → ReadsAll answer left
stops_all Done t left stops = stops.all
stops_all _ t left stops = tt

pub read_all : (answer : FollowEnd) (left : List ℕ) → IsReadEnd answer → ReadsAll answer left
read_all Done left kind = absurd kind
read_all _ left kind = tt

pub own_all : (answer : FollowEnd) (left : List ℕ) → IsOwnEnd answer → ReadsAll answer left
own_all Done left kind = absurd kind
own_all _ left kind = tt

pub put_all : (answer : FollowEnd) (left : List ℕ) → IsPutEnd answer → ReadsAll answer left
put_all Done left kind = absurd kind
put_all _ left kind = tt

pub open_all : (e : OpenFault) (left : List ℕ) → ReadsAll (open_end e) left
open_all opening.DiskFault left = tt
open_all opening.NoMemory left = tt
open_all opening.NoJournal left = tt
open_all opening.OldVersion left = tt
open_all (opening.NotThis want found) left = tt
open_all (opening.Damaged file at) left = tt

pub looked_all : (answer : FollowEnd) (v : Version) (ahead : InFeed) (at : ℕ) (left : List ℕ) → IsUnsealed answer v ahead at → IsWhole ahead left → ReadsAll answer left
looked_all Done v ahead at left unsealed whole = whole unsealed.0
looked_all _ v ahead at left unsealed whole = tt

-- a feed ends with its end, or with a fault of the disk
pub finished_all : (P : Type 0) (answer end : FollowEnd) (left : List ℕ) → ((answer ≡ end) × P) ⊎ (answer ≡ DiskFault) → ReadsAll end left → ReadsAll answer left
finished_all P answer end left (inl same) all = subst (λ (e : FollowEnd). ReadsAll e left) (sym same.0) all
finished_all P answer end left (inr disk) all = subst (λ (e : FollowEnd). ReadsAll e left) (sym disk) tt

pub finished_end : (P : Type 0) (answer end : FollowEnd) → ((answer ≡ end) × P) ⊎ (answer ≡ DiskFault) → IsEnd answer → IsEnd end
finished_end P answer end (inl same) is = subst IsEnd same.0 is
finished_end P answer end (inr disk) is = absurd (subst IsEnd disk is)

pub finished_source : (P : Type 0) (answer end : FollowEnd) → ((answer ≡ end) × P) ⊎ (answer ≡ DiskFault) → answer ≡ SourceFault → end ≡ SourceFault
finished_source P answer end (inl same) is = sym same.0 ∙ is
finished_source P answer end (inr disk) is = let both : DiskFault ≡ SourceFault = sym disk ∙ is in absurd (cc both)
