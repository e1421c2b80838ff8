-- What `ship` comes to, from the directory and the feed.
use Rattle.gts_app.proofs.Cited.{◌≡◌, ℕ, List, Option, Result, Ok, Err, inl, inr, refl, arith, IfErr, OnOk, AsksToShip, Call, Directory, Ghosts as StationMeanings, IsNamed, IsReadEnd, IsShipFault, NoMemory, OnlySyncsUnopened, ReadsDirectory, SaysFrontSynced, ShipFault, ShippedAs, ShipsFeed, ShipsOnly, Since, SourceMeanings, Status, asked_of, seen, status_shipped, common_steps}
use Rattle.gts_directory.specs.Directory as directories
use Rattle.gts_app.proofs.UnreadLemmas.{by_end, new_ended, same_directory}
use Rattle.gts_app.proofs.ShowLemmas.{unchanged}

-- nothing was begun
pub unread : {S P : Type 0} (since : Option Since) (source : SourceMeanings S) (station : StationMeanings P) (od : S) (at : P) → ShipsFeed since source station NoMemory od at od at
unread since source station od at = grind (arith, common_steps)

-- there is no directory
pub ship_unread : {S P : Type 0} (since : Option Since) (source : SourceMeanings S) (station : StationMeanings P) (status : Status) (od nd : S) (at : P)
    → ReadsDirectory source (Err status) od nd → ShipsFeed since source station status od at nd at
ship_unread since source station status od nd at h = record {
  means = by_end (λ fault. Directory fault) IsReadEnd new_ended source status od nd h (λ s. ShippedAs since source station s od at nd at)
      (λ fault is. (refl, is)) (λ rose. (refl, rose)) (inl refl);
  files = λ observed k. refl;
  unopened = λ observed told d fault read is. inr (inl refl);
  taken = h.taken;
  counts = (h.cause.later, omega arith, omega arith);
}

-- what reads of the files give stays where a front was said at most
stays_synced : (old new : List Call) (bytes : List ℕ) (k : ℕ) → SaysFrontSynced old new bytes → seen new k ≡ seen old k
stays_synced old new bytes k (inl syncs) = unchanged old new k syncs
stays_synced old new bytes k (inr says) = says.said.files k

-- there is one
pub ship_ends : {S P : Type 0} (since : Option Since) (source : SourceMeanings S) (station : StationMeanings P) (d : directories.Directory) (result : Result (Unit {0}) ShipFault) (od nd : S) (old new : P)
    → ReadsDirectory source (Ok d) od nd
    → (station.observed → OnOk result (ShipsOnly d (station.calls old) (station.calls new) (asked_of d (station.calls old) since)))
    → (station.observed → IfErr result (λ e. IsShipFault e d (station.calls old) (station.calls new) (asked_of d (station.calls old) since)))
    → (station.observed → OnlySyncsUnopened d (station.calls old) (station.calls new))
    → IfErr result IsNamed → AsksToShip station result old new → ShipsFeed since source station (status_shipped result) od old nd new
ship_ends since source station d result od nd old new h said fault unopened named cause =
    grind (arith, common_steps, same_directory, unchanged, stays_synced)
