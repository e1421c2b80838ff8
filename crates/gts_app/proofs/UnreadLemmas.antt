-- Where a directory was not read.
use Rattle.gts_app.proofs.Cited.{◌≡◌, ◌⊎◌, Result, Ok, Err, inl, inr, refl, sym, ap, subst, DirFault, Directory, EndsIn, InputFault, IsOldReadEnd, IsReadEnd, NoMemory, OldDirectory, ReadsAs, Rose, SourceMeanings, Status, Stays, directory_of_bytes}
use Rattle.gts_directory.specs.Directory as directories

-- bytes say one directory
pub same_directory : (a b : directories.Directory) (said : Result directories.Directory DirFault) → said ≡ Ok a → said ≡ Ok b → a ≡ b
same_directory a b said one other = cc

-- and not a fault too
pub no_fault : (a : directories.Directory) (fault : DirFault) (said : Result directories.Directory DirFault) → said ≡ Ok a → said ≡ Err fault → ⊥
no_fault a fault said one other = cc

one_fault : (a b : DirFault) (said : Result directories.Directory DirFault) → said ≡ Err a → said ≡ Err b → a ≡ b
one_fault a b said one other = cc

-- the ends that reading one has, whose fault is answered under this name
abbrev pub Ended : (DirFault → Status) → Status → Type 0
Ended Refused status = ((fault : DirFault) × (status ≡ Refused fault)) ⊎ ((status ≡ InputFault) ⊎ (status ≡ NoMemory))

pub new_ended : (status : Status) → IsReadEnd status → Ended (λ fault. Directory fault) status
new_ended (Directory fault) e = inl (fault, refl)
new_ended InputFault e = inr (inl refl)
new_ended NoMemory e = inr (inr refl)
new_ended _ e = absurd e

pub old_ended : (status : Status) → IsOldReadEnd status → Ended (λ fault. OldDirectory fault) status
old_ended (OldDirectory fault) e = inl (fault, refl)
old_ended InputFault e = inr (inl refl)
old_ended NoMemory e = inr (inr refl)
old_ended _ e = absurd e

module _ {S : Type 0} (Refused : DirFault → Status) (IsEnd : Status → Type 0) (ended : (status : Status) → IsEnd status → Ended Refused status) (source : SourceMeanings S)
    (status : Status) (old new : S) (h : ReadsAs Refused IsEnd source (Err status) old new) where
  -- what holds of each of its ends
  pub by_end : (OfEnd : Status → Type 0) → ((fault : DirFault) → (source.observed → directory_of_bytes (source.left old) ≡ Err fault) → OfEnd (Refused fault))
      → (Rose (source.faults old) (source.faults new) → OfEnd InputFault) → OfEnd NoMemory → OfEnd status
  by_end OfEnd refused failed memory = go (ended status (h.ends status refl))
    where
      go : Ended Refused status → OfEnd status
      go (inl e) = subst OfEnd (sym e.1) (refused e.0 (λ observed. h.fault observed e.0 (ap (λ (s : Status). Err s) e.1)))
      go (inr (inl e)) = subst OfEnd (sym e) (failed (h.cause.failed (ap (λ (s : Status). Err s) e)))
      go (inr (inr e)) = subst OfEnd (sym e) memory

  -- over the bytes of a directory, and where the source doesn't fail, only memory was wanting
  pub only_memory : source.observed → (d : directories.Directory) → directory_of_bytes (source.left old) ≡ Ok d → Stays (source.faults old) (source.faults new) → status ≡ NoMemory
  only_memory observed d read calm =
      by_end (λ s. s ≡ NoMemory) (λ fault is. absurd (no_fault d fault (directory_of_bytes (source.left old)) read (is observed))) (λ rose. absurd (calm rose)) refl

  -- and over others their fault is answered, but for memory
  pub fault_told : source.observed → (fault : DirFault) → directory_of_bytes (source.left old) ≡ Err fault → Stays (source.faults old) (source.faults new) → EndsIn (Refused fault) status
  fault_told observed fault bad calm =
      by_end (EndsIn (Refused fault)) (λ other is. inl (ap Refused (one_fault other fault (directory_of_bytes (source.left old)) (is observed) bad))) (λ rose. absurd (calm rose)) (inr refl)
