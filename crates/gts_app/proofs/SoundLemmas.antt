-- A command that was done had nothing fail under it: from its status to how the call below it ended.
use Rattle.gts_app.proofs.Cited.{◌≡◌, Result, Ok, Err, IsErrOf, OnOk, refl, subst, Done, Failed, Ghosts as StationMeanings, Handed, IsOldReadEnd, IsReadEnd, IsRefusal, OpenFault, Opens, ReadsDirectory, ReadsOldDirectory, SourceMeanings, Status, SwitchFault, Usage, refusal, status_compacted, status_said}
use Rattle.gts_event.specs.declared.fault.SwitchFault.TheVariants as switch
use Rattle.gts_record.specs.declared.fault.OpenFault.TheVariants as opening

-- ---- a command that was refused was not done

pub unread : {S : Type 0} {source : SourceMeanings S} {status : Status} {old new : S} → ReadsDirectory source (Err status) old new → status ≡ Done → ⊥
unread {status = status} h is = subst IsReadEnd is (h.ends status refl)

-- nor were its words wrong
pub not_misused : {S : Type 0} {source : SourceMeanings S} {status : Status} {old new : S} → ReadsDirectory source (Err status) old new → status ≡ Usage → ⊥
not_misused {status = status} h is = subst IsReadEnd is (h.ends status refl)

pub old_unread : {S : Type 0} {source : SourceMeanings S} {status : Status} {old new : S} → ReadsOldDirectory source (Err status) old new → status ≡ Done → ⊥
old_unread {status = status} h is = subst IsOldReadEnd is (h.ends status refl)

pub unopened : {S P : Type 0} {source : SourceMeanings S} {w : StationMeanings P} {r : Handed P} {od nd : S} {old : P} → Opens source w (Err r) od nd old → r.status ≡ Done → ⊥
unopened {r = r} h is = subst IsRefusal is (h.refused r.status r.station refl).ends

-- no fault of an opening is
pub refusal_fails : (fault : OpenFault) → refusal fault ≡ Done → ⊥
refusal_fails opening.NoMemory is = cc is
refusal_fails _ is = cc is

-- ---- how the call below ended, where the status is that it was done

pub compacted : (r : Result (Unit {0}) SwitchFault) → status_compacted r ≡ Done → r ≡ Ok tt
compacted (Ok done) is = refl
compacted (Err switch.DiskFault) is = absurd (cc is)
compacted (Err (switch.Full used need limit)) is = absurd (cc is)
compacted (Err _) is = absurd (cc is)

pub said : (r : Result (Unit {0}) Failed) → status_said r ≡ Done → r ≡ Ok tt
said (Ok done) is = refl
said (Err fault) is = absurd (cc is)

-- ---- what holds of a call that was done

pub on_ok : {T E : Type 0} {X : Type 0} (r : Result T E) {x : T} → r ≡ Ok x → OnOk r X → X
on_ok {T} {E} {X} r is h = subst (λ (r : Result T E). OnOk r X) is h

pub none_of : {T E : Type 0} (r : Result T E) {x : T} → r ≡ Ok x → (fault : E) → IsErrOf r fault → ⊥
none_of r is fault failed = cc (is, failed)
