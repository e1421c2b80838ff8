-- Calls that settle first what was gathered.
use Rattle.gts_engine.proofs.Cited.{◌≡◌, List, Result, Ok, Err, sym, ◌∙◌, Engine, Entry, Event, IsCompaction, IsHeardWithRoom, IsReopening, IsSettling, Keeps, OpenFault, Origin, Outcome, SayMode, Station, StationMeanings, SwitchFault, meanings_of, shown, switch_meanings}
use Rattle.gts_record.specs.declared.fault.OpenFault.TheVariants.{NoMemory}

module _ {P : Type 0} (station : StationMeanings P) (old mid : Engine P) (settled : Result (Unit {0}) SwitchFault) (s : (mode : SayMode) → IsSettling (meanings_of station mode) settled old mid) where
  -- where nothing was gathered, it stands for what it stood for
  still : (mode : SayMode) (o : Origin) (h : List Entry) → Keeps station.observed mode o h (shown station.calls old) → Keeps station.observed mode o h (shown station.calls mid)
  still mode o h kept = ((s mode).rests o h kept).1

  -- and settling doesn't fail
  never : {A : Type 0} (fault : SwitchFault) → settled ≡ Err fault → (mode : SayMode) (o : Origin) (h : List Entry) → Keeps station.observed mode o h (shown station.calls old) → A
  never fault failed mode o h kept =
      absurd (let no : ◌≡◌ {A = Result (Unit {0}) SwitchFault} (Ok tt) (Err fault) = sym ((s mode).rests o h kept).0 ∙ failed in cc no)

  pub heard_settled : (mode : SayMode) (event : Event) (result : Result Outcome SwitchFault) (new : Engine P) → IsHeardWithRoom station mode event result mid new → IsHeardWithRoom station mode event result old new
  heard_settled mode event result new a = record {
    directory = a.directory ∙ (s mode).directory;
    adds = λ o h kept. a.adds o h (still mode o h kept);
    outcome = λ o h kept. a.outcome o h (still mode o h kept);
    caused = λ o h kept. a.caused o h (still mode o h kept);
  }

  pub heard_unsettled : (mode : SayMode) (event : Event) (fault : SwitchFault) → settled ≡ Err fault → IsHeardWithRoom station mode event (Err fault) old mid
  heard_unsettled mode event fault failed = record {
    directory = (s mode).directory;
    adds = λ o h kept. never fault failed mode o h kept;
    outcome = λ o h kept. never fault failed mode o h kept;
    caused = λ o h kept. never fault failed mode o h kept;
  }

  pub compacts_settled : (result : Result (Unit {0}) SwitchFault) (new : Engine P) → IsCompaction station result mid new → IsCompaction station result old new
  compacts_settled result new a = record {
    directory = a.directory ∙ (s Station).directory;
    done = λ is mode o h kept. a.done is mode o h (still mode o h kept);
    failed = λ is mode o h kept. a.failed is mode o h (still mode o h kept);
  }

  pub compacts_unsettled : (fault : SwitchFault) → settled ≡ Err fault → IsCompaction station (Err fault) old mid
  compacts_unsettled fault failed = record {
    directory = (s Station).directory;
    done = λ is mode o h kept. never fault failed mode o h kept;
    failed = λ is mode o h kept. never fault failed mode o h kept;
  }

  pub reopens_settled : (result : Result (Unit {0}) OpenFault) (new : Engine P) → IsReopening (switch_meanings station) station.observed result mid new → IsReopening (switch_meanings station) station.observed result old new
  reopens_settled result new a = record {
    directory = a.directory ∙ (s Station).directory;
    adds = λ o h kept. a.adds o h (still Station o.origin h kept);
    fault = λ tell o h kept. a.fault tell o h (still Station o.origin h kept);
  }

  pub reopens_unsettled : (fault : SwitchFault) → settled ≡ Err fault → IsReopening (switch_meanings station) station.observed (Err NoMemory) old mid
  reopens_unsettled fault failed = record {
    directory = (s Station).directory;
    adds = λ o h kept. never fault failed Station o.origin h kept;
    fault = λ tell o h kept. never fault failed Station o.origin h kept;
  }
