-- Records of a feed are gathered behind a journal, and brought into it.
use Rattle.gts_standby.proofs.Cited.{◌≡◌, inl, inr, ℕ, ◌+◌, ◌<◌, ◌≤◌, Bool, true, cond, List, [], ◌∷◌, ◌++◌, length, Option, Some, refl, sym, ap, subst, ◌∙◌, arith, length-append, map-append, AreNext, Breaks, Call, CanGather, Core, Directory, Ends, Feed, Gathered, Gathering, Gathers, HasAppendedBlock, HasBrought, HasGatheredOne, HoldsAt, HoldsBehind, InFeed, InHand, IsBlock, IsGathered, IsGathering, IsJudged, IsKept, MayBring, MayHaveBrought, ReadsToOneOf, Record, StandsBehind, StandsFor, State, StopsAs, Version, admits, after, after_records, beyond_block, chain_text, closed_gate, event_of_record, gate_behind, held, may_be_cut, no_records, read_at, read_with, record_size, record_text, seal, sealed_at, stopped, texts_of, written, started, last_seal-append, gathered_block, records_more, next_none, next_more, batch_stands, kept_on, common_steps}
use Rattle.gts_standby.proofs.AddLemmas.{whole_uncut}
use Rattle.gts_standby.proofs.ReadLemmas.{images_read}

-- ---- what was gathered

-- a batch ends with a gate
pub long_some : (before : List ℕ) (rs : List Record) (b : Gathered) → Gathers before rs b → 1 ≤ length b.text
long_some before rs b g = omega (arith, ap length g.text, length-append (chain_text b.version before (texts_of rs)) (closed_gate ∷ []))

-- a batch with no more than that has no record
pub none_gathered : (before : List ℕ) (rs : List Record) (b : Gathered) → Gathers before rs b → length b.text ≡ 1 → rs ≡ []
none_gathered before [] b g one = refl
none_gathered before (r ∷ rs) b g one = grind (arith, common_steps)

-- one with more is a block
pub block_by : (before : List ℕ) (rs : List Record) (b : Gathered) → Gathers before rs b → 1 < length b.text → IsBlock b.text
block_by before [] b g some = absurd (omega (arith, some, ap length g.text))
block_by before (r ∷ rs) b g some = gathered_block before r rs b g

-- the seal behind one record more
pub seal_more : (before : List ℕ) (rs : List Record) (r : Record) (b next : Gathered) → Gathers before rs b → Gathers before (rs ++ r ∷ []) next → next.version ≡ b.version
    → next.seal ≡ seal b.version b.seal (record_text r)
seal_more before rs r b next g more version = grind (arith, common_steps, map-append, last_seal-append)

-- ---- a record is gathered

-- the record is admitted in whatever state the core holds
pub admitted_in : (d : Directory) (s : State) (core : Core) (v : Version) (at gate : ℕ) (r : Record) (b : Bool) → IsKept written d core gate s → v ≡ written → at ≡ gate → IsJudged v d core at r b
    → b ≡ admits written d s (gate + 1) r
admitted_in d s core v at gate r b kept version here judged = grind (arith, common_steps)

-- what stands behind the last seal
pub at_gathering : (v : Version) (array before bytes ahead : List ℕ) (o : Option Record) → v ≡ written → held written array ≡ before → bytes ≡ ahead → o ≡ sealed_at v (held v array) bytes
    → sealed_at written before ahead ≡ o
at_gathering v array before bytes ahead o version seals same is = grind (arith, common_steps)

-- a record is refused
pub refused_there : (at : ℕ) (before fed left : List ℕ) (r : Record) → sealed_at written before fed ≡ Some r → StopsAs (Feed at) (cond (may_be_cut written fed) (stopped Ends) (stopped (Breaks at))) left
refused_there at before fed left r found = record {
  end = Breaks at;
  is = ap (λ (b : Bool). cond b (stopped Ends) (stopped (Breaks at))) (whole_uncut written before fed r found);
  ends = refl;
  all = tt;
}

-- ---- the core holds the state behind the records

module _ (observed : Type 0) (d : Directory) (s : State) (rs : List Record) (calls : List Call) (core : Core) (g : Gathering) (h : HoldsBehind observed d s rs calls core g) (ahead : InFeed) (size : ℕ) (core_now : Core)
    (next : Gathering) (ahead_now : InFeed) (one : HasGatheredOne d core g ahead size core_now next ahead_now) where
  abbrev t : State
  t = after_records d s rs

  abbrev r : Record
  r = one.r

  version_is : g.batch.version ≡ written
  version_is = h.stands.next.version ∙ h.stands.current

  pub gate_on : gate_behind next ≡ gate_behind g + record_size written r
  gate_on = omega (arith, one.long, ap (λ (k : InHand). k.gate) one.journal_is, long_some g.journal.seal rs g.batch h.stands.next.gathers)

  pub ok : admits written d t (gate_behind g + 1) r ≡ true
  ok = one.admitted t h.kept

  more : Gathers g.journal.seal (rs ++ r ∷ []) next.batch
  more = one.gathers g.journal.seal rs h.stands.next.gathers

  pub seal_on : next.batch.seal ≡ seal written g.batch.seal (record_text r)
  seal_on = seal_more g.journal.seal rs r g.batch next.batch h.stands.next.gathers more one.version ∙ ap (λ (v : Version). seal v g.batch.seal (record_text r)) version_is

  pub state_on : after_records d s (rs ++ r ∷ []) ≡ after d t (event_of_record r)
  state_on = records_more d s rs r

  kept_now : IsKept written d core_now (gate_behind next) (after_records d s (rs ++ r ∷ []))
  kept_now =
      let here = kept_on written d core core_now (gate_behind g) t r h.kept ok one.follows in
      subst (λ (x : State). IsKept written d core_now (gate_behind next) x) (sym state_on) (subst (λ (k : ℕ). IsKept written d core_now k (after d t (event_of_record r))) (sym gate_on) here)

  next_now : AreNext d s next.journal (rs ++ r ∷ []) next.batch
  next_now =
      let P : ℕ → Type 0 = λ n. admits written d t n r ≡ true in
      let at : gate_behind g + 1 ≡ g.journal.gate + length g.batch.text = omega (arith, long_some g.journal.seal rs g.batch h.stands.next.gathers) in
      subst (λ (k : InHand). AreNext d s k (rs ++ r ∷ []) next.batch) (sym one.journal_is)
      (next_more d s g.journal rs r g.batch next.batch h.stands.current h.stands.next one.version more (record { fits = one.fits; admitted = subst P at ok }))

  -- so it does behind one more
  pub held_one : HoldsBehind observed d s (rs ++ r ∷ []) calls core_now next
  held_one = record {
    stands = record {
      next = next_now;
      seal_is = one.seal_is ∙ sym seal_on;
      current = ap (λ (k : InHand). k.version) one.journal_is ∙ h.stands.current;
      ended = ap (λ (k : InHand). k.ended) one.journal_is ∙ h.stands.ended;
      room = omega (arith, kept_now.room);
      stands = λ tell. subst (λ (k : InHand). StandsFor d s calls k) (sym one.journal_is) (h.stands.stands tell);
    };
    kept = kept_now;
  }

pub gathered_of : (observed : Type 0) (d : Directory) (calls : List Call) (core : Core) (g : Gathering) → IsGathering observed d calls core g → IsGathered observed d calls g
gathered_of observed d calls core g o = record { settled = o.settled; records = o.records; stands = o.holds.stands }

pub can_gather : (observed : Type 0) (d : Directory) (calls : List Call) (core : Core) (g : Gathering) → IsGathering observed d calls core g → CanGather d core g
can_gather observed d calls core g o = grind (arith, common_steps)

pub gathered_one : (observed : Type 0) (d : Directory) (calls : List Call) (core : Core) (g : Gathering) (ahead : InFeed) (size : ℕ) (core_now : Core) (next : Gathering) (ahead_now : InFeed)
    → IsGathering observed d calls core g → HasGatheredOne d core g ahead size core_now next ahead_now → IsGathering observed d calls core_now next
gathered_one observed d calls core g ahead size core_now next ahead_now o one = record {
  settled = o.settled;
  records = o.records ++ one.r ∷ [];
  holds = held_one observed d o.settled o.records calls core g o.holds ahead size core_now next ahead_now one;
}

pub gate_grows : (observed : Type 0) (d : Directory) (calls : List Call) (core : Core) (g : Gathering) (ahead : InFeed) (size : ℕ) (core_now : Core) (next : Gathering) (ahead_now : InFeed)
    → IsGathering observed d calls core g → HasGatheredOne d core g ahead size core_now next ahead_now → gate_behind next ≡ gate_behind g + size + 1
gate_grows observed d calls core g ahead size core_now next ahead_now o one = grind (arith, common_steps)

-- ---- what was gathered is brought

pub brings_none : (observed : Type 0) (d : Directory) (s : State) (rs : List Record) (calls : List Call) (g : Gathering) → StandsBehind observed d s rs calls g → length g.batch.text ≡ 1 → HasBrought observed d s rs g calls g
brings_none observed d s rs calls g h one =
    let none : rs ≡ [] = none_gathered g.journal.seal rs g.batch h.next.gathers one in
    let P : List Record → Type 0 = λ l. HasBrought observed d s l g calls g in
    subst P (sym none) (record { stands = subst (λ (l : List Record). StandsBehind observed d s l calls g) none h; gate_is = refl; seal_is = refl })

pub brings_all : (observed : Type 0) (d : Directory) (s : State) (rs : List Record) (old new : List Call) (g next : Gathering) → StandsBehind observed d s rs old g → next.journal ≡ beyond_block g.journal g.batch.text g.batch.seal
    → next.batch ≡ no_records next.journal → next.seal ≡ g.seal → (observed → HasAppendedBlock old g.journal g.batch new next.journal) → HasBrought observed d s rs g new next
brings_all observed d s rs old new g next h place emptied same appended = grind (arith, common_steps, next_none, batch_stands)

-- nothing was done
pub still_brings : (observed : Type 0) → observed → (d : Directory) (calls : List Call) (g : Gathering) → MayBring observed d calls g calls
still_brings observed tell d calls g = λ s rs h.
    started calls (ReadsToOneOf d (read_at s g.journal) (read_with (after_records d s rs) g)) (λ files image. (refl, inl (images_read d s calls g.journal (h.stands tell) files image)))

-- the place behind the records stays
pub gate_stays : (observed : Type 0) (d : Directory) (old new : List Call) (g next : Gathering) → IsGathered observed d old g → MayHaveBrought observed d old g new next → gate_behind next ≡ gate_behind g
gate_stays observed d old new g next o (inl same) = ap gate_behind same.1
gate_stays observed d old new g next o (inr brings) = (brings o.settled o.records o.stands).gate_is

-- the core holds the state behind them still
pub brought_holds : (observed : Type 0) (d : Directory) (s : State) (rs : List Record) (new : List Call) (core : Core) (g next : Gathering) → IsKept written d core (gate_behind g) (after_records d s rs)
    → HasBrought observed d s rs g new next → HoldsBehind observed d (after_records d s rs) [] new core next
brought_holds observed d s rs new core g next kept brought = grind (arith, common_steps)

pub has_room : (observed : Type 0) (d : Directory) (old new : List Call) (core : Core) (g next : Gathering) → IsGathering observed d old core g → MayHaveBrought observed d old g new next → IsGathering observed d new core next
has_room observed d old new core g next o (inl same) = subst (λ (x : Gathering). IsGathering observed d new core x) (sym same.1) (subst (λ (l : List Call). IsGathering observed d l core g) (sym same.0) o)
has_room observed d old new core g next o (inr brings) = record {
  settled = after_records d o.settled o.records;
  records = [];
  holds = brought_holds observed d o.settled o.records new core g next o.holds.kept (brings o.settled o.records o.holds.stands);
}

-- ---- nothing was gathered yet

pub began : (observed : Type 0) (d : Directory) (s : State) (calls : List Call) (core : Core) (j : InHand) (g : Gathering) → HoldsAt observed d s calls core j → g.journal ≡ j → g.batch ≡ no_records j → held j.version g.seal ≡ j.seal
    → HoldsBehind observed d s [] calls core g
began observed d s calls core j g h journal batch seals = grind (arith, common_steps, next_none)
