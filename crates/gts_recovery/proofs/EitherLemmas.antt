-- A journal that is opened in the version that its magic tells is never one of an older version.
use Rattle.gts_recovery.proofs.Cited.{◌≡◌, ℕ, zero, suc, ◌+◌, ◌-◌, Bool, true, false, ◌==◌, nat_eq, nat_lt, List, [], ◌∷◌, length, take, drop, Option, Some, None, Result, Ok, Err, subst, IfErr, Damaged, Directory, DiskFault, Files, IsAnswer, Need, NoJournal, NoMemory, NotThis, OldVersion, OpenFault, Read, Record, State, Version, admits_checkpoint, after, begun, behind_header, behind_magic, checkpoint_opens, checkpoint_text, compacted_bytes, empty, event_of_record, file_opens, first_seal, is_older, need, need_in, open_gate, opened_of, opens_any, pointwise, record_behind, record_size, record_text, records_at, restarted, seal, selected, selected_bytes, version_of, IfErr-weaker, common_steps, arith}

-- no older version is answered
abbrev pub NotOlder : {A : Type 0} → Result A OpenFault → Type 0
NotOlder (Err OldVersion) = ⊥
NotOlder _ = Unit {0}

-- what a record that was found leads to
abbrev after_record : Version → Directory → ℕ → ℕ → List ℕ → State → ℕ → List ℕ → Option Record → Read
after_record v d n file before s gate bytes o = elim o as (λ _. Read) [
  | None ↦ Err (Damaged file (gate + 1))
  | Some r ↦ records_at v d n file (seal v before (record_text r)) (after d s (event_of_record r)) (gate + record_size v r) (drop (record_size v r - 1) bytes)
]

records_not : (v : Version) (d : Directory) (n file : ℕ) (before : List ℕ) (s : State) (gate : ℕ) (bytes : List ℕ) → NotOlder (records_at v d n file before s gate bytes)
records_not v d zero file before s gate bytes = tt
records_not v d (suc n) file before s gate [] = tt
records_not v d (suc n) file before s gate (mark ∷ bytes) =
    by_mark (λ r. records_not v d n file (seal v before (record_text r)) (after d s (event_of_record r)) (gate + record_size v r) (drop (record_size v r - 1) bytes)) (mark == open_gate)
  where
    record_not : ((r : Record) → NotOlder (records_at v d n file (seal v before (record_text r)) (after d s (event_of_record r)) (gate + record_size v r) (drop (record_size v r - 1) bytes)))
        → (o : Option Record) → NotOlder (after_record v d n file before s gate bytes o)
    record_not more None = tt
    record_not more (Some r) = more r

    by_mark : ((r : Record) → NotOlder (records_at v d n file (seal v before (record_text r)) (after d s (event_of_record r)) (gate + record_size v r) (drop (record_size v r - 1) bytes)))
        → (b : Bool) → NotOlder (elim b as (λ _. Read) [ false ↦ Ok (s, gate + 1, before) | true ↦ after_record v d n file before s gate bytes (record_behind v d before s gate bytes) ])
    by_mark more false = tt
    by_mark more true = record_not more (record_behind v d before s gate bytes)

-- what stands behind a checkpoint
abbrev behind_checkpoint : Version → Directory → ℕ → List ℕ → Need → Read
behind_checkpoint v d file bytes n =
    records_at v d (length bytes) file (seal v (first_seal v d.mark) (checkpoint_text n)) (begun n) (compacted_bytes v n - 1) (drop (compacted_bytes v n - 1) bytes)

checkpoint_not : (v : Version) (d : Directory) (file : ℕ) (bytes : List ℕ) (n : Need) → NotOlder (checkpoint_opens v d file bytes n)
checkpoint_not v d file bytes n = by_admission (admits_checkpoint v d (drop 41 bytes) n)
  where
    by_admission : (b : Bool) → NotOlder (elim b as (λ _. Read) [ false ↦ Err (Damaged file 41) | true ↦ behind_checkpoint v d file bytes n ])
    by_admission false = tt
    by_admission true = records_not v d (length bytes) file (seal v (first_seal v d.mark) (checkpoint_text n)) (begun n) (compacted_bytes v n - 1) (drop (compacted_bytes v n - 1) bytes)

header_not : (v : Version) (d : Directory) (file : ℕ) (bytes : List ℕ) → NotOlder (behind_header v d file bytes)
header_not v d file bytes = by_letter _
  where
    by_letter : (b : Bool) → NotOlder (elim b as (λ _. Read) [
      | false ↦ records_at v d (length bytes) file (first_seal v d.mark) (empty d) 40 (drop 40 bytes)
      | true ↦ checkpoint_opens v d file bytes (need_in (drop 41 bytes))
    ])
    by_letter false = records_not v d (length bytes) file (first_seal v d.mark) (empty d) 40 (drop 40 bytes)
    by_letter true = checkpoint_not v d file bytes (need_in (drop 41 bytes))

magic_not : (v : Version) (d : Directory) (file : ℕ) (bytes : List ℕ) → NotOlder (behind_magic v d file bytes)
magic_not v d file bytes = by_size (nat_lt (length bytes) 40)
  where
    by_mark : (b : Bool) → NotOlder (elim b as (λ _. Read) [ false ↦ Err (NotThis d.mark (take 32 (drop 8 bytes))) | true ↦ behind_header v d file bytes ])
    by_mark false = tt
    by_mark true = header_not v d file bytes

    by_size : (b : Bool) → NotOlder (elim b as (λ _. Read) [
      | true ↦ Err (Damaged file (length bytes))
      | false ↦ elim (pointwise nat_eq (take 32 (drop 8 bytes)) d.mark) as (λ _. Read) [ false ↦ Err (NotThis d.mark (take 32 (drop 8 bytes))) | true ↦ behind_header v d file bytes ]
    ])
    by_size true = tt
    by_size false = by_mark (pointwise nat_eq (take 32 (drop 8 bytes)) d.mark)

-- the version of the magic is no newer one
own_version : (bytes : List ℕ) → is_older (version_of bytes) bytes ≡ false
own_version bytes = grind (arith, common_steps)

file_not : (d : Directory) (file : ℕ) (bytes : List ℕ) → NotOlder (file_opens (version_of bytes) d file bytes)
file_not d file bytes = grind (arith, common_steps, magic_not, own_version)

of_read : (d : Directory) (r : Read) → NotOlder r → NotOlder (elim (opened_of r) as (λ _. Result Need OpenFault) [ Err fault ↦ Err fault | Ok opened ↦ Ok (need d (restarted d opened.0)) ])
of_read d (Ok read) h = tt
of_read d (Err NoJournal) h = tt
of_read d (Err OldVersion) h = absurd h
of_read d _ h = tt

pub never_older : (d : Directory) (files : Files) → opens_any d files ≡ Err OldVersion → ⊥
never_older d files e =
    let none : NotOlder (opens_any d files) = of_read d (file_opens (version_of (selected_bytes files)) d (selected files) (files (selected files))) (file_not d (selected files) (files (selected files))) in
    subst (λ (r : Result Need OpenFault). NotOlder r) e none

pub not_older : {T : Type 0} (d : Directory) (files : Files) (r : Result T OpenFault) → IfErr r (λ e. IsAnswer e (opens_any d files)) → IfErr r (λ e. e ≡ OldVersion → ⊥)
not_older d files r =
    IfErr-weaker r (λ e. IsAnswer e (opens_any d files)) (λ e. e ≡ OldVersion → ⊥)
    (λ e is same. never_older d files (subst (λ (f : OpenFault). IsAnswer f (opens_any d files)) same is))
