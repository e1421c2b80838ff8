-- What the files of a journal read to, at each moment.
use Rattle.gts_standby.proofs.Cited.{◌≡◌, ◌⊎◌, inl, inr, ℕ, ◌+◌, ◌-◌, List, [], ◌∷◌, ◌++◌, length, Option, Some, None, Result, Ok, Err, refl, sym, ap, subst, ◌∙◌, arith, length-append, append-nil, AreNext, AsBefore, Call, Directory, EachSince, EndsAt, Files, Gathered, InHand, IsImage, LeavesAllOrNone, Need, OnlySyncs, OpensTo, OpensWithin, Outside, ReadsToOneOf, Record, StandsFor, State, Syncs, Taken, Tries, Version, WithFront, after, after_records, chain_text, closed_gate, event_of_record, file_opens, files_read, front_of, gate_after, last_seal, opened_part, read_at, read_begun, read_behind, record_size, record_text, said_by, seal, seen, start_of, texts_of, written, weaker, started, synced, said_is, synced_image, all_file, before_file, length-chain, open_selected, same_open, selects}
use Rattle.gts_standby.proofs.AddLemmas.{opened_need, read_now}

-- ---- files that read to this open to its state

opens_so : (d : Directory) (read : State × ℕ × List ℕ) (files : Files) → files_read written d files ≡ Ok read → OpensTo d read.0 files
opens_so d read files is = ap (opened_need d) is

state_behind : (d : Directory) (read : State × ℕ × List ℕ) (rs : List Record) → (read_behind d read rs).0 ≡ after_records d read.0 rs
state_behind d read [] = refl
state_behind d read (r ∷ rs) = state_behind d (after d read.0 (event_of_record r), read.1 + record_size written r, seal written read.2 (record_text r)) rs

state_begun : (d : Directory) (read : State × ℕ × List ℕ) (o : Option Need) → (read_begun d read o).0 ≡ start_of read.0 o
state_begun d read None = refl
state_begun d read (Some n) = refl

-- as before
pub as_before : (d : Directory) (read : State × ℕ × List ℕ) (taken : Taken) (files : Files) (outside : Outside) → outside ≡ [] → files_read written d files ≡ Ok read → OpensWithin d read taken files outside
as_before d read taken files outside quiet is = AsBefore quiet (opens_so d read files is) is

-- with a front of what is added
pub with_front : (d : Directory) (read : State × ℕ × List ℕ) (taken : Taken) (front back : List Record) (files : Files) (outside : Outside) → taken.records ≡ front ++ back → outside ≡ []
    → files_read written d files ≡ Ok (read_behind d (read_begun d read taken.begins) front) → OpensWithin d read taken files outside
with_front d read taken front back files outside parts quiet is =
    let start : State × ℕ × List ℕ = read_begun d read taken.begins in
    let P : State → Type 0 = λ q. OpensTo d q files in
    let state : (read_behind d start front).0 ≡ after_records d (start_of read.0 taken.begins) front =
    state_behind d start front ∙ ap (λ (q : State). after_records d q front) (state_begun d read taken.begins) in
    WithFront front back parts quiet (subst P state (opens_so d (read_behind d start front) files is)) is

-- ---- a journal at its end

module _ (d : Directory) (s : State) (calls : List Call) (j : InHand) (f : StandsFor d s calls j) where
  -- where the selector is as it was
  reads : (files : Files) (read : State × ℕ × List ℕ) → files 2 ≡ seen calls 2 → file_opens j.version d j.file (files j.file) ≡ Ok read → files_read written d files ≡ Ok read
  reads files read same is = ap (λ (v : Version). files_read v d files) (sym f.current) ∙ open_selected j.version d files j.file (selects d s calls j f files same) ∙ is

  -- and the journal ends where it ended
  reads_before : (files : Files) → files 2 ≡ seen calls 2 → EndsAt (front_of calls j) (files j.file) → files_read written d files ≡ Ok (read_at s j)
  reads_before files same ends = reads files (read_at s j) same (before_file d s calls j f (files j.file) ends)

  pub images_read : (image : Files) → IsImage calls image → files_read written d image ≡ Ok (read_at s j)
  images_read image left =
      let P : List ℕ → Type 0 = λ l. EndsAt (front_of calls j) l in
      reads_before image (synced_image calls 2 image f.stands.selector_synced left)
      (subst P (sym (synced_image calls j.file image f.stands.file_synced left)) (f.stands.end_is f.ended))

  -- while at most a sync is tried
  pub opening_reads : (taken : Taken) (new : List Call) → OnlySyncs calls new → EachSince calls new (OpensWithin d (read_at s j) taken)
  opening_reads taken new syncs = by_end syncs
    where
      run : {T E : Type 0} (result : Result T E) → Tries Syncs result calls new → EachSince calls new (OpensWithin d (read_at s j) taken)
      run result tries =
          let P : Files → Outside → Type 0 = OpensWithin d (read_at s j) taken in
          let here = started calls P (λ files image. as_before d (read_at s j) taken files [] refl (images_read files image)) in
          synced P calls calls here result new
          (λ files same. as_before d (read_at s j) taken files _ (said_is P calls calls here [] (sym (append-nil (said_by calls)))) (same_open written d files (seen calls) same ∙ read_now d s calls j f)) tries

      by_end : OnlySyncs calls new → EachSince calls new (OpensWithin d (read_at s j) taken)
      by_end (inl is) = let done : Result (Unit {0}) (Unit {0}) = Ok tt in run done is
      by_end (inr broke) = let failed : Result (Unit {0}) (Unit {0}) = Err tt in run failed broke

  -- ---- records that are brought into it

  module _ (rs : List Record) (b : Gathered) (next : AreNext d s j rs b) where
    -- all of them stand there
    reads_all : (files : Files) → files 2 ≡ seen calls 2 → EndsAt (front_of calls j ++ opened_part b.text) (files j.file)
        → files_read written d files ≡ Ok (after_records d s rs, j.gate + (length b.text - 1) + 1, b.seal)
    reads_all files same ends =
        let t : State = after_records d s rs in
        let size : length b.text ≡ length (chain_text j.version j.seal (texts_of rs)) + 1 =
        ap length next.gathers.text ∙ length-append (chain_text b.version j.seal (texts_of rs)) (closed_gate ∷ []) ∙ ap (λ (v : Version). length (chain_text v j.seal (texts_of rs)) + 1) next.version in
        let last : last_seal j.version j.seal (texts_of rs) ≡ b.seal = ap (λ (v : Version). last_seal v j.seal (texts_of rs)) (sym next.version) ∙ sym next.gathers.seal in
        reads files (t, gate_after j.version j.gate rs + 1, last_seal j.version j.seal (texts_of rs)) same (all_file d s calls j f rs b next (files j.file) ends)
        ∙ ap (λ (n : ℕ). Ok (t, n, last_seal j.version j.seal (texts_of rs)))
        (let e : gate_after j.version j.gate rs + 1 ≡ j.gate + (length b.text - 1) + 1 = omega (arith, size, length-chain j.version j.seal rs j.gate) in e)
        ∙ ap (λ (l : List ℕ). Ok (t, j.gate + (length b.text - 1) + 1, l)) last

    pub batch_reads : (new : List Call) → EachSince calls new (LeavesAllOrNone calls j b.text)
        → EachSince calls new (ReadsToOneOf d (read_at s j) (after_records d s rs, j.gate + (length b.text - 1) + 1, b.seal))
    batch_reads new each =
        weaker (LeavesAllOrNone calls j b.text) (ReadsToOneOf d (read_at s j) (after_records d s rs, j.gate + (length b.text - 1) + 1, b.seal)) calls new
        (λ files outside left. (left.silent, by_end files left.selector left.journal)) each
      where
        by_end : (files : Files) → files 2 ≡ seen calls 2 → EndsAt (front_of calls j) (files j.file) ⊎ EndsAt (front_of calls j ++ opened_part b.text) (files j.file)
            → (files_read written d files ≡ Ok (read_at s j)) ⊎ (files_read written d files ≡ Ok (after_records d s rs, j.gate + (length b.text - 1) + 1, b.seal))
        by_end files same (inl ends) = inl (reads_before files same ends)
        by_end files same (inr ends) = inr (reads_all files same ends)
