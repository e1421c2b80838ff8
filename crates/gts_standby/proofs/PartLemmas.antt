-- What the whole feed of a station's journal comes to beside a standby that has a first part of it.
use Rattle.gts_standby.proofs.Cited.{◌≡◌, ℕ, zero, suc, ◌+◌, ◌-◌, ◌^◌, ◌<◌, Bool, true, false, cond, List, [], ◌∷◌, ◌++◌, length, take, drop, Option, Some, None, Ok, refl, sym, ap, subst, ◌∙◌, arith, length-append, Directory, Ends, Files, Need, Accept, Drew, Parts, Piece, Record, Sealed, State, Taken, add_all, after, begun, begun_taken, checkpoint_piece, checkpoint_seals, checkpoint_text, compacted_bytes, by_piece, comes_to, compare_all, compare_first, compared, empty, entry_at, event_of_record, feed, feed_at, feed_behind, file_opens, files_read, first_seal, is_checkpoint, is_checkpoint_fed, is_other_first, magic, need_in, or_anew, own_seals, read_after, read_begun, read_behind, record_size, record_text, records_at, seal, seal_size, sealed, sealed_at, seals_at, seals_behind, selected, selected_bytes, stopped, taken, written, length-sealed, sealed_at-found, sealed_fits, opens_behind, was_found, same_bytes, take_at, append-nil}
use Rattle.std.proofs.lemmas.List.{append_assoc}
use Rattle.gts_standby.proofs.FeedLemmas.{feed_one, feed_none, seals_one, seals_none, at_entry, IsEnd, IsRecord}
use Rattle.gts_standby.proofs.FedLemmas.{piece_by}
use Rattle.gts_standby.proofs.TakeLemmas.{sound_header, stays}
use Rattle.gts_standby.proofs.AddLemmas.{some_text, no_begin}
use Rattle.gts_standby.proofs.FrontLemmas.{first_by, come_by, checkpoint_more}
use Rattle.gts_standby.proofs.HistoryLemmas.{Comes, records_fed, drop_text, no_checkpoint, header_is}
use Rattle.gts_standby.proofs.StationLemmas.{behind_header, packed_feed, packed_reads, piece, text_read}

-- taken to its end, behind nothing else, with records that lead from what a journal reads to on to this
abbrev GoesTo : Directory → State × ℕ × List ℕ → State × ℕ × List ℕ → Taken → Type 0
GoesTo d y x what = Comes d y x what × (what.begins ≡ None)

-- the records of a feed behind those that a journal has
abbrev behind_own : Directory → State × ℕ × List ℕ → ℕ → List ℕ → Taken
behind_own d y at left = add_all written d (length left) y.2 y.0 (y.1 - 1) at left

front_fed : (d : Directory) (n m own_file file : ℕ) (before : List ℕ) (s : State) (gate index at : ℕ) (own bytes : List ℕ) (y x : State × ℕ × List ℕ) (more : List ℕ) → records_at written d n own_file before s gate own ≡ Ok y
    → records_at written d m file before s gate bytes ≡ Ok x → feed_at written n before own ++ more ≡ feed_at written m before bytes
    → GoesTo d y x (compare_all written (behind_own d y) (seals_at written n before own) before index at (feed_at written m before bytes))
front_fed d zero m own_file file before s gate index at own bytes y x more own_reads reads is = absurd (cc own_reads)
front_fed d (suc n) m own_file file before s gate index at own bytes y x more own_reads reads is = elim (at_entry written d n own_file before s gate own y own_reads) [
  | IsEnd none same ↦
      let sent : List ℕ = feed_at written m before bytes in
      let place : gate + 1 - 1 ≡ gate = omega arith in
      let all : compare_all written (behind_own d y) (seals_at written (suc n) before own) before index at sent ≡ add_all written d (length sent) before s gate at sent =
      ap (λ (l : List (List ℕ)). compare_all written (behind_own d y) l before index at sent) (seals_none written (suc n) own_file gate before own none)
      ∙ ap (λ (z : State × ℕ × List ℕ). behind_own d z at sent) same
      ∙ ap (λ (k : ℕ). add_all written d (length sent) before s k at sent) place in
      let comes = records_fed d m file (length sent) before s gate at bytes x reads (omega arith) in
      subst (λ (t : Taken). GoesTo d y x t) (sym all)
      (subst (λ (z : State × ℕ × List ℕ). Comes d z x (add_all written d (length sent) before s gate at sent)) (sym same) comes, no_begin d (length sent) before s gate at sent)
  | IsRecord r found own_more ↦
      by_station m reads is r found own_more
      (λ k more_read rest_is. front_fed d n k own_file file (seal written before (record_text r)) (after d s (event_of_record r)) (gate + record_size written r) (index + 1) (at + (record_size written r - 1)) (drop (record_size written r) own) (drop (record_size written r) bytes) y x more own_more more_read rest_is)
]
  where
    by_station : (k : ℕ) → records_at written d k file before s gate bytes ≡ Ok x → feed_at written (suc n) before own ++ more ≡ feed_at written k before bytes
        → (r : Record) → entry_at written before own_file gate own ≡ Ok (Some r)
        → records_at written d n own_file (seal written before (record_text r)) (after d s (event_of_record r)) (gate + record_size written r) (drop (record_size written r) own) ≡ Ok y
        → ((j : ℕ) → records_at written d j file (seal written before (record_text r)) (after d s (event_of_record r)) (gate + record_size written r) (drop (record_size written r) bytes) ≡ Ok x
        → feed_at written n (seal written before (record_text r)) (drop (record_size written r) own) ++ more ≡ feed_at written j (seal written before (record_text r)) (drop (record_size written r) bytes)
        → GoesTo d y x (compare_all written (behind_own d y) (seals_at written n (seal written before (record_text r)) (drop (record_size written r) own)) (seal written before (record_text r)) (index + 1) (at + (record_size written r - 1)) (feed_at written j (seal written before (record_text r)) (drop (record_size written r) bytes))))
        → GoesTo d y x (compare_all written (behind_own d y) (seals_at written (suc n) before own) before index at (feed_at written k before bytes))
    by_station zero reads is r found own_more so = absurd (cc reads)
    by_station (suc k) reads is r found own_more so =
        let text : List ℕ = sealed written before (record_text r) in
        let last : List ℕ = seal written before (record_text r) in
        let own_rest : List ℕ = feed_at written n last (drop (record_size written r) own) in
        let begins : feed_at written (suc k) before bytes ≡ text ++ (own_rest ++ more) =
        sym is ∙ ap (λ (l : List ℕ). l ++ more) (feed_one written n own_file gate before own r found) ∙ append_assoc text own_rest more in
        let wide : length text ≡ record_size written r - 1 = omega (arith, length-sealed written before (record_text r)) in
        elim (at_entry written d k file before s gate bytes x reads) [
          | IsEnd none same ↦
              absurd
              (let empty_is = ap (λ (l : List ℕ). length l) (sym begins ∙ feed_none written (suc k) file gate before bytes none) in
              let some = some_text r in omega (arith, empty_is, wide, some, length-append text (own_rest ++ more)))
          | IsRecord q there station_more ↦
              let station_rest : List ℕ = feed_at written k (seal written before (record_text q)) (drop (record_size written q) bytes) in
              let one : feed_at written (suc k) before bytes ≡ sealed written before (record_text q) ++ station_rest = feed_one written k file gate before bytes q there in
              let first = was_found written before own_file gate own r found in
              let second = was_found written before file gate bytes q there in
              let here : sealed_at written before (feed_at written (suc k) before bytes) ≡ Some r =
              sealed_at-found written before r (feed_at written (suc k) before bytes) (sealed_fits written before first.0 r first.2) (own_rest ++ more, begins) in
              let also : sealed_at written before (feed_at written (suc k) before bytes) ≡ Some q =
              sealed_at-found written before q (feed_at written (suc k) before bytes) (sealed_fits written before second.0 q second.2) (station_rest, one) in
              let same : q ≡ r = (let both : Some q ≡ Some r = sym also ∙ here in cc both) in
              by_record r found own_more begins here wide (subst (λ (z : Record). records_at written d k file (seal written before (record_text z)) (after d s (event_of_record z)) (gate + record_size written z) (drop (record_size written z) bytes) ≡ Ok x) same station_more)
              (subst (λ (z : Record). feed_at written (suc k) before bytes ≡ sealed written before (record_text z) ++ feed_at written k (seal written before (record_text z)) (drop (record_size written z) bytes)) same one)
              (so k)
        ]
      where
        by_record : (r : Record) → entry_at written before own_file gate own ≡ Ok (Some r)
            → records_at written d n own_file (seal written before (record_text r)) (after d s (event_of_record r)) (gate + record_size written r) (drop (record_size written r) own) ≡ Ok y
            → feed_at written (suc k) before bytes ≡ sealed written before (record_text r) ++ (feed_at written n (seal written before (record_text r)) (drop (record_size written r) own) ++ more)
            → sealed_at written before (feed_at written (suc k) before bytes) ≡ Some r → length (sealed written before (record_text r)) ≡ record_size written r - 1
            → records_at written d k file (seal written before (record_text r)) (after d s (event_of_record r)) (gate + record_size written r) (drop (record_size written r) bytes) ≡ Ok x
            → feed_at written (suc k) before bytes ≡ sealed written before (record_text r) ++ feed_at written k (seal written before (record_text r)) (drop (record_size written r) bytes)
            → (records_at written d k file (seal written before (record_text r)) (after d s (event_of_record r)) (gate + record_size written r) (drop (record_size written r) bytes) ≡ Ok x
            → feed_at written n (seal written before (record_text r)) (drop (record_size written r) own) ++ more ≡ feed_at written k (seal written before (record_text r)) (drop (record_size written r) bytes)
            → GoesTo d y x (compare_all written (behind_own d y) (seals_at written n (seal written before (record_text r)) (drop (record_size written r) own)) (seal written before (record_text r)) (index + 1) (at + (record_size written r - 1)) (feed_at written k (seal written before (record_text r)) (drop (record_size written r) bytes))))
            → GoesTo d y x (compare_all written (behind_own d y) (seals_at written (suc n) before own) before index at (feed_at written (suc k) before bytes))
        by_record r found own_more begins here wide station_more one so =
            let text : List ℕ = sealed written before (record_text r) in
            let last : List ℕ = seal written before (record_text r) in
            let size : ℕ = record_size written r - 1 in
            let sent : List ℕ = feed_at written (suc k) before bytes in
            let own_rest : List ℕ = feed_at written n last (drop (record_size written r) own) in
            let rest : List ℕ = feed_at written k last (drop (record_size written r) bytes) in
            let seals : List (List ℕ) = seals_at written n last (drop (record_size written r) own) in
            let rest_is : own_rest ++ more ≡ rest =
            sym (drop_text text (own_rest ++ more) size (sym wide)) ∙ ap (drop size) (sym begins ∙ one) ∙ drop_text text rest size (sym wide) in
            let dropped : drop size sent ≡ rest = ap (drop size) one ∙ drop_text text rest size (sym wide) in
            let goes = so station_more rest_is in
            let all : compare_all written (behind_own d y) (seals_at written (suc n) before own) before index at sent
            ≡ compare_all written (behind_own d y) seals last (index + 1) (at + size) rest =
            ap (λ (l : List (List ℕ)). compare_all written (behind_own d y) l before index at sent) (seals_one written n own_file gate before own r found)
            ∙ ap (λ (o : Option Record). by_piece at (piece_by written before sent o) (λ wide_by fed. compared index last fed (compare_all written (behind_own d y) seals last (index + 1) (at + wide_by) (drop wide_by sent)))) here
            ∙ ap (λ (b : Bool). cond b (compare_all written (behind_own d y) seals last (index + 1) (at + size) (drop size sent)) (stopped (Parts index last last))) (same_bytes last)
            ∙ ap (compare_all written (behind_own d y) seals last (index + 1) (at + size)) dropped in
            subst (λ (t : Taken). GoesTo d y x t) (sym all) goes

-- ---- a journal without a checkpoint

module _ (d : Directory) (file : ℕ) (bytes : List ℕ) (x : State × ℕ × List ℕ) (opened : file_opens written d file bytes ≡ Ok x) (plain : is_checkpoint bytes ≡ false) where
  pub plain_reads : records_at written d (length bytes) file (first_seal written d.mark) (empty d) 40 (drop 40 bytes) ≡ Ok x
  plain_reads = sym (opens_behind written d file bytes false (sound_header written d file bytes x opened) plain) ∙ opened

  pub plain_feed : feed written d.mark bytes ≡ (magic written ++ d.mark) ++ feed_at written (length bytes) (first_seal written d.mark) (drop 40 bytes)
  plain_feed =
      ap (λ (l : List ℕ). l ++ feed_behind written (first_seal written d.mark) bytes (is_checkpoint bytes)) (header_is d file bytes (sound_header written d file bytes x opened))
      ∙ ap (λ (b : Bool). (magic written ++ d.mark) ++ feed_behind written (first_seal written d.mark) bytes b) plain

drop_both : (xs ys zs : List ℕ) → xs ++ ys ≡ xs ++ zs → ys ≡ zs
drop_both xs ys zs e = sym (drop_text xs ys (length xs) refl) ∙ ap (drop (length xs)) e ∙ drop_text xs zs (length xs) refl

plain_part : (d : Directory) (own files : Files) (from read : State × ℕ × List ℕ) (own_fed more one : List ℕ) (others : List (List ℕ)) (whole : Taken) → length d.mark ≡ 32
    → files_read written d own ≡ Ok from → feed written d.mark (selected_bytes own) ≡ own_fed → is_checkpoint (selected_bytes own) ≡ false → own_seals d (selected_bytes own) ≡ one ∷ others
    → files_read written d files ≡ Ok read → feed written d.mark (selected_bytes files) ≡ own_fed ++ more → is_checkpoint (selected_bytes files) ≡ false
    → comes_to d own (own_fed ++ more) ≡ Ok whole → (whole.end ≡ Ends) × (read_after d from whole ≡ read)
plain_part d own files from read own_fed more one others whole size own_is own_sent own_plain seals opened sent plain here =
    (ap (λ (t : Taken). t.end) (sym whole_is) ∙ goes.0.0, ap (read_after d from) (sym whole_is) ∙ ap (λ (o : Option Need). read_behind d (read_begun d from o) all.records) goes.1 ∙ goes.0.1)
  where
    own_bytes : List ℕ
    own_bytes = selected_bytes own

    bytes : List ℕ
    bytes = selected_bytes files

    begin : List ℕ
    begin = first_seal written d.mark

    header : List ℕ
    header = magic written ++ d.mark

    own_records : List ℕ
    own_records = feed_at written (length own_bytes) begin (drop 40 own_bytes)

    records : List ℕ
    records = feed_at written (length bytes) begin (drop 40 bytes)

    own_reads : records_at written d (length own_bytes) (selected own) begin (empty d) 40 (drop 40 own_bytes) ≡ Ok from
    own_reads = plain_reads d (selected own) own_bytes from own_is own_plain

    reads : records_at written d (length bytes) (selected files) begin (empty d) 40 (drop 40 bytes) ≡ Ok read
    reads = plain_reads d (selected files) bytes read opened plain

    fed_is : own_fed ++ more ≡ header ++ records
    fed_is = sym sent ∙ plain_feed d (selected files) bytes read opened plain

    front : own_records ++ more ≡ records
    front =
        drop_both header (own_records ++ more) records
        (sym (append_assoc header own_records more) ∙ ap (λ (l : List ℕ). l ++ more) (sym (plain_feed d (selected own) own_bytes from own_is own_plain) ∙ own_sent) ∙ fed_is)

    own_all : List (List ℕ)
    own_all = seals_at written (length own_bytes) begin (drop 40 own_bytes)

    all : Taken
    all = compare_all written (behind_own d from) own_all begin 0 40 records

    goes : GoesTo d from read all
    goes = front_fed d (length own_bytes) (length bytes) (selected own) (selected files) begin (empty d) 40 0 40 (drop 40 own_bytes) (drop 40 bytes) from read more own_reads reads front

    seals_are : own_all ≡ one ∷ others
    seals_are = sym (ap (seals_behind written begin own_bytes) own_plain) ∙ seals

    letter : is_checkpoint_fed records ≡ false
    letter = no_checkpoint d (length bytes) (selected files) begin (empty d) 40 (drop 40 bytes) read reads

    first_is : compare_first written d.limit (behind_own d from) (one ∷ others) begin records ≡ all
    first_is =
        ap (λ (x : Piece). by_piece 40 x (λ k its. compared 0 one its (compare_all written (behind_own d from) others one 1 (40 + k) (drop k records))))
        (ap (first_by written d.limit begin records) letter)
        ∙ ap (λ (l : List (List ℕ)). compare_all written (behind_own d from) l begin 0 40 records) (sym seals_are)

    come : comes_to d own (own_fed ++ more) ≡ Ok all
    come =
        ap (come_by d own (own_fed ++ more)) own_is
        ∙ ap (λ (l : List (List ℕ)). Ok (taken written d from.0 (from.1 - 1) from.2 l (own_fed ++ more))) seals
        ∙ ap (λ (l : List ℕ). Ok (taken written d from.0 (from.1 - 1) from.2 (one ∷ others) l)) fed_is
        ∙ ap (λ (t : Taken). Ok t)
        (behind_header d from.0 (from.1 - 1) from.2 (one ∷ others) records size
        ∙ ap (or_anew d from.0 (begun_taken d records)) first_is
        ∙ stays d from.0 (begun_taken d records) all (ap is_other_first goes.0.0))

    whole_is : all ≡ whole
    whole_is = let both : Ok all ≡ Ok whole = sym come ∙ here in cc both

-- ---- journals that begin with a checkpoint

packed_part : (d : Directory) (own files : Files) (from read : State × ℕ × List ℕ) (own_fed more : List ℕ) (whole : Taken) → length d.mark ≡ 32 → d.limit < 256 ^ 4
    → files_read written d own ≡ Ok from → feed written d.mark (selected_bytes own) ≡ own_fed → is_checkpoint (selected_bytes own) ≡ true
    → files_read written d files ≡ Ok read → feed written d.mark (selected_bytes files) ≡ own_fed ++ more → is_checkpoint (selected_bytes files) ≡ true
    → comes_to d own (own_fed ++ more) ≡ Ok whole → (whole.end ≡ Ends) × (read_after d from whole ≡ read)
packed_part d own files from read own_fed more whole size limit own_is own_sent own_packed opened sent packed here =
    (ap (λ (t : Taken). t.end) (sym whole_is) ∙ goes.0.0, ap (read_after d from) (sym whole_is) ∙ ap (λ (o : Option Need). read_behind d (read_begun d from o) on.records) goes.1 ∙ goes.0.1)
  where
    own_bytes : List ℕ
    own_bytes = selected_bytes own

    bytes : List ℕ
    bytes = selected_bytes files

    begin : List ℕ
    begin = first_seal written d.mark

    header : List ℕ
    header = magic written ++ d.mark

    o : Need
    o = need_in (drop 41 own_bytes)

    n : Need
    n = need_in (drop 41 bytes)

    last_of : Need → List ℕ
    last_of k = seal written begin (checkpoint_text k)

    gate_of : Need → ℕ
    gate_of k = compacted_bytes written k - 1

    width_of : Need → ℕ
    width_of k = length (checkpoint_text k) + seal_size written

    rest_of : Need → List ℕ → List ℕ
    rest_of k file = feed_at written (length file) (last_of k) (drop (gate_of k) file)

    records_of : Need → List ℕ → List ℕ
    records_of k file = sealed written begin (checkpoint_text k) ++ rest_of k file

    rest : List ℕ
    rest = rest_of n bytes

    records : List ℕ
    records = records_of n bytes

    fed_is : own_fed ++ more ≡ header ++ records
    fed_is = sym sent ∙ packed_feed d (selected files) bytes read size limit opened packed

    front : records_of o own_bytes ++ more ≡ records
    front =
        drop_both header (records_of o own_bytes ++ more) records
        (sym (append_assoc header (records_of o own_bytes) more) ∙ ap (λ (l : List ℕ). l ++ more) (sym (packed_feed d (selected own) own_bytes from size limit own_is own_packed) ∙ own_sent) ∙ fed_is)

    piece_is : checkpoint_piece written d.limit begin records ≡ Sealed (width_of n) (last_of n)
    piece_is = piece d (selected files) bytes read size limit opened packed

    -- it is the same checkpoint
    own_piece : checkpoint_piece written d.limit begin records ≡ Sealed (width_of o) (last_of o)
    own_piece =
        ap (checkpoint_piece written d.limit begin) (sym front)
        ∙ (checkpoint_more written d.limit begin (records_of o own_bytes) more (width_of o) (last_of o) (piece d (selected own) own_bytes from size limit own_is own_packed)).0

    width_is : width_of o ≡ width_of n
    width_is = let both : Sealed (width_of o) (last_of o) ≡ Sealed (width_of n) (last_of n) = sym own_piece ∙ piece_is in cc both

    front_of : (k : Need) (file more : List ℕ) → take (length (checkpoint_text k)) (records_of k file ++ more) ≡ checkpoint_text k
    front_of k file more =
        ap (take (length (checkpoint_text k))) (append_assoc (sealed written begin (checkpoint_text k)) (rest_of k file) more ∙ append_assoc (checkpoint_text k) (last_of k) (rest_of k file ++ more))
        ∙ take_at (checkpoint_text k) (last_of k ++ (rest_of k file ++ more)) (length (checkpoint_text k)) refl

    texts : checkpoint_text o ≡ checkpoint_text n
    texts =
        sym (front_of o own_bytes more)
        ∙ ap (take (length (checkpoint_text o))) (front ∙ sym (append-nil records))
        ∙ ap (λ (k : ℕ). take k (records ++ [])) (let e : length (checkpoint_text o) ≡ length (checkpoint_text n) = omega (arith, width_is) in e)
        ∙ front_of n bytes []

    same : o ≡ n
    same =
        sym (text_read d (selected own) own_bytes from size limit own_is own_packed [])
        ∙ ap (λ (l : List ℕ). need_in (l ++ [])) texts
        ∙ text_read d (selected files) bytes read size limit opened packed []

    -- behind it the records of the one lead on to those of the other
    own_reads : records_at written d (length own_bytes) (selected own) (last_of n) (begun n) (gate_of n) (drop (gate_of n) own_bytes) ≡ Ok from
    own_reads =
        subst (λ (k : Need). records_at written d (length own_bytes) (selected own) (last_of k) (begun k) (gate_of k) (drop (gate_of k) own_bytes) ≡ Ok from) same
        (packed_reads d (selected own) own_bytes from size limit own_is own_packed)

    front_behind : rest_of n own_bytes ++ more ≡ rest
    front_behind =
        drop_both (sealed written begin (checkpoint_text n)) (rest_of n own_bytes ++ more) rest
        (sym (append_assoc (sealed written begin (checkpoint_text n)) (rest_of n own_bytes) more) ∙ subst (λ (k : Need). records_of k own_bytes ++ more ≡ records) same front)

    own_all : List (List ℕ)
    own_all = seals_at written (length own_bytes) (last_of n) (drop (gate_of n) own_bytes)

    on : Taken
    on = compare_all written (behind_own d from) own_all (last_of n) 1 (40 + width_of n) rest

    goes : GoesTo d from read on
    goes =
        front_fed d (length own_bytes) (length bytes) (selected own) (selected files) (last_of n) (begun n) (gate_of n) 1 (40 + width_of n) (drop (gate_of n) own_bytes) (drop (gate_of n) bytes) from read more own_reads
        (packed_reads d (selected files) bytes read size limit opened packed) front_behind

    seals_are : own_seals d own_bytes ≡ last_of n ∷ own_all
    seals_are = ap (seals_behind written begin own_bytes) own_packed ∙ ap (checkpoint_seals written begin own_bytes) same

    letter : is_checkpoint_fed records ≡ true
    letter = refl

    first_is : compare_first written d.limit (behind_own d from) (last_of n ∷ own_all) begin records ≡ on
    first_is =
        ap (λ (x : Piece). by_piece 40 x (λ k its. compared 0 (last_of n) its (compare_all written (behind_own d from) own_all (last_of n) 1 (40 + k) (drop k records))))
        (ap (first_by written d.limit begin records) letter ∙ piece_is)
        ∙ ap (λ (b : Bool). cond b (compare_all written (behind_own d from) own_all (last_of n) 1 (40 + width_of n) (drop (width_of n) records)) (stopped (Parts 0 (last_of n) (last_of n)))) (same_bytes (last_of n))
        ∙ ap (compare_all written (behind_own d from) own_all (last_of n) 1 (40 + width_of n))
        (drop_text (sealed written begin (checkpoint_text n)) rest (width_of n) (sym (length-sealed written begin (checkpoint_text n))))

    come : comes_to d own (own_fed ++ more) ≡ Ok on
    come =
        ap (come_by d own (own_fed ++ more)) own_is
        ∙ ap (λ (l : List (List ℕ)). Ok (taken written d from.0 (from.1 - 1) from.2 l (own_fed ++ more))) seals_are
        ∙ ap (λ (l : List ℕ). Ok (taken written d from.0 (from.1 - 1) from.2 (last_of n ∷ own_all) l)) fed_is
        ∙ ap (λ (t : Taken). Ok t)
        (behind_header d from.0 (from.1 - 1) from.2 (last_of n ∷ own_all) records size
        ∙ ap (or_anew d from.0 (begun_taken d records)) first_is
        ∙ stays d from.0 (begun_taken d records) on (ap is_other_first goes.0.0))

    whole_is : on ≡ whole
    whole_is = let both : Ok on ≡ Ok whole = sym come ∙ here in cc both

-- ---- journals of which the one's feed is a front of the other's

-- the first record of a journal without a checkpoint isn't one
plain_letter : (d : Directory) (n file : ℕ) (before : List ℕ) (s : State) (gate : ℕ) (bytes : List ℕ) (x : State × ℕ × List ℕ) (one : List ℕ) (others : List (List ℕ)) (more : List ℕ)
    → records_at written d n file before s gate bytes ≡ Ok x → seals_at written n before bytes ≡ one ∷ others → is_checkpoint_fed (feed_at written n before bytes ++ more) ≡ false
plain_letter d zero file before s gate bytes x one others more reads seals = absurd (cc reads)
plain_letter d (suc n) file before s gate bytes x one others more reads seals = elim (at_entry written d n file before s gate bytes x reads) [
  | IsEnd is same ↦ absurd (let e : one ∷ others ≡ [] = sym seals ∙ seals_none written (suc n) file gate before bytes is in cc e)
  | IsRecord r is rest ↦
      ap (λ (l : List ℕ). is_checkpoint_fed (l ++ more)) (feed_one written n file gate before bytes r is)
      ∙ by_record r (feed_at written n (seal written before (record_text r)) (drop (record_size written r) bytes))
]
  where
    by_record : (r : Record) (rest : List ℕ) → is_checkpoint_fed ((sealed written before (record_text r) ++ rest) ++ more) ≡ false
    by_record (Accept from kind position body) rest = refl
    by_record (Drew circuit position index) rest = refl

pub any_part : (d : Directory) (own files : Files) (from read : State × ℕ × List ℕ) (own_fed more one : List ℕ) (others : List (List ℕ)) (whole : Taken) → length d.mark ≡ 32 → d.limit < 256 ^ 4
    → files_read written d own ≡ Ok from → feed written d.mark (selected_bytes own) ≡ own_fed → own_seals d (selected_bytes own) ≡ one ∷ others
    → files_read written d files ≡ Ok read → feed written d.mark (selected_bytes files) ≡ own_fed ++ more → comes_to d own (own_fed ++ more) ≡ Ok whole
    → (whole.end ≡ Ends) × (read_after d from whole ≡ read)
any_part d own files from read own_fed more one others whole size limit own_is own_sent seals opened sent here = by_letters (is_checkpoint own_bytes) (is_checkpoint bytes) refl refl
  where
    own_bytes : List ℕ
    own_bytes = selected_bytes own

    bytes : List ℕ
    bytes = selected_bytes files

    begin : List ℕ
    begin = first_seal written d.mark

    header : List ℕ
    header = magic written ++ d.mark

    -- what stands behind the header of the one is a front of what does behind that of the other
    behind_both : (xs ys : List ℕ) → feed written d.mark own_bytes ≡ header ++ xs → feed written d.mark bytes ≡ header ++ ys → xs ++ more ≡ ys
    behind_both xs ys own_so so =
        drop_both header (xs ++ more) ys (sym (append_assoc header xs more) ∙ ap (λ (l : List ℕ). l ++ more) (sym own_so ∙ own_sent) ∙ sym sent ∙ so)

    by_letters : (b c : Bool) → is_checkpoint own_bytes ≡ b → is_checkpoint bytes ≡ c → (whole.end ≡ Ends) × (read_after d from whole ≡ read)
    by_letters false false own_plain plain = plain_part d own files from read own_fed more one others whole size own_is own_sent own_plain seals opened sent plain here
    by_letters true true own_packed packed = packed_part d own files from read own_fed more whole size limit own_is own_sent own_packed opened sent packed here
    by_letters true false own_packed plain =
        let k : Need = need_in (drop 41 own_bytes) in
        let last : List ℕ = seal written begin (checkpoint_text k) in
        let own_records : List ℕ = sealed written begin (checkpoint_text k) ++ feed_at written (length own_bytes) last (drop (compacted_bytes written k - 1) own_bytes) in
        let records : List ℕ = feed_at written (length bytes) begin (drop 40 bytes) in
        let front = behind_both own_records records (packed_feed d (selected own) own_bytes from size limit own_is own_packed) (plain_feed d (selected files) bytes read opened plain) in
        let letter : is_checkpoint_fed (own_records ++ more) ≡ true = refl in
        let no : true ≡ false = sym letter ∙ ap is_checkpoint_fed front ∙ no_checkpoint d (length bytes) (selected files) begin (empty d) 40 (drop 40 bytes) read (plain_reads d (selected files) bytes read opened plain) in absurd (cc no)
    by_letters false true own_plain packed =
        let k : Need = need_in (drop 41 bytes) in
        let last : List ℕ = seal written begin (checkpoint_text k) in
        let own_records : List ℕ = feed_at written (length own_bytes) begin (drop 40 own_bytes) in
        let records : List ℕ = sealed written begin (checkpoint_text k) ++ feed_at written (length bytes) last (drop (compacted_bytes written k - 1) bytes) in
        let front = behind_both own_records records (plain_feed d (selected own) own_bytes from own_is own_plain) (packed_feed d (selected files) bytes read size limit opened packed) in
        let letter : is_checkpoint_fed records ≡ true = refl in
        let own_letter = plain_letter d (length own_bytes) (selected own) begin (empty d) 40 (drop 40 own_bytes) from one others more (plain_reads d (selected own) own_bytes from own_is own_plain)
        (sym (ap (seals_behind written begin own_bytes) own_plain) ∙ seals) in
        let no : true ≡ false = sym letter ∙ ap is_checkpoint_fed (sym front) ∙ own_letter in absurd (cc no)
