-- What the whole feed of a station's journal comes to, whatever it begins with.
use Rattle.gts_standby.proofs.Cited.{◌≡◌, ℕ, ◌+◌, ◌-◌, ◌^◌, ◌<◌, ◌≤◌, Bool, true, false, cond, List, [], ◌∷◌, ◌++◌, length, take, drop, Option, Some, None, Ok, Err, nat_eq, refl, sym, ap, subst, ◌∙◌, arith, length-append, not, Damaged, Directory, Ends, Files, InFeed, IsCheckpoint, Need, Parts, Piece, Read, Sealed, State, Taken, add_all, admits_checkpoint, begin_first, begin_with, begun, behind_checkpoint, by_piece, checkpoint_piece, checkpoint_text, comes_to, compacted_bytes, compare_all, compare_first, compared, empty, feed, feed_at, feed_behind, file_opens, files_read, first_seal, header_fault, is_behind, is_checkpoint, is_checkpoint_fed, is_further, magic, need, need_in, or_anew, own_seals, pointwise, read_after, read_begun, read_behind, records_at, seal, seal_size, sealed, selected, selected_bytes, starts_with, stopped, take_records, taken, unowed, written, take-append_seam, append-nil, sound-parts, length-sealed, starts_with-append, need_in-text, fits-sound, magic_size, MayBegin, fit_bodies, opens_behind}
use Rattle.std.proofs.lemmas.List.{append_assoc}
use Rattle.gts_checkpoint.proofs.LawLemmas.{may_begin}
use Rattle.gts_standby.proofs.FirstLemmas.{by_admission}
use Rattle.gts_standby.proofs.HeaderLemmas.{header_on}
use Rattle.gts_standby.proofs.ScanLemmas.{sealed_piece}
use Rattle.gts_standby.proofs.ScannedLemmas.{scan_text}
use Rattle.gts_standby.proofs.PutLemmas.{begins_so}
use Rattle.gts_standby.proofs.TakeLemmas.{sound_header}
use Rattle.gts_standby.proofs.FrontLemmas.{records_by, come_by, unread_there, first_by, further_by}
use Rattle.gts_standby.proofs.HistoryLemmas.{Comes, records_fed, drop_text, agreeing_all, header_is, feed_comes, plain_begins}

-- ---- a checkpoint at the front

module _ (d : Directory) (file : ℕ) (bytes : List ℕ) (x : State × ℕ × List ℕ) (size : length d.mark ≡ 32) (limit : d.limit < 256 ^ 4) (opened : file_opens written d file bytes ≡ Ok x) (packed : is_checkpoint bytes ≡ true) where
  abbrev first : List ℕ
  first = first_seal written d.mark

  abbrev n : Need
  n = need_in (drop 41 bytes)

  abbrev text : List ℕ
  text = checkpoint_text n

  abbrev last : List ℕ
  last = seal written first text

  abbrev gate : ℕ
  gate = compacted_bytes written n - 1

  abbrev rest : List ℕ
  rest = feed_at written (length bytes) last (drop gate bytes)

  abbrev sent : List ℕ
  sent = sealed written first text ++ rest

  abbrev header : List ℕ
  header = magic written ++ d.mark

  sound : header_fault written d.mark file bytes ≡ None
  sound = sound_header written d file bytes x opened

  chained : by_admission written d file bytes n (admits_checkpoint written d (drop 41 bytes) n) ≡ Ok x
  chained = sym (opens_behind written d file bytes true sound packed) ∙ opened

  admitted : admits_checkpoint written d (drop 41 bytes) n ≡ true
  admitted = by_test (admits_checkpoint written d (drop 41 bytes) n) chained
    where
      by_test : (b : Bool) → by_admission written d file bytes n b ≡ Ok x → b ≡ true
      by_test true reads = refl
      by_test false reads = absurd (let one : Read = Err (Damaged file 41) in let e : one ≡ Ok x = reads in cc e)

  reads : records_at written d (length bytes) file last (begun n) gate (drop gate bytes) ≡ Ok x
  reads = sym (ap (by_admission written d file bytes n) admitted) ∙ chained

  -- the parts of its admission
  abbrev all : List ℕ
  all = drop 41 bytes

  may : MayBegin written d all n
  may = may_begin written d all n admitted

  free : unowed n ≡ n
  free =
      let fits = fits-sound written d n may.sound (omega (arith, limit, may.room)) in
      sym (need_in-text n may.begins.0 fits) ∙ ap need_in (sym may.begins.1)

  -- its text is read again
  pub text_read : (more : List ℕ) → need_in (text ++ more) ≡ n
  text_read more = need_in-text n more (fits-sound written d n may.sound (omega (arith, limit, may.room))) ∙ free

  -- the journal goes on behind it
  pub packed_reads : records_at written d (length bytes) file last (begun n) gate (drop gate bytes) ≡ Ok x
  packed_reads = reads

  -- it is found, with its seal
  abbrev whole : ℕ
  whole = length text + seal_size written

  sent_is : sent ≡ text ++ (last ++ rest)
  sent_is = append_assoc text last rest

  there : whole ≤ length sent
  there = omega (arith, length-append (sealed written first text) rest, length-sealed written first text)

  front : take (length text) sent ≡ text
  front = ap (take (length text)) sent_is ∙ take-append_seam text (last ++ rest)

  behind : drop (length text) sent ≡ last ++ rest
  behind = ap (drop (length text)) sent_is ∙ drop_text text (last ++ rest) (length text) refl

  starts_seal : starts_with nat_eq (drop (length text) sent) (seal written first (take (length text) sent)) ≡ true
  starts_seal =
      ap (λ (l : List ℕ). starts_with nat_eq l (seal written first (take (length text) sent))) behind
      ∙ ap (λ (l : List ℕ). starts_with nat_eq (last ++ rest) (seal written first l)) front
      ∙ starts_with-append last rest

  pub piece : checkpoint_piece written d.limit first sent ≡ Sealed whole last
  piece =
      let fits = fits-sound written d n may.sound (omega (arith, limit, may.room)) in
      let sound = sound-parts d n may.sound in
      let low : length text ≤ d.limit = omega (arith, may.room) in
      let reached = ap (λ (l : List ℕ). behind_checkpoint d.limit l) sent_is ∙ scan_text d.limit n (last ++ rest) fits (fit_bodies d n.accepted n.bulletins sound.few sound.bodies) low in
      let ahead : InFeed = record { bytes = sent; is_all = false } in
      sealed_piece written d.limit (length text) first sent [] ahead true reached (record { is = sym (append-nil sent); all = λ e. absurd (cc e) }) there starts_seal
      ∙ ap (λ (l : List ℕ). Sealed whole (seal written first l)) front

  is_one : IsCheckpoint written d (take (whole - seal_size written) sent) n
  is_one = record {
    text = ap (λ (k : ℕ). take k sent) (let e : whole - seal_size written ≡ length text = omega arith in e) ∙ front;
    sound = may.sound;
    free = free;
    room = may.room;
  }

  -- so the journal begins with it, and goes on behind it
  abbrev goes : Taken
  goes = add_all written d (length sent) last (begun n) gate (40 + whole) rest

  begins_there : begin_first written d first sent ≡ record goes { begins = Some n }
  begins_there =
      ap (λ (p : Piece). by_piece 40 p (λ k seal_there. begin_with written d first k sent (need_in sent))) piece
      ∙ begins_so d sent sent [] whole last limit (sym (append-nil sent)) there piece n is_one
      ∙ ap (λ (l : List ℕ). record (add_all written d (length sent) last (begun n) gate (40 + whole) l) { begins = Some n })
      (drop_text (sealed written first text) rest whole (sym (length-sealed written first text)))

  comes_there : Comes d (begun n, gate + 1, last) x goes
  comes_there =
      records_fed d (length bytes) file (length sent) last (begun n) gate (40 + whole) (drop gate bytes) x reads (omega (arith, length-append (sealed written first text) rest))

  pub anew_comes : ((begin_first written d first sent).end ≡ Ends) × ((y : State × ℕ × List ℕ) → read_after d y (begin_first written d first sent) ≡ x)
  anew_comes = (
    ap (λ (t : Taken). t.end) begins_there ∙ comes_there.0,
    λ y.
        ap (read_after d y) begins_there
        ∙ ap (λ (k : ℕ). read_behind d (begun n, k, last) goes.records) (let e : compacted_bytes written n ≡ gate + 1 = omega arith in e)
        ∙ comes_there.1,
  )

  pub packed_feed : feed written d.mark bytes ≡ header ++ sent
  packed_feed =
      ap (λ (l : List ℕ). l ++ feed_behind written first bytes (is_checkpoint bytes)) (header_is d file bytes sound)
      ∙ ap (λ (b : Bool). header ++ feed_behind written first bytes b) packed

  pub packed_begins : (is_checkpoint_fed sent ≡ true) × ((begin_first written d first sent).begins ≡ Some n)
  packed_begins = (refl, ap (λ (t : Taken). t.begins) begins_there)

-- ---- behind a header

forty : (d : Directory) → length d.mark ≡ 32 → length (magic written ++ d.mark) ≡ 40
forty d size = omega (arith, size, magic_size written, length-append (magic written) d.mark)

pub behind_header : (d : Directory) (s : State) (gate : ℕ) (last : List ℕ) (own : List (List ℕ)) (sent : List ℕ) → length d.mark ≡ 32
    → taken written d s gate last own ((magic written ++ d.mark) ++ sent) ≡ take_records written d s gate last own sent
behind_header d s gate last own sent size =
    let header : List ℕ = magic written ++ d.mark in
    header_on header (header ++ sent) (agreeing_all header sent ∙ forty d size) (take_records written d s gate last own (drop 40 (header ++ sent)))
    ∙ ap (take_records written d s gate last own) (drop_text header sent 40 (sym (forty d size)))

-- ---- a standby without records

pub whole_comes : (d : Directory) (own files : Files) (read : State × ℕ × List ℕ) (fed : List ℕ) (whole : Taken) → length d.mark ≡ 32 → d.limit < 256 ^ 4 → own_seals d (selected_bytes own) ≡ []
    → files_read written d files ≡ Ok read → feed written d.mark (selected_bytes files) ≡ fed → comes_to d own fed ≡ Ok whole
    → (whole.end ≡ Ends) × (read_after d (empty d, 41, first_seal written d.mark) whole ≡ read)
whole_comes d own files read fed whole size limit none opened sent here = by_read (files_read written d own) refl here
  where
    bytes : List ℕ
    bytes = selected_bytes files

    begin : List ℕ
    begin = first_seal written d.mark

    Brings : Taken → Type 0
    Brings t = (t.end ≡ Ends) × (read_after d (empty d, 41, begin) t ≡ read)

    by_letter : (b : Bool) → is_checkpoint bytes ≡ b → Brings (taken written d (empty d) 40 begin [] (feed written d.mark bytes))
    by_letter true packed =
        let letter = packed_begins d (selected files) bytes read size limit opened packed in
        let brings = anew_comes d (selected files) bytes read size limit opened packed in
        let n : Need = need_in (drop 41 bytes) in
        let fed_seal : List ℕ = seal written begin (checkpoint_text n) in
        let records : List ℕ = sealed written begin (checkpoint_text n) ++ feed_at written (length bytes) fed_seal (drop (compacted_bytes written n - 1) bytes) in
        let is : taken written d (empty d) 40 begin [] (feed written d.mark bytes) ≡ begin_first written d begin records =
        ap (taken written d (empty d) 40 begin []) (packed_feed d (selected files) bytes read size limit opened packed)
        ∙ behind_header d (empty d) 40 begin [] records size ∙ ap (records_by d (empty d) 40 begin records) letter.0 in
        subst Brings (sym is) (brings.0, brings.1 (empty d, 41, begin))
    by_letter false plain =
        let all = feed_comes d (selected files) bytes read size opened plain in
        (all.0, ap (λ (o : Option Need). read_behind d (read_begun d (empty d, 41, begin) o) (taken written d (empty d) 40 begin [] (feed written d.mark bytes)).records) (plain_begins d (selected files) bytes read size opened plain) ∙ all.1)

    by_read : (r : Read) → files_read written d own ≡ r → come_by d own fed r ≡ Ok whole → Brings whole
    by_read (Err fault) is come = absurd (cc come)
    by_read (Ok there) is come =
        let same : there ≡ (empty d, 41, begin) = unread_there d own there is none in
        let whole_is : whole ≡ taken written d (empty d) 40 begin [] (feed written d.mark bytes) =
        sym (let e : taken written d there.0 (there.1 - 1) there.2 (own_seals d (selected_bytes own)) fed ≡ whole = cc come in e)
        ∙ ap (λ (y : State × ℕ × List ℕ). taken written d y.0 (y.1 - 1) y.2 (own_seals d (selected_bytes own)) fed) same
        ∙ ap (λ (l : List (List ℕ)). taken written d (empty d) 40 begin l fed) none
        ∙ ap (taken written d (empty d) 40 begin []) (sym sent) in
        subst Brings (sym whole_is) (by_letter (is_checkpoint bytes) refl)

-- ---- a standby with another record 0

pub anew_whole : (d : Directory) (own files : Files) (t : State) (used : ℕ) (last : List ℕ) (read : State × ℕ × List ℕ) (fed one : List ℕ) (more : List (List ℕ)) (whole : Taken) → length d.mark ≡ 32 → d.limit < 256 ^ 4
    → files_read written d own ≡ Ok (t, used, last) → own_seals d (selected_bytes own) ≡ one ∷ more → files_read written d files ≡ Ok read → is_checkpoint (selected_bytes files) ≡ true
    → feed written d.mark (selected_bytes files) ≡ fed → pointwise nat_eq one (seal written (first_seal written d.mark) (checkpoint_text (need_in (drop 41 (selected_bytes files))))) ≡ false
    → is_behind (need_in (drop 41 (selected_bytes files))) (need d t) ≡ false → comes_to d own fed ≡ Ok whole
    → (whole.end ≡ Ends) × (read_after d (t, used, last) whole ≡ read)
anew_whole d own files t used last read fed one more whole size limit own_is seals opened packed sent other further here =
    subst Brings (whole_is) (brings.0, brings.1 (t, used, last))
  where
    bytes : List ℕ
    bytes = selected_bytes files

    begin : List ℕ
    begin = first_seal written d.mark

    n : Need
    n = need_in (drop 41 bytes)

    fed_seal : List ℕ
    fed_seal = seal written begin (checkpoint_text n)

    records : List ℕ
    records = sealed written begin (checkpoint_text n) ++ feed_at written (length bytes) fed_seal (drop (compacted_bytes written n - 1) bytes)

    anew : Taken
    anew = begin_first written d begin records

    Brings : Taken → Type 0
    Brings w = (w.end ≡ Ends) × (read_after d (t, used, last) w ≡ read)

    brings : (anew.end ≡ Ends) × ((y : State × ℕ × List ℕ) → read_after d y anew ≡ read)
    brings = anew_comes d (selected files) bytes read size limit opened packed

    begun : (is_checkpoint_fed records ≡ true) × (anew.begins ≡ Some n)
    begun = packed_begins d (selected files) bytes read size limit opened packed

    behind : ℕ → List ℕ → Taken
    behind at left = add_all written d (length left) last t (used - 1) at left

    on : ℕ → Taken
    on k = compare_all written behind more one 1 (40 + k) (drop k records)

    compared_is : compare_first written d.limit behind (one ∷ more) begin records ≡ stopped (Parts 0 one fed_seal)
    compared_is =
        ap (λ (x : Piece). by_piece 40 x (λ k its. compared 0 one its (on k)))
        (ap (first_by written d.limit begin records) begun.0 ∙ piece d (selected files) bytes read size limit opened packed)
        ∙ ap (λ (b : Bool). cond b (on (length (checkpoint_text n) + seal_size written)) (stopped (Parts 0 one fed_seal))) other

    further_is : is_further d t anew ≡ true
    further_is = ap (further_by d t) begun.1 ∙ ap not further

    taken_is : take_records written d t (used - 1) last (one ∷ more) records ≡ anew
    taken_is =
        ap (or_anew d t anew) compared_is
        ∙ ap (λ (b : Bool). cond b anew (stopped (Parts 0 one fed_seal))) further_is

    come : comes_to d own fed ≡ Ok anew
    come =
        ap (come_by d own fed) own_is
        ∙ ap (λ (l : List (List ℕ)). Ok (taken written d t (used - 1) last l fed)) seals
        ∙ ap (λ (l : List ℕ). Ok (taken written d t (used - 1) last (one ∷ more) l)) (sym sent ∙ packed_feed d (selected files) bytes read size limit opened packed)
        ∙ ap (λ (w : Taken). Ok w) (behind_header d t (used - 1) last (one ∷ more) records size ∙ taken_is)

    whole_is : anew ≡ whole
    whole_is = let both : Ok anew ≡ Ok whole = sym come ∙ here in cc both
