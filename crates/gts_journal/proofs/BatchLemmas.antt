-- The steps of appending a batch.
use Rattle.gts_journal.proofs.Cited.{◌≡◌, ◌≢◌, ◌⊎◌, inl, true, false, ℕ, zero, suc, ◌+◌, ◌-◌, ◌<◌, ◌≤◌, cond, List, [], ◌∷◌, ◌++◌, length, take, drop, refl, sym, ◌∙◌, ap, subst, arith, append_assoc, length-append, nat_eq, Call, Did, EachSince, EndsAt, Gathered, Gathers, HasBlock, InHand, IsBlock, IsPossible, LeavesAllOrNone, OnlyTears, ReachesWithin, Record, StandsOn, Syncs, Version, Writes, beyond_block, chain_text, closed_gate, file_of, front_of, held, last_seal, open_gate, opened_part, overwritten, record_text, said_by, seal, sealed, seen, starts_with, texts_of, put_mid, post_of, set, set-append_seam, take-add, append-nil, take_at, length-take, length-take-le, length-drop, map-append, weaker, joined, seen_written, seen_elsewhere, chain_text-append, last_seal-append, common_steps}
use Rattle.gts_journal.proofs.GateLemmas.{gate_at, Staged, torn_behind, written_is, torn_gate, written_gate}
use Rattle.gts_journal.proofs.AppendLemmas.{kept_elsewhere, not_selector, synced_after}

-- a block without the closed gate at its end
pub opened_is : (text : List ℕ) (block : IsBlock text) → opened_part text ≡ open_gate ∷ block.0
opened_is text block = grind (arith, common_steps, take_at)

module _ (old : List Call) (j : InHand) (stands : StandsOn old j) (ended : j.ended ≡ true) (text : List ℕ) (block : IsBlock text) where
  abbrev behind : List ℕ
  behind = block.0

  ends : EndsAt (front_of old j) (file_of old j)
  ends = stands.end_is ended

  at : j.gate ≡ length (front_of old j)
  at = gate_at j.gate (file_of old j) ends

  long : length text ≡ length behind + 2
  long = omega (arith, ap length block.1, length-append behind (closed_gate ∷ []))

  -- the first write and its sync
  pub staged_moments : (n : ℕ) (mid : List Call) → EachSince old mid (OnlyTears old j.file (j.gate + 1) n) → EachSince old mid (LeavesAllOrNone old j text)
  staged_moments n mid each = weaker _ (LeavesAllOrNone old j text) old mid (λ files outside left. record {
    silent = left.silent;
    selector = left.others 2 (not_selector old j stands) stands.selector_synced;
    others = left.others;
    journal = inl (torn_behind (front_of old j) j.gate at n (file_of old j) (files j.file) ends (left.torn stands.file_synced));
  }) each

  module _ (more bytes : List ℕ) (mid : List Call) (is : bytes ≡ behind ++ closed_gate ∷ more) (done : mid ≡ Did Syncs ∷ Did (Writes j.file (j.gate + 1) bytes) ∷ old) where
    abbrev rest : List ℕ
    rest = more ++ drop (j.gate + 1 + length (behind ++ closed_gate ∷ more)) (file_of old j)

    written : seen mid j.file ≡ front_of old j ++ ends.gate ∷ (behind ++ closed_gate ∷ rest)
    written =
        ap (λ (l : List Call). seen l j.file) done ∙ seen_written old j.file (j.gate + 1) bytes
        ∙ ap (λ (l : List ℕ). overwritten (file_of old j) (j.gate + 1) l) is
        ∙ written_is (front_of old j) j.gate at behind more (file_of old j) ends

    abbrev staged_file : Staged (front_of old j) behind (seen mid j.file)
    staged_file = record { gate = ends.gate; behind = rest; closed = ends.closed; is = written }

    elsewhere : (k : ℕ) → k ≢ j.file → seen mid k ≡ seen old k
    elsewhere k other = ap (λ (l : List Call). seen l k) done ∙ seen_elsewhere old j.file (j.gate + 1) bytes k other

    -- and those of the gate
    pub opened_moments : (new : List Call) → EachSince old mid (OnlyTears old j.file (j.gate + 1) (length bytes)) → said_by mid ≡ said_by old
        → EachSince mid new (OnlyTears mid j.file j.gate 1) → EachSince old new (LeavesAllOrNone old j text)
    opened_moments new first silent second =
        joined (LeavesAllOrNone old j text) _ old mid new [] (staged_moments (length bytes) mid first) (silent ∙ sym (append-nil (said_by old))) second
        (λ files later left. record {
          silent = left.silent;
          selector = left.others 2 (not_selector old j stands) (synced_after mid _ 2 done) ∙ elsewhere 2 (not_selector old j stands);
          others = λ k other is. left.others k other (synced_after mid _ k done) ∙ elsewhere k other;
          journal = let P : List ℕ → Type 0 = λ l. EndsAt (front_of old j) (files j.file) ⊎ EndsAt (front_of old j ++ l) (files j.file) in
              subst P (sym (opened_is text block))
              (torn_gate (front_of old j) j.gate at behind (seen mid j.file) (files j.file) staged_file (left.torn (synced_after mid _ j.file done)));
        })

    -- where that write or its sync failed
    pub others_at_fault : (new : List Call) → EachSince mid new (OnlyTears mid j.file j.gate 1) → IsPossible new → (k : ℕ) → k ≢ j.file → seen new k ≡ seen old k
    others_at_fault new second possible k other = kept_elsewhere j.file j.gate 1 mid new second possible k other (synced_after mid _ k done) ∙ elsewhere k other

    module _ (new : List Call) (last : new ≡ Did Syncs ∷ Did (Writes j.file j.gate (open_gate ∷ [])) ∷ mid) where
      added : seen new j.file ≡ front_of old j ++ text ++ rest
      added =
          ap (λ (l : List Call). seen l j.file) last ∙ seen_written mid j.file j.gate (open_gate ∷ [])
          ∙ written_gate (front_of old j) j.gate at behind (seen mid j.file) staged_file
          ∙ ap (λ (l : List ℕ). front_of old j ++ l) (ap (λ (l : List ℕ). open_gate ∷ l) (sym (append_assoc behind (closed_gate ∷ []) rest))
          ∙ ap (λ (l : List ℕ). l ++ rest) (sym block.1))
          ∙ sym (append_assoc (front_of old j) text rest)

      pub has_block : HasBlock old j text (seen new j.file)
      has_block = (rest, added)

      -- nothing but what was written stands behind the end that the file had
      pub reaches : (step : ℕ) → length more ≤ step → ReachesWithin step old j text (seen new j.file)
      reaches step few most was within =
          let n : ℕ = j.gate + 1 + length (behind ++ closed_gate ∷ more) in
          omega (
            arith,
            ap length added,
            length-append (front_of old j ++ text) rest,
            length-append (front_of old j) text,
            length-append more (drop n (file_of old j)),
            length-drop n (file_of old j),
            length-append behind (closed_gate ∷ more),
            at,
            long,
            few,
            was,
            within,
          )

      pub others_after : (k : ℕ) → k ≢ j.file → seen new k ≡ seen old k
      others_after k other = ap (λ (l : List Call). seen l k) last ∙ seen_elsewhere mid j.file j.gate (open_gate ∷ []) k other ∙ elsewhere k other

      -- what stands before the gate at the end, and that gate
      split : seen new j.file ≡ (front_of old j ++ open_gate ∷ behind) ++ closed_gate ∷ rest
      split =
          added ∙ append_assoc (front_of old j) text (rest) ∙ ap (λ (l : List ℕ). front_of old j ++ (l ++ rest)) block.1
          ∙ ap (λ (l : List ℕ). front_of old j ++ open_gate ∷ l) (append_assoc behind (closed_gate ∷ []) (rest))
          ∙ sym (append_assoc (front_of old j) (open_gate ∷ behind) (closed_gate ∷ rest))

      front_after : take (j.gate + (length text - 1)) (seen new j.file) ≡ front_of old j ++ open_gate ∷ behind
      front_after =
          ap (λ (l : List ℕ). take (j.gate + (length text - 1)) l) split
          ∙ take_at (front_of old j ++ open_gate ∷ behind) (closed_gate ∷ rest) (j.gate + (length text - 1))
          (omega (arith, at, long, length-append (front_of old j) (open_gate ∷ behind)))

      ends_after : EndsAt (take (j.gate + (length text - 1)) (seen new j.file)) (seen new j.file)
      ends_after = record {
        gate = closed_gate;
        behind = rest;
        closed = refl;
        is = split ∙ ap (λ (l : List ℕ). l ++ closed_gate ∷ rest) (sym front_after);
      }

      pub stands_after : (seals : List ℕ) → StandsOn new (beyond_block j text seals)
      stands_after seals = record {
        selected_is = ap (λ (l : List ℕ). cond (starts_with nat_eq l (1 ∷ [])) 1 0) (others_after 2 (not_selector old j stands)) ∙ stands.selected_is;
        selector_synced = synced_after new _ 2 last;
        file_synced = synced_after new _ j.file last;
        ahead_is = refl;
        all_is = λ e. absurd (cc e);
        end_is = λ e. ends_after;
      }

-- ---- a batch by its bytes

take-nil : (n : ℕ) → take {A = ℕ} n [] ≡ []
take-nil zero = refl
take-nil (suc n) = refl

-- what is written behind the gate, with so much that stands behind it
pub block_bytes : (text items : List ℕ) (size end : ℕ) (block : IsBlock text) → 0 < size → size ≤ end → take size items ≡ text
    → take (end - 1) (drop 1 items) ≡ block.0 ++ closed_gate ∷ take (end - size) (drop size items)
block_bytes text [] size end block some whole is = absurd (let none : [] ≡ open_gate ∷ (block.0 ++ closed_gate ∷ []) = sym (take-nil size) ∙ is ∙ block.1 in cc none)
block_bytes text (x ∷ xs) zero end block some whole is = absurd (omega (arith, some))
block_bytes text (x ∷ xs) (suc n) end block some whole is =
    let all : x ∷ take n xs ≡ open_gate ∷ (block.0 ++ closed_gate ∷ []) = is ∙ block.1 in
    let own : take n xs ≡ block.0 ++ closed_gate ∷ [] = cc all in
    let more : List ℕ = take (end - suc n) (drop n xs) in
    ap (λ (m : ℕ). take m xs) (let e : end - 1 ≡ n + (end - suc n) = omega (arith, whole) in e)
    ∙ take-add n (end - suc n) xs
    ∙ ap (λ (l : List ℕ). l ++ more) own
    ∙ append_assoc block.0 (closed_gate ∷ []) more

-- a journal behind a batch
pub placed : (k j : InHand) (v : Version) (size : ℕ) (items last : List ℕ) (b : Gathered) → k ≡ j → record { version = v; text = take size items; seal = held v last } ≡ b → b.version ≡ j.version → size ≤ length items
    → record k { gate = k.gate + (size - 1); seal = held k.version last; ahead = []; is_all = false } ≡ beyond_block j b.text b.seal
placed k j v size items last b is view version fits = grind (arith, common_steps, length-take)

-- an open gate is written over the last closed one, then a record with its seal, and a closed gate
pub one_more : (front chained text rest : List ℕ) (size count : ℕ) → front ≡ chained ++ closed_gate ∷ [] → length front ≡ size → length text ≡ count → 0 < length rest
    → take (size + count + 1) (set (set (front ++ (text ++ rest)) (size - 1) open_gate) (size + count) closed_gate) ≡ (chained ++ open_gate ∷ text) ++ closed_gate ∷ []
one_more front chained text [] size count is long texts some = absurd (omega (arith, some))
one_more front chained text (x ∷ rest) size count is long texts some =
    let back : List ℕ = text ++ x ∷ rest in
    let all : List ℕ = chained ++ open_gate ∷ text in
    let at : size - 1 ≡ length chained = omega (arith, ap length is, long, length-append chained (closed_gate ∷ [])) in
    let then : size + count ≡ length all = omega (arith, ap length is, long, texts, length-append chained (closed_gate ∷ []), length-append chained (open_gate ∷ text)) in
    let opened : set (front ++ back) (size - 1) open_gate ≡ all ++ x ∷ rest =
    ap (λ (l : List ℕ). set (l ++ back) (size - 1) open_gate) is
    ∙ ap (λ (l : List ℕ). set l (size - 1) open_gate) (append_assoc chained (closed_gate ∷ []) back)
    ∙ ap (λ (n : ℕ). set (chained ++ closed_gate ∷ back) n open_gate) at
    ∙ set-append_seam chained closed_gate back open_gate
    ∙ sym (append_assoc chained (open_gate ∷ text) (x ∷ rest)) in
    ap (λ (l : List ℕ). take (size + count + 1) (set l (size + count) closed_gate)) opened
    ∙ ap (λ (n : ℕ). take (size + count + 1) (set (all ++ x ∷ rest) n closed_gate)) then
    ∙ ap (λ (l : List ℕ). take (size + count + 1) l) (set-append_seam all x rest closed_gate ∙ sym (append_assoc all (closed_gate ∷ []) rest))
    ∙ take_at (all ++ closed_gate ∷ []) rest (size + count + 1) (omega (arith, then, length-append all (closed_gate ∷ [])))

-- so the records have one more
pub gathers_more : (v : Version) (before last next text : List ℕ) (rs : List Record) (r : Record) → last ≡ last_seal v before (texts_of rs) → next ≡ seal v last (record_text r)
    → text ≡ (chain_text v before (texts_of rs) ++ open_gate ∷ sealed v last (record_text r)) ++ closed_gate ∷ [] → Gathers before (rs ++ r ∷ []) (record { version = v; text = text; seal = next })
gathers_more v before last next text rs r is seals texts = grind (arith, common_steps, map-append, append-nil, chain_text-append, last_seal-append)

module _ (d into chained text : List ℕ) (size count : ℕ) (is : take size d ≡ chained ++ closed_gate ∷ []) (fits : size + count + 1 ≤ length d) (texts : length text ≡ count)
    (written : into ≡ text ++ drop count (take (length d - size) (drop size d))) where
  abbrev back : List ℕ
  back = drop count (take (length d - size) (drop size d))

  abbrev post : List ℕ
  post = post_of size (length d - size) d

  back_long : length back ≡ length d - size - count
  back_long = omega (arith, fits, length-drop count (take (length d - size) (drop size d)), length-take (length d - size) (drop size d), length-drop size d)

  -- so many bytes are there as before
  pub put_long : length (put_mid size (length d - size) d into) ≡ length d
  put_long =
      omega (
        arith,
        fits,
        texts,
        back_long,
        ap length written,
        length-append text back,
        length-take size d,
        length-append (take size d) (into ++ post),
        length-append into post,
        length-drop (length d - size) (drop size d),
        length-drop size d,
      )

  -- and the records have one more
  pub put_more : take (size + count + 1) (set (set (put_mid size (length d - size) d into) (size - 1) open_gate) (size + count) closed_gate) ≡ (chained ++ open_gate ∷ text) ++ closed_gate ∷ []
  put_more =
      ap (λ (l : List ℕ). take (size + count + 1) (set (set (take size d ++ (l ++ post)) (size - 1) open_gate) (size + count) closed_gate)) written
      ∙ ap (λ (l : List ℕ). take (size + count + 1) (set (set (take size d ++ l) (size - 1) open_gate) (size + count) closed_gate)) (append_assoc text back post)
      ∙ one_more (take size d) chained text (back ++ post) size count is (length-take-le size d (omega (arith, fits))) texts (omega (arith, fits, back_long, length-append back post))
