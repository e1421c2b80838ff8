-- What a feed comes to that begins with a checkpoint, by the bytes that were read of it.
use Rattle.gts_standby.proofs.Cited.{◌≡◌, ℕ, ◌+◌, ◌-◌, ◌^◌, ◌<◌, ◌≤◌, Bool, true, false, ◌&&◌, cond, nat_eq, nat_lt, List, ◌++◌, length, take, drop, Some, refl, sym, ap, subst, ◌∙◌, arith, Option, None, IfSome, IfNone, Bad, BeginsWith, Behind, Breaks, Broken, Cut, Directory, Diverged, Done, Feed, FollowEnd, InHand, IsCheckpoint, IsEnd, IsPutEnd, Need, Open, Piece, Reached, Sealed, Short, SourceFault, Taken, Version, add_all, admits_checkpoint, begin_with, begun, begun_taken, behind_checkpoint, by_piece, checkpoint_by, checkpoint_piece, checkpoint_text, compacted_bytes, first_seal, held, is_sealed, need_in, need_of, seal, seal_size, stopped, written, and_parts, and_from, eqb-true, eq-eqb, ltb-false, length-take, take-append-le, admitted, need_read, text_there, common_steps}
use Rattle.std.proofs.lemmas.List.{take-append-drop}
use Rattle.gts_opening.proofs.LawLemmas.{need_in-text, fits-sound}
use Rattle.gts_checkpoint.proofs.ReadLemmas.{may_begin}
use Rattle.gts_event.specs.declared.values.Need as values

-- ---- the ends of writing

pub put_ends : (answer : FollowEnd) → IsPutEnd answer → IsEnd answer → ⊥
put_ends Done kind end = kind
put_ends (Feed at) kind end = kind
put_ends (Open fault) kind end = kind
put_ends (Diverged index own fed) kind end = kind
put_ends SourceFault kind end = kind
put_ends _ kind end = end

-- ---- what was decoded

pub found_there : (d : Directory) (bytes : List ℕ) (o : Option values.Need) (n : values.Need) → IfSome o (λ (m : values.Need). IsCheckpoint written d bytes (need_of m)) → o ≡ Some n → IsCheckpoint written d bytes (need_of n)
found_there d bytes o n found is = subst (λ (p : Option values.Need). IfSome p (λ (m : values.Need). IsCheckpoint written d bytes (need_of m))) is found

pub none_found : {X P : Type 0} (o : Option X) → IfNone o P → o ≡ None → P
none_found {X} {P} o none is = subst (λ (p : Option X). IfNone p P) is none

-- ---- the piece

-- so many bytes are the checkpoint, and its seal stands behind them
pub record StandsSealed (v : Version) (limit : ℕ) (before fed : List ℕ) (size text : ℕ) : Type 0 where
  pub size_is : text + seal_size v ≡ size
  pub there : size ≤ length fed
  pub stands : is_sealed v before (take text fed) fed ≡ true
  pub reached : behind_checkpoint limit fed ≡ Behind text

pub sealed_parts : (v : Version) (limit : ℕ) (before fed : List ℕ) (size : ℕ) (last : List ℕ) → checkpoint_piece v limit before fed ≡ Sealed size last → StandsSealed v limit before fed size (size - seal_size v)
sealed_parts v limit before fed size last is = by_reached (behind_checkpoint limit fed) refl is
  where
    by_tests : (k : ℕ) (cut stands : Bool) → behind_checkpoint limit fed ≡ Behind k → nat_lt (length fed) (k + seal_size v) ≡ cut → is_sealed v before (take k fed) fed ≡ stands
        → cond cut Cut (cond stands (Sealed (k + seal_size v) (seal v before (take k fed))) Broken) ≡ Sealed size last → StandsSealed v limit before fed size (size - seal_size v)
    by_tests k true stands reached few s e = absurd (cc e)
    by_tests k false false reached few s e = absurd (cc e)
    by_tests k false true reached few s e =
        let whole : k + seal_size v ≡ size = cc e in
        let at : k ≡ size - seal_size v = omega (arith, whole) in
        subst (λ (m : ℕ). StandsSealed v limit before fed size m) at
        (record { size_is = whole; there = omega (arith, ltb-false (length fed) (k + seal_size v) few, whole); stands = s; reached = reached })

    by_reached : (r : Reached) → behind_checkpoint limit fed ≡ r → checkpoint_by v before fed r ≡ Sealed size last → StandsSealed v limit before fed size (size - seal_size v)
    by_reached Short reached e = absurd (cc e)
    by_reached Bad reached e = absurd (cc e)
    by_reached (Behind k) reached e = by_tests k (nat_lt (length fed) (k + seal_size v)) (is_sealed v before (take k fed) fed) reached refl refl e

-- it is that of the feed beside a journal of the directory
pub piece_of : (d : Directory) (v : Version) (limit : ℕ) (mark before fed : List ℕ) (piece : Piece) → v ≡ written → limit ≡ d.limit → mark ≡ d.mark → held v before ≡ first_seal v mark
    → checkpoint_piece v limit (held v before) fed ≡ piece → checkpoint_piece written d.limit (first_seal written d.mark) fed ≡ piece
piece_of d v limit mark before fed piece version most ours first is = grind (arith, common_steps)

-- ---- what it comes to

-- the feed is added behind the checkpoint
abbrev pub behind_it : Directory → List ℕ → List ℕ → ℕ → ℕ → Need → Taken
behind_it d fed last gate size n = record (add_all written d (length fed) last (begun n) gate (40 + size) (drop size fed)) { begins = Some n }

module _ (d : Directory) (fed bytes left : List ℕ) (size : ℕ) (last : List ℕ) (limit : d.limit < 256 ^ 4) (read : fed ≡ bytes ++ left) (low : size ≤ length bytes)
    (piece : checkpoint_piece written d.limit (first_seal written d.mark) fed ≡ Sealed size last) where
  abbrev first : List ℕ
  first = first_seal written d.mark

  -- the bytes before the seal
  abbrev count : ℕ
  count = size - seal_size written

  parts : StandsSealed written d.limit first fed size count
  parts = sealed_parts written d.limit first fed size last piece

  front : take count fed ≡ take count bytes
  front = ap (take count) read ∙ take-append-le count bytes left (omega (arith, low))

  -- where a checkpoint was read
  pub begins_so : (n : Need) → IsCheckpoint written d (take count bytes) n → begin_with written d first size fed (need_in fed) ≡ behind_it d fed (seal written first (checkpoint_text n)) (compacted_bytes written n - 1) size n
  begins_so n cp =
      let text : take count fed ≡ checkpoint_text n = front ∙ cp.text in
      let begins : BeginsWith fed (checkpoint_text n) = (drop count fed, sym (take-append-drop count fed) ∙ ap (λ (l : List ℕ). l ++ drop count fed) text) in
      let fits = fits-sound written d n cp.sound (omega (arith, limit, cp.room)) in
      let is : need_in fed ≡ n = need_read fed n begins fits cp.free in
      let stands : is_sealed written (first_seal written d.mark) (checkpoint_text n) fed ≡ true =
      ap (λ (l : List ℕ). is_sealed written first l fed) (sym text) ∙ parts.stands in
      let may : admits_checkpoint written d fed n ≡ true = admitted written d fed n begins stands cp.sound cp.room in
      let long : length (checkpoint_text n) ≡ count = omega (arith, ap (λ (l : List ℕ). length l) cp.text, length-take count bytes, low) in
      let whole : nat_eq (length (checkpoint_text n) + seal_size written) size ≡ true = eq-eqb (length (checkpoint_text n) + seal_size written) size (omega (arith, long, parts.size_is)) in
      ap (begin_with written d first size fed) is
      ∙ ap (λ (b : Bool). cond b (behind_it d fed (seal written first (checkpoint_text n)) (compacted_bytes written n - 1) size n) (stopped (Breaks 40))) (and_from _ _ may whole)

  -- as the journal stands that begins with it
  pub begun_so : (n : Need) (next : InHand) → IsCheckpoint written d (take count bytes) n → next.seal ≡ seal written (first_seal written d.mark) (checkpoint_text n) → next.gate + 1 ≡ compacted_bytes written n
      → begin_with written d first size fed (need_in fed) ≡ behind_it d fed next.seal next.gate size n
  begun_so n next cp seal_is gate_is =
      begins_so n cp
      ∙ ap (λ (b : List ℕ). behind_it d fed b (compacted_bytes written n - 1) size n) (sym seal_is)
      ∙ ap (λ (k : ℕ). behind_it d fed next.seal k size n) (let at : compacted_bytes written n - 1 ≡ next.gate = omega (arith, gate_is) in at)

  pub begins_with : (n : Need) → IsCheckpoint written d (take count bytes) n → (begun_taken d fed).begins ≡ Some n
  begins_with n cp =
      ap (λ (p : Piece). (by_piece 40 p (λ k b. begin_with written d first k fed (need_in fed))).begins) piece ∙ ap (λ (t : Taken). t.begins) (begins_so n cp)

  -- where none was
  pub checkpoint_there : (n : Need) → need_in fed ≡ n → (admits_checkpoint written d fed n && nat_eq (length (checkpoint_text n) + seal_size written) size) ≡ true → IsCheckpoint written d (take count bytes) n
  checkpoint_there n is e =
      let both = and_parts (admits_checkpoint written d fed n) (nat_eq (length (checkpoint_text n) + seal_size written) size) e in
      let may = may_begin written d fed n both.0 in
      let whole : length (checkpoint_text n) + seal_size written ≡ size = eqb-true (length (checkpoint_text n) + seal_size written) size both.1 in
      record {
        text = sym front ∙ text_there fed n count may.begins (omega (arith, whole));
        sound = may.sound;
        free = sym (need_in-text n may.begins.0 (fits-sound written d n may.sound (omega (arith, limit, may.room)))) ∙ ap need_in (sym may.begins.1) ∙ is;
        room = may.room;
      }

  pub none_begins : ((n : Need) → IsCheckpoint written d (take count bytes) n → ⊥) → begun_taken d fed ≡ stopped (Breaks 40)
  none_begins none =
      let n : Need = need_in fed in
      ap (λ (p : Piece). by_piece 40 p (λ k b. begin_with written d first k fed n)) piece
      ∙ refused (admits_checkpoint written d fed n && nat_eq (length (checkpoint_text n) + seal_size written) size) refl
    where
      refused : (b : Bool) → (admits_checkpoint written d fed (need_in fed) && nat_eq (length (checkpoint_text (need_in fed)) + seal_size written) size) ≡ b
          → cond b (behind_it d fed (seal written first (checkpoint_text (need_in fed))) (compacted_bytes written (need_in fed) - 1) size (need_in fed)) (stopped (Breaks 40)) ≡ stopped (Breaks 40)
      refused false e = refl
      refused true e = absurd (none (need_in fed) (checkpoint_there (need_in fed) refl e))
