-- The bytes of a connection, piece by piece, and the entries that they add.
use Rattle.gts_replay.proofs.Cited.{◌≡◌, ℕ, ◌-◌, List, [], ◌++◌, length, take, drop, Err, inl, inr, sym, ap, subst, ◌∙◌, arith, append-nil, take_all, BreaksOff, Decoding, Entry, IsFed, IsSettling, MayHaveSettled, Standing, Stands, SwitchFault, all_done, events_added, held_in, added-twice, common_steps}
use Rattle.std.proofs.Common.{length-drop}
use Rattle.std.proofs.lemmas.List.{append_assoc}
use Rattle.gts_replay.proofs.GoingLemmas.{all_done-append, stands_same, stands_settled, settles_all, settles_not, within_all, then_goes, breaks_before}

-- what two pieces add
pub done_twice : (c : ℕ) (before x y : List ℕ) → all_done (events_added c before (x ++ y)) ≡ all_done (events_added c before x) ++ all_done (events_added c (before ++ x) y)
done_twice c before x y = ap all_done (added-twice c before x y) ∙ all_done-append (events_added c before x) (events_added c (before ++ x) y)

nothing_added : (c : ℕ) (before : List ℕ) → events_added c before [] ≡ []
nothing_added c before = grind (arith, common_steps, added-twice, append-nil)

module _ {O W : Type 0} (meanings : Standing O W) (c : ℕ) (old : Decoding) (begun : W) where
  pub fed_none : IsFed meanings c old begun [] old begun
  fed_none = grind (arith, common_steps, append-nil, stands_same, nothing_added)

  -- a piece more was dealt with
  pub fed_piece : (bytes piece : List ℕ) (decoder next : Decoding) (now later : W)
      → IsFed meanings c old begun bytes decoder now
      → ((before : List ℕ) → decoder.held ≡ held_in before → next.held ≡ held_in (before ++ piece))
      → ((before : List ℕ) (o : O) (first : ℕ) (h : List Entry) → decoder.held ≡ held_in before → Stands meanings o first h now → Stands meanings o first (h ++ all_done (events_added c before piece)) later)
      → IsFed meanings c old begun (bytes ++ piece) next later
  fed_piece bytes piece decoder next now later fed held goes = record {
    held = λ before is. held (before ++ bytes) (fed.held before is) ∙ ap held_in (append_assoc before bytes piece);
    adds = λ before o first h is stands.
        let front : List Entry = all_done (events_added c before bytes) in
        let more = goes (before ++ bytes) o first (h ++ front) (fed.held before is) (fed.adds before o first h is stands) in
        stands_same meanings o first ((h ++ front) ++ all_done (events_added c (before ++ bytes) piece)) (h ++ all_done (events_added c before (bytes ++ piece))) later
        (append_assoc h front (all_done (events_added c (before ++ bytes) piece)) ∙ ap (λ (x : List Entry). h ++ x) (sym (done_twice c before bytes piece))) more;
  }

  -- what was gathered of it was settled
  pub fed_settled : (bytes : List ℕ) (decoder : Decoding) (now later : W) → IsFed meanings c old begun bytes decoder now → MayHaveSettled meanings now later → IsFed meanings c old begun bytes decoder later
  fed_settled bytes decoder now later fed (inl is) = subst (λ w. IsFed meanings c old begun bytes decoder w) (sym is) fed
  fed_settled bytes decoder now later fed (inr settling) = record {
    held = fed.held;
    adds = λ before o first h is stands.
        let x : List Entry = h ++ all_done (events_added c before bytes) in
        let there = fed.adds before o first h is stands in
        stands_settled meanings o first x later (within_all meanings o first x now there) (settles_all meanings o first x now later tt there settling);
  }

  -- settling it failed
  pub breaks_settling : (bytes : List ℕ) (decoder : Decoding) (now later : W) (fault : SwitchFault) → IsFed meanings c old begun bytes decoder now → IsSettling meanings (Err fault) now later
      → (before : List ℕ) (o : O) (first : ℕ) (h : List Entry) → old.held ≡ held_in before → Stands meanings o first h begun
      → BreaksOff meanings (λ _. o) first h (all_done (events_added c before bytes)) fault later
  breaks_settling bytes decoder now later fault fed settling before o first h is stands =
      let front : List Entry = all_done (events_added c before bytes) in
      let broken = settles_not meanings o first (h ++ front) [] now later fault (fed.adds before o first h is stands) settling in
      let all = then_goes meanings o first h front [] (Err fault) later broken in
      subst (λ (x : List Entry). BreaksOff meanings (λ _. o) first h x fault later) (append-nil front) all

  -- a piece broke off
  pub breaks_piece : (bytes piece : List ℕ) (decoder : Decoding) (now later : W) (fault : SwitchFault)
      → IsFed meanings c old begun bytes decoder now
      → ((before : List ℕ) (o : O) (first : ℕ) (h : List Entry) → decoder.held ≡ held_in before → Stands meanings o first h now
      → BreaksOff meanings (λ _. o) first h (all_done (events_added c before piece)) fault later)
      → (before : List ℕ) (o : O) (first : ℕ) (h : List Entry) → old.held ≡ held_in before → Stands meanings o first h begun
      → BreaksOff meanings (λ _. o) first h (all_done (events_added c before (bytes ++ piece))) fault later
  breaks_piece bytes piece decoder now later fault fed goes before o first h is stands =
      let front : List Entry = all_done (events_added c before bytes) in
      let more = goes (before ++ bytes) o first (h ++ front) (fed.held before is) (fed.adds before o first h is stands) in
      let all = then_goes meanings o first h front (all_done (events_added c (before ++ bytes) piece)) (Err fault) later more in
      subst (λ (x : List Entry). BreaksOff meanings (λ _. o) first h x fault later) (sym (done_twice c before bytes piece)) all

  -- and what stands behind it was not dealt with
  pub breaks_rest : (bytes x rest : List ℕ) (decoder : Decoding) (now later : W) (fault : SwitchFault)
      → IsFed meanings c old begun bytes decoder now
      → ((before : List ℕ) (o : O) (first : ℕ) (h : List Entry) → decoder.held ≡ held_in before → Stands meanings o first h now
      → BreaksOff meanings (λ _. o) first h (all_done (events_added c before x)) fault later)
      → (before : List ℕ) (o : O) (first : ℕ) (h : List Entry) → old.held ≡ held_in before → Stands meanings o first h begun
      → BreaksOff meanings (λ _. o) first h (all_done (events_added c before (bytes ++ (x ++ rest)))) fault later
  breaks_rest bytes x rest decoder now later fault fed goes before o first h is stands =
      let broken = breaks_piece bytes x decoder now later fault fed goes before o first h is stands in
      let front : List Entry = all_done (events_added c before (bytes ++ x)) in
      let behind : List Entry = all_done (events_added c (before ++ (bytes ++ x)) rest) in
      let same : front ++ behind ≡ all_done (events_added c before (bytes ++ (x ++ rest))) =
      sym (done_twice c before (bytes ++ x) rest) ∙ ap (λ (l : List ℕ). all_done (events_added c before l)) (append_assoc bytes x rest) in
      subst (λ (l : List Entry). BreaksOff meanings (λ _. o) first h l fault later) same (breaks_before meanings o first h front behind fault later broken)

-- a slice from a place on
pub slice_from : (n : ℕ) (xs : List ℕ) → take (length xs - n) (drop n xs) ≡ drop n xs
slice_from n xs = take_all (length xs - n) (drop n xs) (omega (arith, length-drop n xs))
