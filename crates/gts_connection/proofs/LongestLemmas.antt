-- No byte behind the longest capture is read.
use Rattle.gts_connection.proofs.Cited.{◌≡◌, ℕ, ◌+◌, ◌-◌, ◌≤◌, List, ◌++◌, length, take, min, ap, ◌∙◌, arith, Bad, CaptureKind, Directory, EndHead, EndsEarlyOf, EndsInFeed, EndsInHead, IsWholeOf, LONGEST_CAPTURE, ReadingOf, Step, Whole, flat_map, head_text, readable, step_text, take-append-add, take_all, length-take}
use Rattle.std.proofs.Common.{length-append}
use Rattle.gts_connection.proofs.ReadingLemmas as reading

pub readable-all : (bytes : List ℕ) → length bytes ≤ LONGEST_CAPTURE → readable bytes ≡ bytes
unfolding readable
readable-all bytes short = take_all LONGEST_CAPTURE bytes short

pub readable-behind : (front rest : List ℕ) → length front ≤ LONGEST_CAPTURE
    → readable (front ++ rest) ≡ front ++ take (LONGEST_CAPTURE - length front) rest
unfolding readable
readable-behind front rest short =
    let more : ℕ = LONGEST_CAPTURE - length front in
    let all : LONGEST_CAPTURE ≡ length front + more = omega (arith, short) in
    ap (λ (n : ℕ). take n (front ++ rest)) all ∙ take-append-add front rest more

pub length-readable : (bytes : List ℕ) → length (readable bytes) ≡ min (length bytes) LONGEST_CAPTURE
unfolding readable
length-readable bytes = omega (arith, length-take LONGEST_CAPTURE bytes)

module _ (kind : CaptureKind) (d : Directory) (bytes : List ℕ) where
  pub place-within : (steps : List Step) (at : ℕ) → ReadingOf kind d bytes steps at → at ≤ LONGEST_CAPTURE
  place-within steps at (Whole unread are is place) = omega (arith, place, length-readable bytes)
  place-within steps at (Bad front byte unread are part bad is place) = omega (arith, place, length-readable bytes)
  place-within steps at (EndsInHead front are part is place) = omega (arith, place, length-readable bytes)
  place-within steps at (EndsInFeed before c size piece are valid short s is place) = omega (arith, place, length-readable bytes)

  -- a whole capture, of which nothing behind the longest is looked at
  whole_within : (steps : List Step) (w : IsWholeOf kind d bytes steps)
      → readable bytes ≡ flat_map step_text steps ++ head_text EndHead ++ take (LONGEST_CAPTURE - length (flat_map step_text steps ++ head_text EndHead)) w.unread
  whole_within steps w = ap readable w.text ∙ readable-behind (flat_map step_text steps ++ head_text EndHead) w.unread w.within

  pub whole_is_read : (steps : List Step) → IsWholeOf kind d bytes steps
      → ReadingOf kind d bytes steps (length (flat_map step_text steps ++ head_text EndHead))
  whole_is_read steps w =
      let front : List ℕ = flat_map step_text steps ++ head_text EndHead in
      let unread : List ℕ = take (LONGEST_CAPTURE - length front) w.unread in
      Whole unread w.are (whole_within steps w) (omega (arith, ap length (whole_within steps w), length-append front unread))

  pub early_is_none : (steps others : List Step) (at : ℕ) → length d.circuits ≤ 100 → EndsEarlyOf kind d bytes steps at → IsWholeOf kind d bytes others → ⊥
  early_is_none steps others at few early w =
      reading.early_is_none kind d (readable bytes) steps others at (take (LONGEST_CAPTURE - length (flat_map step_text others ++ head_text EndHead)) w.unread)
      few early w.are (whole_within others w)
