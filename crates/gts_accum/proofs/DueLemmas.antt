-- What is due of the bytes that were taken of a file is short.
use Rattle.gts_accum.proofs.Cited.{ℕ, ◌+◌, ◌<◌, ◌≤◌, List, [], ◌∷◌, length, arith, lt-ltb, append-nil, length-append, length-drop, length-take, Bare, Format, Head, IsNext, IsSound, MOST_DUE, Next, UnpackedParts, Whole, back_of, due, opening, to_come, unpacking_of, common_steps}
use Rattle.gts_accum.specs.declared.next.Next.TheVariants.{Entry}
use Rattle.gts_accum.proofs.ReadLemmas.{length-opening}
use Rattle.gts_accum.proofs.UnpackingLemmas.{head-cut}

pub opening_short : (c : ℕ) (format : Format) (size : ℕ) → length (opening c format size) + 2 ≤ MOST_DUE
opening_short c Whole size = omega (arith, length-opening c Whole size)
opening_short c Bare size = omega (arith, length-opening c Bare size)

pub opening_some : (c : ℕ) (format : Format) (size : ℕ) → 0 < length (opening c format size)
opening_some c format size = omega (arith, length-opening c format size)

pub back_short : (format : Format) → length (back_of format) + 2 ≤ MOST_DUE
back_short Whole = omega arith
back_short Bare = omega arith

-- behind what was made no more than the line of the end is due
line_due : (c : ℕ) (next : Next) (at : ℕ) (held : List ℕ) → IsNext next at held → length (to_come c next at held []).text ≤ 2
line_due c Head at [] is = omega arith
line_due c Head at (b ∷ held) is = grind (arith, common_steps, append-nil, head-cut)
line_due c (Entry format size) at held is = grind (arith, common_steps, length-take, lt-ltb)
line_due c _ at held is = omega arith

pub due_short : {S : Type 0} (parts : UnpackedParts S) → IsSound parts → length (due (unpacking_of parts)) ≤ MOST_DUE
due_short parts sound = grind (arith, common_steps, length-drop, length-append, line_due)
