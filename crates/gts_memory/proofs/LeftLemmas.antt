-- Whether the place at the stable end of a file is touched.
use Rattle.gts_memory.proofs.Cited.{◌≡◌, ℕ, ◌+◌, Bool, true, false, ◌&&◌, ◌||◌, nat_le, nat_lt, cond, List, ◌∷◌, length, refl, ap, ◌∙◌, eq-eqb, arith, nat_tests, Broken, Call, Did, Writes, fits, kept_call, seen, stable, touched, touches}

-- a write reaches the place at the stable end exactly where it ends behind it
at_end : (at count end : ℕ) → ((nat_le at end && nat_lt end (at + count)) || (nat_lt end (at + count) && nat_le end end)) ≡ nat_lt end (at + count)
at_end at count end = grind (arith, nat_tests)

abbrev Reaches : ℕ → ℕ → List ℕ → ℕ → Bool
Reaches file at bytes end = touches (Writes file at bytes) end file end

reaches : (file at : ℕ) (bytes : List ℕ) (end : ℕ) → Reaches file at bytes end ≡ nat_lt end (at + length bytes)
reaches file at bytes end =
    ap (λ (t : Bool). t && ((nat_le at end && nat_lt end (at + length bytes)) || (nat_lt end (at + length bytes) && nat_le end end))) (eq-eqb file file refl)
    ∙ at_end at (length bytes) end

by_fit : (file at : ℕ) (bytes left : List ℕ) (calls : List Call) (p : ℕ) (fit : Bool)
    → touched (cond fit (Did (Writes file at bytes)) (Broken (Writes file at bytes) left) ∷ calls) file p
    ≡ (touches (Writes file at bytes) (length (stable calls file)) file p || touched calls file p)
by_fit file at bytes left calls p true = refl
by_fit file at bytes left calls p false = refl

by_done : (done : Bool) (file at : ℕ) (bytes : List ℕ) (calls : List Call) (p : ℕ)
    → touched (kept_call done (Writes file at bytes) calls ∷ calls) file p
    ≡ (touches (Writes file at bytes) (length (stable calls file)) file p || touched calls file p)
by_done true file at bytes calls p = by_fit file at bytes (seen calls file) calls p (fits (Writes file at bytes) calls)
by_done false file at bytes calls p = refl

flip : (a b c d : Bool) → a ≡ b → c ≡ d → (a || c) ≡ (d || b)
flip true true true true e f = refl
flip true true false false e f = refl
flip false false true true e f = refl
flip false false false false e f = refl
flip true false c d e f = absurd (cc e)
flip false true c d e f = absurd (cc e)
flip true true true false e f = absurd (cc f)
flip true true false true e f = absurd (cc f)
flip false false true false e f = absurd (cc f)
flip false false false true e f = absurd (cc f)

pub end_of_write : (done : Bool) (file at : ℕ) (bytes : List ℕ) (calls : List Call) (tail : Bool) → touched calls file (length (stable calls file)) ≡ tail
    → touched (kept_call done (Writes file at bytes) calls ∷ calls) file (length (stable calls file)) ≡ (tail || nat_lt (length (stable calls file)) (at + length bytes))
end_of_write done file at bytes calls tail is =
    by_done done file at bytes calls (length (stable calls file))
    ∙ flip (Reaches file at bytes (length (stable calls file))) (nat_lt (length (stable calls file)) (at + length bytes)) (touched calls file (length (stable calls file))) tail
    (reaches file at bytes (length (stable calls file))) is
