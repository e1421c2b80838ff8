-- The seal of bytes that are read piece by piece.
use Rattle.gts_checkpoint.proofs.Cited.{common_steps, ◌≡◌, ℕ, ◌+◌, ◌-◌, ◌<◌, ◌≤◌, Bool, true, false, ◌&&◌, nat_eq, List, [], ◌∷◌, ◌++◌, length, take, drop, refl, sym, ap, ◌∙◌, append_assoc, take-append-drop, length-append, arith, Option, Some, IfSome, BeginsWith, Call, Version, bytes_from, held, is_sealed, pointwise, seal, seal_size, starts_with, take_at, take_all, take-append-le, length-take-le, length-seal}
use Rattle.gts_checkpoint.proofs.PieceLemmas.{behind}

-- what stands behind the first bytes
rest_is : (calls : List Call) (file done : ℕ) → done ≤ length (bytes_from calls file 41) → bytes_from calls file (41 + done) ≡ drop done (bytes_from calls file 41)
rest_is calls file done there =
    let all : List ℕ = bytes_from calls file 41 in
    behind calls file 41 done (take done all) (drop done all) (sym (take-append-drop done all)) (length-take-le done all there)

-- one piece more
pub piece_there : (calls : List Call) (file done : ℕ) (part : List ℕ) → done ≤ length (bytes_from calls file 41) → BeginsWith (bytes_from calls file (41 + done)) part
    → take done (bytes_from calls file 41) ++ part ≡ take (done + length part) (bytes_from calls file 41)
piece_there calls file done part there begins =
    let all : List ℕ = bytes_from calls file 41 in
    let front : List ℕ = take done all in
    let is : all ≡ (front ++ part) ++ begins.0 =
    sym (take-append-drop done all) ∙ ap (λ (l : List ℕ). front ++ l) (sym (rest_is calls file done there) ∙ begins.1) ∙ sym (append_assoc front part begins.0) in
    let long : length (front ++ part) ≡ done + length part = omega (arith, length-append front part, length-take-le done all there) in
    sym (ap (take (done + length part)) is ∙ take_at (front ++ part) begins.0 (done + length part) long)

-- so many bytes are left
pub left_there : (calls : List Call) (file done : ℕ) → done ≤ length (bytes_from calls file 41) → done + length (bytes_from calls file (41 + done)) ≡ length (bytes_from calls file 41)
left_there calls file done there = grind (arith, common_steps, length-take-le, rest_is)

-- a text that is no longer than a front stands at the front of all where it does at that of the front
pub starts_front : (front rest s : List ℕ) → length s ≤ length front → starts_with nat_eq (front ++ rest) s ≡ starts_with nat_eq front s
starts_front front rest s few = ap (pointwise nat_eq s) (take-append-le (length s) front rest few)

-- the seal is looked for in as many bytes as it has
pub sealed_there : (v : Version) (before : List ℕ) (calls : List Call) (file size : ℕ) (found last : List ℕ) → size ≤ length (bytes_from calls file 41) → BeginsWith (bytes_from calls file (41 + size)) found
    → length found ≡ seal_size v → last ≡ seal v before (take size (bytes_from calls file 41))
    → starts_with nat_eq found last ≡ is_sealed v before (take size (bytes_from calls file 41)) (bytes_from calls file 41)
sealed_there v before calls file size found last there begins long last_is = grind (arith, common_steps, last_is, length-seal, length-take-le, rest_is, starts_front)

-- ---- too few bytes

never : (b : Bool) → (b && false) ≡ false
never true = refl
never false = refl

pointwise_short : (xs ys : List ℕ) → length ys < length xs → pointwise nat_eq xs ys ≡ false
pointwise_short [] ys few = absurd (omega (arith, few))
pointwise_short (x ∷ xs) [] few = refl
pointwise_short (x ∷ xs) (y ∷ ys) few = ap (λ (b : Bool). nat_eq x y && b) (pointwise_short xs ys (omega (arith, few))) ∙ never (nat_eq x y)

sealed_short : (v : Version) (before all : List ℕ) (size : ℕ) → size ≤ length all → length all < size + seal_size v → is_sealed v before (take size all) all ≡ false
sealed_short v before all size there few = grind (arith, common_steps, length-seal, length-take-le, pointwise_short, take_all)

-- too few bytes are left for the seal
pub sealed_not : (v : Version) (before : List ℕ) (calls : List Call) (file size : ℕ) → size ≤ length (bytes_from calls file 41) → length (bytes_from calls file (41 + size)) < seal_size v
    → is_sealed v before (take size (bytes_from calls file 41)) (bytes_from calls file 41) ≡ false
sealed_not v before calls file size there few = sealed_short v before (bytes_from calls file 41) size there (omega (arith, left_there calls file size there, few))

-- ---- what was found while nothing was written

pub same_place : (P : List ℕ → Type 0) (now calls : List Call) (file at done : ℕ) → now ≡ calls → at ≡ done → P (bytes_from now file (41 + at)) → P (bytes_from calls file (41 + done))
same_place P now calls file at done told is here = grind (arith, common_steps)

-- as many bytes are there as are wanted
pub enough : (calls : List Call) (file done size count : ℕ) → done ≤ size → size ≤ length (bytes_from calls file 41) → count ≤ size - done → length (bytes_from calls file (41 + done)) < count → ⊥
enough calls file done size count inside there wanted few = omega (arith, left_there calls file done (omega (arith, inside, there)), inside, there, wanted, few)

pub last_is : (v : Version) (calls now : List Call) (file size : ℕ) (before : List ℕ) (found : Option (List ℕ)) (last : List ℕ) → found ≡ Some last → now ≡ calls
    → IfSome found (λ l. held v l ≡ seal v (held v before) (take size (bytes_from now file 41))) → held v last ≡ seal v (held v before) (take size (bytes_from calls file 41))
last_is v calls now file size before found last is told there = grind (arith, common_steps)
