-- The decoders of the circuits.
use Rattle.gts_replay.proofs.Cited.{◌≡◌, ℕ, zero, suc, ◌+◌, ◌<◌, List, [], ◌∷◌, ◌++◌, length, get_or, set, take, drop, map, replicate, Option, Some, refl, sym, ap, ◌∙◌, arith, length-map, map-set, Circuit, Connections, Decode, Decoding, Directory, fresh, held_in, no_bytes, common_steps}

abbrev held : Decoding → Option (List ℕ)
held d = d.held

-- one more begins a new connection
pub one_more_fresh : (xs : List Decoding) (i : ℕ) → i < length xs → set (map (λ _. fresh) (take i xs) ++ drop i xs) i fresh ≡ map (λ _. fresh) (take (i + 1) xs) ++ drop (i + 1) xs
one_more_fresh [] i lt = absurd (omega arith)
one_more_fresh (x ∷ xs) zero lt = refl
one_more_fresh (x ∷ xs) (suc i) lt = grind (arith, common_steps, one_more_fresh xs i (omega arith))

fresh_each : (n : ℕ) (rows : List Circuit) → n ≡ length rows → map held (replicate n fresh) ≡ map held_in (map (λ _. []) rows)
fresh_each zero [] e = refl
fresh_each zero (row ∷ rows) e = absurd (omega arith)
fresh_each (suc n) [] e = absurd (omega arith)
fresh_each (suc n) (row ∷ rows) e = ap (λ xs. Some [] ∷ xs) (fresh_each n rows (omega arith))

pub decode_fresh : (n : ℕ) (d : Directory) → n ≡ length d.circuits → Decode (replicate n fresh) (no_bytes d)
decode_fresh n d e = fresh_each n d.circuits e

fresh_all : (ds : List Decoding) (rows : List Circuit) → length ds ≡ length rows → map held (map (λ _. fresh) ds) ≡ map held_in (map (λ _. []) rows)
fresh_all [] [] e = refl
fresh_all [] (row ∷ rows) e = absurd (omega arith)
fresh_all (x ∷ ds) [] e = absurd (omega arith)
fresh_all (x ∷ ds) (row ∷ rows) e = ap (λ xs. Some [] ∷ xs) (fresh_all ds rows (omega arith))

pub decode_reopened : (ds : List Decoding) (d : Directory) → length ds ≡ length d.circuits → Decode (map (λ _. fresh) ds) (no_bytes d)
decode_reopened ds d e = fresh_all ds d.circuits e

-- each connection has a decoder
pub decode_each : (ds : List Decoding) (bs : Connections) → Decode ds bs → length ds ≡ length bs
decode_each ds bs e = simp length-map at (ap length e)

-- a decoder holds what its connection's bytes leave open
pub decode_at : (ds : List Decoding) (bs : Connections) (c : ℕ) (x : Decoding) → c < length ds → Decode ds bs → (get_or ds c x).held ≡ held_in (get_or bs c [])
decode_at [] bs c x lt e = absurd (omega arith)
decode_at (y ∷ ds) [] c x lt e = absurd (let f = e in cc)
decode_at (y ∷ ds) (b ∷ bs) zero x lt e = let f = e in cc
decode_at (y ∷ ds) (b ∷ bs) (suc c) x lt e = decode_at ds bs c x (omega arith) (ap (drop 1) e)

-- one decoder and its connection go on
pub decode_set : (ds : List Decoding) (bs : Connections) (c : ℕ) (x : Decoding) (bytes : List ℕ) → Decode ds bs → x.held ≡ held_in bytes → Decode (set ds c x) (set bs c bytes)
decode_set ds bs c x bytes e f = map-set held ds c x ∙ ap (λ xs. set xs c x.held) e ∙ ap (set (map held_in bs) c) f ∙ sym (map-set held_in bs c bytes)
