-- The table: what was counted, in lines for the operator, each ended by LF (profile). Numbers are plain decimals.
use Rattle.std.specs.Prelude.{ℕ, ◌+◌, List, [], ◌∷◌, ◌++◌, length, map, fold, flat_map, codes, decimal}
use Rattle.gts_count.specs.Cited.Below.{Directory, Need, Ordering, dec, insert_entry, nat_cmp, slice_cmp}
use Rattle.gts_count.specs.Tally.{Tally, tally, bulletins, bytes, draws, came}

-- the order of bytes
abbrev pub bytes_below : List ℕ → List ℕ → Ordering
bytes_below = slice_cmp nat_cmp

-- one more key, at its place, unless it is there
abbrev pub with_key : List (List ℕ × Unit {0}) → List ℕ → List (List ℕ × Unit {0})
with_key keys key = insert_entry bytes_below keys key tt

-- the keys that are counted: those of the bulletins of the window and of the kept draws, each once, ascending
abbrev pub keys : Tally → List (List ℕ)
keys t = map (λ e. e.0) (fold with_key [] (map (λ r. r.key) t.recent ++ flat_map (λ kept. kept) t.drawn))

-- key TTAAii CCCC bulletins n bytes n draws n
abbrev pub key_text : List ℕ → ℕ → ℕ → ℕ → List ℕ
key_text key bulletins bytes draws =
    codes "key " ++ key ++ codes " bulletins " ++ decimal bulletins ++ codes " bytes " ++ decimal bytes
    ++ codes " draws " ++ decimal draws ++ 10 ∷ []

-- the line of a key
abbrev pub key_line : Tally → List ℕ → List ℕ
key_line t key = key_text key (bulletins t key) (bytes t key) (draws t key)

-- circuit cc came n drew n: its number has two digits
abbrev pub circuit_text : ℕ → ℕ → ℕ → List ℕ
circuit_text c came drew = codes "circuit " ++ dec 2 c ++ codes " came " ++ decimal came ++ codes " drew " ++ decimal drew ++ 10 ∷ []

-- the line of each circuit, where they count from c
abbrev pub circuit_lines : Tally → ℕ → List (List (List ℕ)) → List ℕ
circuit_lines t c [] = []
circuit_lines t c (kept ∷ rest) = circuit_text c (came t c) (length kept) ++ circuit_lines t (c + 1) rest

-- each key, each circuit, and the end
abbrev pub table_of : Tally → List ℕ
table_of t = flat_map (key_line t) (keys t) ++ circuit_lines t 0 t.drawn ++ codes "end" ++ 10 ∷ []

-- the table of a need
abbrev pub table : Directory → Need → List ℕ
table d n = table_of (tally d n)
