-- What changes for circuits, one circuit after another.
use Rattle.gts_report.proofs.Cited.{◌≡◌, ℕ, ◌+◌, List, [], ◌∷◌, ◌++◌, flat_map, sym, ap, ◌∙◌, arith, Directory, Need, range_with_len, circuit_lines, flat_map-append, map-id, append-nil, map-range_with_len_more}

range_more : (n : ℕ) → range_with_len 0 (n + 1) ≡ range_with_len 0 n ++ n ∷ []
range_more n =
    sym (map-id (range_with_len 0 (n + 1))) ∙ map-range_with_len_more (λ (x : ℕ). x) 0 n n (omega arith)
    ∙ ap (λ (l : List ℕ). l ++ n ∷ []) (map-id (range_with_len 0 n))

-- one circuit more
pub circuits_more : (new old : Directory) (before behind : Need) (n : ℕ)
    → flat_map (circuit_lines new old before behind) (range_with_len 0 (n + 1))
    ≡ flat_map (circuit_lines new old before behind) (range_with_len 0 n) ++ circuit_lines new old before behind n
circuits_more new old before behind n =
    let f : ℕ → List ℕ = circuit_lines new old before behind in
    ap (flat_map f) (range_more n) ∙ flat_map-append f (range_with_len 0 n) (n ∷ [])
    ∙ ap (λ (l : List ℕ). flat_map f (range_with_len 0 n) ++ l) (append-nil (f n))
