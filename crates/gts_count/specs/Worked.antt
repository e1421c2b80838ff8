-- Worked rows: tables of literal histories.
use Rattle.std.specs.Prelude.{◌≡◌, List, [], ◌∷◌, ◌++◌, flat_map, codes, ℕ}
unfoldable pub use Rattle.std.specs.Fmt.{digits}
use Rattle.gts_count.specs.Cited.Below.{Directory, Entry, Need, after_all, begun, empty, need, nothing}
use Rattle.gts_event.specs.Worked.{two, keeping, heard, first, second, report, take_on, reported, start_of, with_draws}
use Rattle.gts_count.specs.Table.{table}

-- lines, each ended by LF
abbrev pub lines : List (List ℕ) → List ℕ
lines texts = flat_map (λ text. text ++ 10 ∷ []) texts

-- One bulletin, the same once more, one with another text and one with a group, all on circuit A; then B is drained.
abbrev pub four_messages : List Entry
four_messages =
    first ∷ heard 0 (codes "002") report (codes "NIL=") ∷ second ∷ heard 0 (codes "003") (report ++ codes " RRA") (codes "NIL=")
    ∷ take_on 1 ∷ take_on 1 ∷ take_on 1 ∷ take_on 1 ∷ []

-- the table behind these entries, from nothing
abbrev pub table_behind : Directory → List Entry → List ℕ
table_behind d entries = table d (need d (after_all d (empty d) entries))

abbrev pub DuplicateNotCounted : Type 0
DuplicateNotCounted = table_behind two four_messages ≡ lines (codes "key SMVG01 TVSV bulletins 3 bytes 91 draws 3"
    ∷ codes "circuit 00 came 3 drew 0" ∷ codes "circuit 01 came 0 drew 3" ∷ codes "end" ∷ [])

abbrev pub WindowOfOne : Type 0
WindowOfOne = table_behind (keeping 1000 1) four_messages ≡ lines (codes "key SMVG01 TVSV bulletins 1 bytes 33 draws 3"
    ∷ codes "circuit 00 came 1 drew 0" ∷ codes "circuit 01 came 0 drew 3" ∷ codes "end" ∷ [])

-- Behind a start of three bulletins of which only the first is known, a fourth one is accepted, with a window of three.
abbrev pub GapInWindow : Type 0
GapInWindow =
    let start : Need = start_of 3 (reported 0 (codes "NIL=") ∷ []) (with_draws 0 [] []) in
    table (keeping 1000 3) (need (keeping 1000 3) (after_all (keeping 1000 3) (begun start) (second ∷ [])))
    ≡ lines (codes "key SMVG01 TVSV bulletins 1 bytes 29 draws 0" ∷ codes "circuit 00 came 1 drew 0"
    ∷ codes "circuit 01 came 0 drew 0" ∷ codes "end" ∷ [])

abbrev pub NothingYet : Type 0
NothingYet = table two (nothing two) ≡ lines (codes "circuit 00 came 0 drew 0" ∷ codes "circuit 01 came 0 drew 0" ∷ codes "end" ∷ [])
