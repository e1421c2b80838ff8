-- The kinds of BBB groups (profile, made after the Manual).
use Rattle.std.specs.Prelude.{ℕ, ◌+◌, ◌-◌, ◌*◌, ◌&&◌, ◌==◌, List, [], ◌∷◌, Option, Some, None, if◌then◌else◌}
use Rattle.std.specs.Char.{is_ascii_uppercase}
use Rattle.gts_bbb.specs.declared.bbb.Bbb.{Bbb}
use Rattle.gts_bbb.specs.declared.bbb.Bbb.TheVariants.{Delayed, Correction, Amendment, Segment, LastSegment}

-- The kind of three letters: RRx, CCx, AAx, Pxy with x below Z, and PZy. 82, 67, 65, 80 and 90 are R, C, A, P and Z.
abbrev pub kind_of : List ℕ → Option Bbb
kind_of (a ∷ b ∷ c ∷ []) =
    if is_ascii_uppercase c then
    (if (a == 82) && (b == 82) then Some (Delayed c) else
    (if (a == 67) && (b == 67) then Some (Correction c) else
    (if (a == 65) && (b == 65) then Some (Amendment c) else
    (if (a == 80) && (b == 90) then Some (LastSegment c) else
    (if (a == 80) && is_ascii_uppercase b then Some (Segment (26 * (b - 65) + (c - 65))) else None)))))
    else None
kind_of _ = None

-- the place of a segment
abbrev pub place_of : Bbb → Option ℕ
place_of (Segment place) = Some place
place_of _ = None
