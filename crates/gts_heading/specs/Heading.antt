-- The abbreviated heading, and how it is spelled (the Manual's message format).
use Rattle.std.specs.Prelude.{◌≡◌, ◌⊎◌, ℕ, ◌<◌, ◌≤◌, Bool, nat_eq, List, [], ◌∷◌, ◌++◌, length, Option, Some, None, IsTrue}
use Rattle.gts_heading.specs.Cited.Below.{EOL, dec, pointwise}
use Rattle.gts_heading.specs.Letters.{are_capitals, is_group}
use Rattle.gts_heading.specs.declared.heading.Heading.{Heading}

-- TTAAii CCCC YYGGgg BBB: a heading by its fields
pub record HeadingFields : Type 0 where
  pub tt : List ℕ
  pub aa : List ℕ
  pub ii : ℕ
  pub cccc : List ℕ
  pub day : ℕ
  pub hour : ℕ
  pub minute : ℕ
  pub bbb : Option (List ℕ)

-- each field is in its range
pub record IsHeading (h : HeadingFields) : Type 0 where
  pub tt : (length h.tt ≡ 2) × IsTrue (are_capitals h.tt)
  pub aa : (length h.aa ≡ 2) × IsTrue (are_capitals h.aa)
  pub ii : h.ii < 100
  pub cccc : (length h.cccc ≡ 4) × IsTrue (are_capitals h.cccc)
  pub day : (1 ≤ h.day) × (h.day ≤ 31)
  pub hour : h.hour < 24
  pub minute : h.minute < 60
  pub bbb : IsTrue (is_group h.bbb)

-- a blank and the letters, where there is a group
abbrev pub group_text : Option (List ℕ) → List ℕ
group_text None = []
group_text (Some letters) = 32 ∷ letters

-- the 18 or 22 bytes of a heading
unfoldable pub heading_text : HeadingFields → List ℕ
heading_text h =
    h.tt ++ h.aa ++ dec 2 h.ii ++ 32 ∷ [] ++ h.cccc ++ 32 ∷ [] ++ dec 2 h.day ++ dec 2 h.hour ++ dec 2 h.minute ++ group_text h.bbb

-- equal in all fields, the BBB group included
abbrev pub is_same_heading : HeadingFields → HeadingFields → Bool
is_same_heading a b = pointwise nat_eq (heading_text a) (heading_text b)

-- one meaningless blank, or none (profile)
abbrev pub IsGap : List ℕ → Type 0
IsGap gap = (gap ≡ []) ⊎ (gap ≡ 32 ∷ [])

-- the line of a heading in a message: behind the heading one meaningless blank or none, and CR CR LF
abbrev pub IsHeadingLine : List ℕ → HeadingFields → Type 0
IsHeadingLine line h = (gap : List ℕ) × IsGap gap × (line ≡ heading_text h ++ gap ++ EOL)

-- the fields of a heading of the program
abbrev pub fields_of : Heading → HeadingFields
fields_of h = record { tt = h.tt; aa = h.aa; ii = h.ii; cccc = h.cccc; day = h.day; hour = h.hour; minute = h.minute; bbb = h.bbb }
