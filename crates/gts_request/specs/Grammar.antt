-- The text of a request as a concatenation of its lines, and where a text that is none goes no further (profile, after the
-- Manual's form). Nothing here reads from left to right.
use Rattle.std.specs.Prelude.{◌≡◌, ◌⊎◌, ℕ, ◌^◌, ◌<◌, false, nat_eq, List, [], ◌∷◌, ◌++◌, length, map, Ok, IsTrue, codes}
use Rattle.gts_request.specs.Cited.Below.{AllByRecursion, EOL, HeadingFields, IsCount, IsHeading, are_capitals, bare_heading_at, dec, heading_text, starts_with}
use Rattle.gts_request.specs.declared.fault.RequestField.{RequestField}
use Rattle.gts_request.specs.declared.fault.RequestField.TheVariants.{Asker, LineStart, Number, AskedHeading, LineEnd}
use Rattle.gts_request.specs.declared.line.Line.{Line}
use Rattle.gts_request.specs.declared.line.Line.TheVariants.{Sqn, Ahd}
use Rattle.gts_request.specs.Request.{Item, Numbers, OfHeading, run_at}

-- ---- a line

-- an item as it is spelled: a number, a first and a last one, or a heading
pub data Entry : Type 0 where
  One : (digits number : ℕ) → Entry
  Range : (digits first last : ℕ) → Entry
  Latest : (heading : HeadingFields) → Entry

-- `-` (45) stands between the first number and the last
abbrev pub entry_text : Entry → List ℕ
entry_text (One digits number) = dec digits number
entry_text (Range digits first last) = dec digits first ++ 45 ∷ dec digits last
entry_text (Latest heading) = heading_text heading

abbrev pub asked : Entry → Item
asked (One digits number) = Numbers digits number number
asked (Range digits first last) = Numbers digits first last
asked (Latest heading) = OfHeading heading

-- what a line of a kind may ask for
abbrev pub IsEntry : Line → Entry → Type 0
IsEntry Sqn (One digits number) = IsCount digits × (number < 10 ^ digits)
IsEntry Sqn (Range digits first last) = IsCount digits × (first < 10 ^ digits) × (last < 10 ^ digits)
IsEntry Sqn (Latest heading) = ⊥
IsEntry Ahd (One digits number) = ⊥
IsEntry Ahd (Range digits first last) = ⊥
IsEntry Ahd (Latest heading) = IsHeading heading

-- entries with `/` (47) behind each
abbrev pub slashed : List Entry → List ℕ
slashed [] = []
slashed (entry ∷ more) = entry_text entry ++ 47 ∷ slashed more

-- CR CR LF, the word of the kind, and a blank
abbrev pub line_start : Line → List ℕ
line_start Sqn = EOL ++ codes "SQN "
line_start Ahd = EOL ++ codes "AHD "

-- a line: its kind, the entries before its last one, and that
pub record AskedLine : Type 0 where
  pub kind : Line
  pub before : List Entry
  pub last : Entry

abbrev pub IsLine : AskedLine → Type 0
IsLine line = AllByRecursion (IsEntry line.kind) line.before × IsEntry line.kind line.last

-- behind the last entry of a line stands `=` (61)
abbrev pub line_text : AskedLine → List ℕ
line_text line = line_start line.kind ++ slashed line.before ++ entry_text line.last ++ 61 ∷ []

abbrev pub line_items : AskedLine → List Item
line_items line = map asked line.before ++ asked line.last ∷ []

-- ---- a text

abbrev pub lines_text : List AskedLine → List ℕ
lines_text [] = []
lines_text (line ∷ more) = line_text line ++ lines_text more

abbrev pub lines_items : List AskedLine → List Item
lines_items [] = []
lines_items (line ∷ more) = line_items line ++ lines_items more

-- four capitals
abbrev pub IsAsker : List ℕ → Type 0
IsAsker asker = (length asker ≡ 4) × IsTrue (are_capitals asker)

-- the text is an asker and one or more lines, which ask for these items
pub record IsRequestFor (text : List ℕ) (items : List Item) : Type 0 where
  pub asker : List ℕ
  pub line : AskedLine
  pub more : List AskedLine
  pub is_asker : IsAsker asker
  pub are_lines : AllByRecursion IsLine (line ∷ more)
  pub spelled : text ≡ asker ++ lines_text (line ∷ more)
  pub asked_for : items ≡ lines_items (line ∷ more)

-- ---- a text that goes no further

abbrev pub Lacks : List ℕ → List ℕ → Type 0
Lacks word bytes = starts_with nat_eq bytes word ≡ false

-- No more of an entry stands behind it: no digit, after a single number no `-`, and what its heading's reading leaves.
abbrev pub EndsBefore : List ℕ → Entry → Type 0
EndsBefore rest (One digits number) = (run_at rest ≡ 0) × Lacks (45 ∷ []) rest
EndsBefore rest (Range digits first last) = run_at rest ≡ 0
EndsBefore rest (Latest heading) = bare_heading_at (heading_text heading ++ rest) ≡ Ok (heading, rest)

-- the run of digits here is no number; or it is the first one of a range, and the run behind `-` hasn't as many digits
abbrev pub LacksNumber : List ℕ → Type 0
LacksNumber bytes =
    (IsCount (run_at bytes) → ⊥)
    ⊎ ((digits number : ℕ) × (rest : List ℕ) × IsCount digits × (number < 10 ^ digits)
    × (bytes ≡ dec digits number ++ 45 ∷ rest) × (run_at rest ≡ digits → ⊥))

abbrev pub LacksHeading : List ℕ → Type 0
LacksHeading bytes = (found : HeadingFields × List ℕ) → bare_heading_at bytes ≡ Ok found → ⊥

-- where an entry must stand, the first field that isn't there
abbrev pub LacksEntry : Line → List ℕ → RequestField → Type 0
LacksEntry kind bytes Asker = ⊥
LacksEntry kind bytes LineStart = ⊥
LacksEntry kind bytes Number = (kind ≡ Sqn) × LacksNumber bytes
LacksEntry kind bytes AskedHeading = (kind ≡ Ahd) × LacksHeading bytes
LacksEntry kind bytes LineEnd = ⊥

-- where an entry stands, neither `/` nor `=` is behind it
pub record LacksEnd (kind : Line) (bytes : List ℕ) : Type 0 where
  pub entry : Entry
  pub rest : List ℕ
  pub is_entry : IsEntry kind entry
  pub ends : EndsBefore rest entry
  pub spelled : bytes ≡ entry_text entry ++ rest
  pub no_slash : Lacks (47 ∷ []) rest
  pub no_equals : Lacks (61 ∷ []) rest

-- behind so many entries of a line, each with `/` behind it, an entry or its end isn't there
pub record StopsInLine (kind : Line) (bytes : List ℕ) (field : RequestField) : Type 0 where
  pub before : List Entry
  pub rest : List ℕ
  pub are_entries : AllByRecursion (IsEntry kind) before
  pub spelled : bytes ≡ slashed before ++ rest
  pub lacks : LacksEntry kind rest field ⊎ ((field ≡ LineEnd) × LacksEnd kind rest)

abbrev pub LacksLine : List ℕ → Type 0
LacksLine bytes = Lacks (line_start Sqn) bytes × Lacks (line_start Ahd) bytes

-- where a line must stand, its start isn't there, or it stops
abbrev pub StopsAtLine : List ℕ → RequestField → Type 0
StopsAtLine bytes field =
    ((field ≡ LineStart) × LacksLine bytes)
    ⊎ ((kind : Line) × (rest : List ℕ) × (bytes ≡ line_start kind ++ rest) × StopsInLine kind rest field)

-- behind an asker and the lines that are whole (behind none of them also at the text's end) a line stops
pub record StopsInText (text : List ℕ) (field : RequestField) : Type 0 where
  pub asker : List ℕ
  pub lines : List AskedLine
  pub rest : List ℕ
  pub is_asker : IsAsker asker
  pub are_lines : AllByRecursion IsLine lines
  pub spelled : text ≡ asker ++ (lines_text lines ++ rest)
  pub goes_on : rest ≡ [] → lines ≡ []
  pub stops : StopsAtLine rest field

-- the longest front that the grammar goes on through ends at this field
abbrev pub StopsAt : List ℕ → RequestField → Type 0
StopsAt text field = ((field ≡ Asker) × ((asker rest : List ℕ) → IsAsker asker → text ≡ asker ++ rest → ⊥)) ⊎ StopsInText text field
