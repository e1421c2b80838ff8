-- What the laws of src/laws.rt say, for the proofs of crates above: each is an answer of one of them.
use Rattle.gts_heading.proofs.Cited.{◌≡◌, ℕ, List, ◌++◌, Ok, EOL, HeadingFields, IsGap, IsHeading, bare_heading_at, heading_at, heading_text}
use Rattle.gts_heading.proofs.HeadingLemmas.{bare_takes, line_takes}
pub use Rattle.gts_heading.proofs.FieldLemmas.{word_takes, word_again, gap_takes, gap_again, and_part, chosen}
pub use Rattle.gts_heading.proofs.HeadingLemmas.{bare_again, line_again, same_heading}

pub bare_is_spelled : (bytes rest : List ℕ) (h : HeadingFields) → bare_heading_at bytes ≡ Ok (h, rest)
    → IsHeading h × (bytes ≡ heading_text h ++ rest)
bare_is_spelled bytes rest h e = let taken = bare_takes bytes (h, rest) e in (taken.heading, taken.spelled)

pub line_is_spelled : (bytes rest : List ℕ) (h : HeadingFields) → heading_at bytes ≡ Ok (h, rest)
    → IsHeading h × ((gap : List ℕ) × IsGap gap × (bytes ≡ heading_text h ++ gap ++ EOL ++ rest))
line_is_spelled bytes rest h e = let taken = line_takes bytes (h, rest) e in (taken.heading, taken.spelled)
