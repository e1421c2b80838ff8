-- What files of this crate and of those above cite of it, in one place, and what it cites of those below.
pub mod Below
unfoldable pub use Rattle.gts_alphabet.specs.Digits.{dec}
pub use Rattle.gts_alphabet.specs.Message.{message_of}
pub use Rattle.gts_alphabet.specs.Reads.{Reads}
pub use Below.*
