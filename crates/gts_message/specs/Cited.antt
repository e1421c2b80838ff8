-- What files of this crate and of those above cite of it, in one place, and what it cites of those below.
pub mod Below
pub use Rattle.gts_message.specs.Message.{IsBody, IsMessage, MessageParts, digit_run, fault, message_end, parts_around, parts_of}
unfoldable pub use Rattle.gts_message.specs.Message.{body_at, number_at, split_at, text_at}
pub use Rattle.gts_message.specs.declared.message.SplitMessage.{SplitMessage}
unfoldable pub use Below.*
