-- What the laws of src/laws.rt say, for the proofs of crates above: each is an answer of one of them.
use Rattle.std.proofs.Common.{◌≡◌, List, ℕ, Ok}
use Rattle.gts_message.specs.Cited.{HeadingFields, IsBody, MessageParts, body_at, split_at}
use Rattle.gts_message.proofs.SplitLemmas.{body_takes}
pub use Rattle.gts_message.proofs.SplitLemmas.{split_again, split_takes, body_again, fault-message, message_from_fault}

pub body_is_spelled : (body text : List ℕ) (h : HeadingFields) → body_at body ≡ Ok (h, text) → IsBody body h text
body_is_spelled body text h e = body_takes body (h, text) e

pub body_of_message : (message : List ℕ) (parts : MessageParts) → split_at message ≡ Ok parts → body_at parts.body ≡ Ok (parts.heading, parts.text)
body_of_message message parts e = body_again parts.body parts.heading parts.text (split_takes message parts e).body
