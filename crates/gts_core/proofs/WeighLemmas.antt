-- What was found of a message is what the definitions read of it.
use Rattle.gts_core.proofs.Cited.{common_steps, ◌≡◌, ◌<◌, ◌≤◌, List, ◌++◌, length, ℕ, Result, Ok, Err, sym, ap, arith, length-append, split_takes, Asks, Directory, EOL, HeadingFields, IsFound, Item, Judged, LONGEST_BODY, LONGEST_MESSAGE, MessageField, MessageParts, heading_of_message, heading_text, items_of, message_end, no_heading, request_at, split_at}
use Rattle.gts_core.specs.declared.answer.Judged.TheVariants as judged

pub heading_read : (message : List ℕ) (parts : MessageParts) → split_at message ≡ Ok parts → heading_of_message message ≡ parts.heading
heading_read message parts read = ap (λ (r : Result MessageParts MessageField). elim r as (λ _. HeadingFields) [ Err _ ↦ no_heading | Ok x ↦ x.heading ]) read

items_read : (message : List ℕ) (parts : MessageParts) (items : List Item) → split_at message ≡ Ok parts → request_at parts.text ≡ Ok items → items_of message ≡ items
items_read message parts items read asks = grind (arith, common_steps)

-- what the text of a message asks for is found of the message
pub asks_found : (d : Directory) (c : ℕ) (message : List ℕ) (parts : MessageParts) (found : Judged) → split_at message ≡ Ok parts → Asks (request_at parts.text) found → IsFound d c message found
asks_found d c message parts (judged.Refused refusal) read asks = tt
asks_found d c message parts (judged.Asked asking) read asks = record { request = sym (items_read message parts asking.request read asks.0); sound = asks.1 }
asks_found d c message parts (judged.Duplicate position) read asks = tt
asks_found d c message parts (judged.New bulletin) read asks = absurd asks

-- the text of a message is shorter than the longest message
pub text_short : (message : List ℕ) (parts : MessageParts) → split_at message ≡ Ok parts → length parts.text < LONGEST_MESSAGE
text_short message parts read =
    let is = split_takes message parts read in
    let (gap, _, at) = is.body.spelled in
    let front : List ℕ = heading_text parts.heading ++ gap ++ EOL in
    let short : length parts.body ≤ LONGEST_BODY = is.short in
    let size : length parts.body ≡ length (front ++ parts.text ++ message_end) = ap length at in
    omega (arith, short, size, length-append (front ++ parts.text) message_end, length-append front parts.text)
