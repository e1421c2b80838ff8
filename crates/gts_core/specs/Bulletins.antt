-- A new bulletin as it is handed on from where it was weighed to where it is accepted.
use Rattle.std.specs.Prelude.{◌≡◌, ℕ, List, Ok, codes}
use Rattle.gts_core.specs.Cited.Below.{digest_of, fields_of, message_of, parts_of, split_at}
use Rattle.gts_core.specs.declared.bulletin.Bulletin.TheInside.{Inside}
use Rattle.gts_core.specs.declared.bulletin.Weighed.{Weighed}
use Rattle.gts_core.specs.declared.bulletin.Weighed.TheVariants as weighed

-- the message that is weighed; of a body the one that has it behind the number 000
abbrev pub message_weighed : Weighed → List ℕ
message_weighed (weighed.Message bytes) = bytes.now
message_weighed (weighed.Body bytes) = message_of (codes "000") bytes.now

-- its message, and the circuits that it is for, as the bits of a mask
pub record NewBulletin : Type 0 where
  pub message : List ℕ
  pub mask : ℕ

abbrev pub bulletin_of : Inside → NewBulletin
bulletin_of b = record { message = message_weighed b.weighed; mask = b.named }

-- the parts and the digest are those of the message
pub record IsSplit (b : Inside) : Type 0 where
  pub read : split_at (message_weighed b.weighed) ≡ Ok (parts_of b.parts)
  pub digest : b.digest ≡ digest_of (fields_of b.parts.heading) b.parts.text.now
