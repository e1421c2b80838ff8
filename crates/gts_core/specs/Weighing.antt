-- What a message was found to be, and what was found of it.
use Rattle.std.specs.Prelude.{◌≡◌, ℕ, List, Result, Ok, count_ones, ⊤}
use Rattle.gts_core.specs.Cited.Below.{AllByRecursion, Directory, IsItem, Item, RequestField, heading_of_message, items_of, mask_of, named}
use Rattle.gts_core.specs.declared.answer.Asking.{Asking}
use Rattle.gts_core.specs.declared.answer.Judged.{Judged}
use Rattle.gts_core.specs.declared.answer.Judged.TheVariants as judged
use Rattle.gts_core.specs.declared.answer.Verdict.{Verdict}
use Rattle.gts_core.specs.declared.answer.Verdict.TheVariants as verdict
use Rattle.gts_core.specs.Bulletins.{NewBulletin}

-- the verdict alone
abbrev pub verdict_of : Judged → Verdict
verdict_of (judged.Refused refusal) = verdict.Refused refusal
verdict_of (judged.Asked asking) = verdict.Asked asking.found asking.missing
verdict_of (judged.Duplicate position) = verdict.Duplicate position
verdict_of (judged.New bulletin) = verdict.New (count_ones bulletin.mask)

-- a request asks for these items, each of which can be asked for
pub record AsksFor (items : List Item) (asking : Asking) : Type 0 where
  pub request : asking.request ≡ items
  pub sound : AllByRecursion IsItem asking.request

-- where a request was found, it was read so, and no bulletin was found
abbrev pub Asks : Result (List Item) RequestField → Judged → Type 0
Asks read (judged.Refused refusal) = ⊤
Asks read (judged.Asked asking) = (read ≡ Ok asking.request) × AllByRecursion IsItem asking.request
Asks read (judged.Duplicate position) = ⊤
Asks read (judged.New bulletin) = ⊥

-- a bulletin is this message, for the circuits that the directory names
pub record IsBulletin (d : Directory) (c : ℕ) (bytes : List ℕ) (bulletin : NewBulletin) : Type 0 where
  pub message : bulletin.message ≡ bytes
  pub mask : bulletin.mask ≡ mask_of (named d c (heading_of_message bytes))

-- what was found of a message on a circuit is so
abbrev pub IsFound : Directory → ℕ → List ℕ → Judged → Type 0
IsFound d c message (judged.Refused refusal) = ⊤
IsFound d c message (judged.Asked asking) = AsksFor (items_of message) asking
IsFound d c message (judged.Duplicate position) = ⊤
IsFound d c message (judged.New bulletin) = IsBulletin d c message bulletin
