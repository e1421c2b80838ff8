-- What a file that is unpacked keeps, and what contracts see of it.
use Rattle.std.specs.Prelude.{◌≡◌, ℕ, ◌+◌, ◌-◌, ◌<◌, ◌≤◌, List, [], length, take, drop, None}
use Rattle.gts_accum.specs.declared.limits.TheConstants.{ENTRY_HEAD, LONGEST_FILE, MOST_DUE}
use Rattle.gts_accum.specs.declared.next.Next.{Next}
use Rattle.gts_accum.specs.declared.next.Next.TheVariants.{Head, Entry, End, Bad}
use Rattle.gts_accum.specs.declared.parts.UnpackedParts.{UnpackedParts}
use Rattle.gts_accum.specs.File.{bad_in}
use Rattle.gts_accum.specs.Unpacking.{Unpacking}

-- what the parts make up
abbrev pub unpacking_of : {S : Type 0} → UnpackedParts S → Unpacking S
unpacking_of parts = record {
  source = parts.source;
  circuit = parts.circuit;
  made = drop parts.given parts.made;
  next = parts.next;
  at = parts.at;
  held = take parts.held parts.head;
}

-- What was read of a head is a part of one, and stands within the greatest length; of an entry bytes are still to come.
abbrev pub IsNext : Next → (at : ℕ) → (held : List ℕ) → Type 0
IsNext Head at held = (length held < ENTRY_HEAD) × (at + length held ≤ LONGEST_FILE) × (bad_in held ≡ None)
IsNext (Entry format left) at held = (0 < left) × (held ≡ [])
IsNext End at held = Unit {0}
IsNext (Bad place) at held = Unit {0}

-- no more was given than was made, which is short, and the file was read up to a place within the greatest length
pub record IsSound {S : Type 0} (parts : UnpackedParts S) : Type 0 where
  pub given : parts.given ≤ length parts.made
  pub short : length parts.made + 2 ≤ MOST_DUE
  pub held : parts.held ≤ length parts.head
  pub place : parts.at ≤ LONGEST_FILE
  pub next : IsNext parts.next parts.at (take parts.held parts.head)

-- how many bytes of a head are still to be read
abbrev pub missing : Next → (held : ℕ) → ℕ
missing Head held = ENTRY_HEAD - held
missing _ held = 0
