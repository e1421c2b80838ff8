-- Worked rows: lists of words, and what they are.
use Rattle.std.specs.Prelude.{◌≡◌, [], ◌∷◌, None, Some, codes}
use Rattle.gts_words.specs.declared.command.Command.TheVariants.{Init, Replay, Serve, ServeAlways, Show, Compact, Generate, Migrate, MigrateDrop, MigrateCheck, Unpack, Pack, Gaps, Ship, ShipSince, Follow, Count, Check, CheckHeading, CheckFrom}
use Rattle.gts_words.specs.Commands.{command_of}

-- Each command of one word.
abbrev pub OneWord : Type 0
OneWord = (command_of (codes "init" ∷ []) ≡ Some Init)
    × (command_of (codes "replay" ∷ []) ≡ Some Replay)
    × (command_of (codes "serve" ∷ []) ≡ Some (Serve 1))
    × (command_of (codes "show" ∷ []) ≡ Some Show)
    × (command_of (codes "compact" ∷ []) ≡ Some Compact)
    × (command_of (codes "migrate" ∷ []) ≡ Some Migrate)
    × (command_of (codes "pack" ∷ []) ≡ Some Pack)
    × (command_of (codes "ship" ∷ []) ≡ Some Ship)
    × (command_of (codes "follow" ∷ []) ≡ Some Follow)
    × (command_of (codes "count" ∷ []) ≡ Some Count)
    × (command_of (codes "check" ∷ []) ≡ Some Check)

-- A count has one to six digits and a value from 1 to 100,000.
abbrev pub Counts : Type 0
Counts = (command_of (codes "generate" ∷ codes "200" ∷ []) ≡ Some (Generate 200))
    × (command_of (codes "generate" ∷ codes "000001" ∷ []) ≡ Some (Generate 1))
    × (command_of (codes "generate" ∷ codes "100000" ∷ []) ≡ Some (Generate 100000))
    × (command_of (codes "generate" ∷ codes "0" ∷ []) ≡ None)
    × (command_of (codes "generate" ∷ codes "100001" ∷ []) ≡ None)
    × (command_of (codes "generate" ∷ codes "0000200" ∷ []) ≡ None)
    × (command_of (codes "generate" ∷ codes "+20" ∷ []) ≡ None)
    × (command_of (codes "generate" ∷ [] ∷ []) ≡ None)

-- Connections are counted by one to four digits, with a value from 1 to 1,000.
abbrev pub ConnectionCounts : Type 0
ConnectionCounts = (command_of (codes "serve" ∷ codes "2" ∷ []) ≡ Some (Serve 2))
    × (command_of (codes "serve" ∷ codes "0012" ∷ []) ≡ Some (Serve 12))
    × (command_of (codes "serve" ∷ codes "1000" ∷ []) ≡ Some (Serve 1000))
    × (command_of (codes "serve" ∷ codes "0" ∷ []) ≡ None)
    × (command_of (codes "serve" ∷ codes "1001" ∷ []) ≡ None)
    × (command_of (codes "serve" ∷ codes "00001" ∷ []) ≡ None)
    × (command_of (codes "serve" ∷ codes "always" ∷ []) ≡ Some ServeAlways)
    × (command_of (codes "serve" ∷ codes "Always" ∷ []) ≡ None)
    × (command_of (codes "serve" ∷ codes "always1" ∷ []) ≡ None)
    × (command_of (codes "serve" ∷ codes "+2" ∷ []) ≡ None)

-- A circuit has two digits, whatever circuits there are; a time has six, in their ranges.
abbrev pub DigitWords : Type 0
DigitWords = (command_of (codes "unpack" ∷ codes "00" ∷ []) ≡ Some (Unpack 0))
    × (command_of (codes "unpack" ∷ codes "99" ∷ []) ≡ Some (Unpack 99))
    × (command_of (codes "unpack" ∷ codes "7" ∷ []) ≡ None)
    × (command_of (codes "unpack" ∷ codes "0a" ∷ []) ≡ None)
    × (command_of (codes "gaps" ∷ codes "281030" ∷ []) ≡ Some (Gaps 28 10 30))
    × (command_of (codes "gaps" ∷ codes "312359" ∷ []) ≡ Some (Gaps 31 23 59))
    × (command_of (codes "gaps" ∷ codes "002359" ∷ []) ≡ None)
    × (command_of (codes "gaps" ∷ codes "282400" ∷ []) ≡ None)
    × (command_of (codes "gaps" ∷ codes "281060" ∷ []) ≡ None)
    × (command_of (codes "gaps" ∷ codes "28103" ∷ []) ≡ None)
    × (command_of (codes "pack" ∷ codes "00" ∷ []) ≡ None)

-- `migrate` has `drop` or `check` behind it, or nothing.
abbrev pub MigrateWords : Type 0
MigrateWords = (command_of (codes "migrate" ∷ codes "drop" ∷ []) ≡ Some MigrateDrop)
    × (command_of (codes "migrate" ∷ codes "check" ∷ []) ≡ Some MigrateCheck)
    × (command_of (codes "migrate" ∷ codes "Drop" ∷ []) ≡ None)
    × (command_of (codes "migrate" ∷ codes "dropped" ∷ []) ≡ None)
    × (command_of (codes "migrate" ∷ codes "drop" ∷ codes "check" ∷ []) ≡ None)
    × (command_of (codes "drop" ∷ []) ≡ None)

-- `check` has the front of a heading behind it, and a circuit behind that, or nothing.
abbrev pub CheckWords : Type 0
CheckWords = (command_of (codes "check" ∷ codes "SMVG01 TVSV" ∷ []) ≡ Some (CheckHeading (codes "SMVG01 TVSV")))
    × (command_of (codes "check" ∷ codes "SMVG01 TVSV" ∷ codes "01" ∷ []) ≡ Some (CheckFrom (codes "SMVG01 TVSV") 1))
    × (command_of (codes "check" ∷ codes "SMVG01" ∷ []) ≡ None)
    × (command_of (codes "check" ∷ codes "-MVG01 TVSV" ∷ []) ≡ None)
    × (command_of (codes "check" ∷ codes "SMVG01 TVSV" ∷ codes "1" ∷ []) ≡ None)
    × (command_of (codes "show" ∷ codes "SMVG01 TVSV" ∷ codes "01" ∷ []) ≡ None)

-- What a standby has is a count of bytes of one to ten digits, and a seal of 64 hexadecimal digits in lower case.
abbrev pub SinceWords : Type 0
SinceWords =
    (command_of (codes "ship" ∷ codes "since" ∷ codes "41" ∷ codes "000000000000000000000000000000000000000000000000000000000000a0ff" ∷ [])
    ≡ Some (ShipSince 41 (0 ∷ 0 ∷ 0 ∷ 0 ∷ 0 ∷ 0 ∷ 0 ∷ 0 ∷ 0 ∷ 0 ∷ 0 ∷ 0 ∷ 0 ∷ 0 ∷ 0 ∷ 0
    ∷ 0 ∷ 0 ∷ 0 ∷ 0 ∷ 0 ∷ 0 ∷ 0 ∷ 0 ∷ 0 ∷ 0 ∷ 0 ∷ 0 ∷ 0 ∷ 0 ∷ 160 ∷ 255 ∷ [])))
    × (command_of (codes "ship" ∷ codes "since" ∷ codes "41"
    ∷ codes "000000000000000000000000000000000000000000000000000000000000A0FF" ∷ []) ≡ None)
    × (command_of (codes "ship" ∷ codes "since" ∷ codes "41"
    ∷ codes "000000000000000000000000000000000000000000000000000000000000a0f" ∷ []) ≡ None)
    × (command_of (codes "ship" ∷ codes "since" ∷ codes "41x"
    ∷ codes "000000000000000000000000000000000000000000000000000000000000a0ff" ∷ []) ≡ None)
    × (command_of (codes "ship" ∷ codes "until" ∷ codes "41"
    ∷ codes "000000000000000000000000000000000000000000000000000000000000a0ff" ∷ []) ≡ None)
    × (command_of (codes "ship" ∷ codes "since" ∷ codes "41" ∷ []) ≡ None)

-- No words, a word that isn't known, a word too many and one too few.
abbrev pub NoCommands : Type 0
NoCommands = (command_of [] ≡ None)
    × (command_of (codes "help" ∷ []) ≡ None)
    × (command_of (codes "--help" ∷ []) ≡ None)
    × (command_of (codes "replay" ∷ codes "replay" ∷ []) ≡ None)
    × (command_of (codes "show" ∷ codes "1" ∷ []) ≡ None)
    × (command_of (codes "migrate" ∷ codes "1" ∷ []) ≡ None)
    × (command_of (codes "count" ∷ codes "1" ∷ []) ≡ None)
    × (command_of (codes "generate" ∷ []) ≡ None)
    × (command_of (codes "generate" ∷ codes "5" ∷ codes "5" ∷ []) ≡ None)
    × (command_of (codes "Show" ∷ []) ≡ None)
