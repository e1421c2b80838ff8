-- The lists of words that are commands (profile).
use Rattle.std.specs.Prelude.{◌≡◌, ℕ, Bool, false, ◌&&◌, ◌==◌, nat_eq, nat_le, List, [], ◌∷◌, length, ◌/◌, ◌%◌, Option, Some, None, Result, Ok, Err, if◌then◌else◌, option_map, codes}
use Rattle.gts_words.specs.Cited.Below.{FromHexError, decode_sized, digits_value, encode_lower, is_ascii_digit, list_all, pointwise}
use Rattle.gts_words.specs.declared.count.TheConstants.{MOST_GENERATED, LONGEST_COUNT, MOST_CONNECTIONS, LONGEST_CONNECTIONS, LONGEST_USED}
use Rattle.gts_words.specs.declared.command.Command.{Command}
use Rattle.gts_words.specs.declared.command.Command.TheVariants.{Init, Replay, Serve, ServeAlways, Show, Compact, Generate, Migrate, MigrateDrop, MigrateCheck, Unpack, Pack, Gaps, Ship, ShipSince, Follow, Count, Check, CheckHeading, CheckFrom}
use Rattle.gts_words.specs.declared.command.WordsFault.{WordsFault}
use Rattle.gts_words.specs.declared.command.WordsFault.TheVariants as fault

-- two words are equal
abbrev pub same : List ℕ → List ℕ → Bool
same = pointwise nat_eq

-- a word begins with a hyphen (45)
abbrev pub is_option : List ℕ → Bool
is_option [] = false
is_option (byte ∷ _) = byte == 45

-- the command that is one word
abbrev pub alone : List ℕ → Option Command
alone name =
    if same name (codes "init") then Some Init
    else (if same name (codes "replay") then Some Replay
    else (if same name (codes "serve") then Some (Serve 1)
    else (if same name (codes "show") then Some Show
    else (if same name (codes "compact") then Some Compact
    else (if same name (codes "migrate") then Some Migrate
    else (if same name (codes "pack") then Some Pack
    else (if same name (codes "ship") then Some Ship
    else (if same name (codes "follow") then Some Follow
    else (if same name (codes "count") then Some Count
    else (if same name (codes "check") then Some Check
    else None))))))))))

-- a count is spelled by one to so many digits, and its value is 1 to this one
abbrev pub is_count : (longest most : ℕ) → List ℕ → Bool
is_count longest most word =
    nat_le 1 (length word) && nat_le (length word) longest && list_all is_ascii_digit word
    && nat_le 1 (digits_value 10 word) && nat_le (digits_value 10 word) most

-- the count that a word spells
abbrev pub count_in : (longest most : ℕ) → List ℕ → Option ℕ
count_in longest most word = if is_count longest most word then Some (digits_value 10 word) else None

-- the number of a word that is digits
abbrev pub number_in : List ℕ → Option ℕ
number_in word = if list_all is_ascii_digit word then Some (digits_value 10 word) else None

-- a circuit is spelled by two digits
abbrev pub circuit_in : List ℕ → Option ℕ
circuit_in word = if length word == 2 then number_in word else None

-- a day of a month, an hour and a minute
abbrev pub is_moment : ℕ → ℕ → ℕ → Bool
is_moment day hour minute = nat_le 1 day && nat_le day 31 && nat_le hour 23 && nat_le minute 59

-- the command at this time
abbrev pub gaps_at : ℕ → ℕ → ℕ → Option Command
gaps_at day hour minute = if is_moment day hour minute then Some (Gaps day hour minute) else None

-- the command at the time that a number of six digits writes: two of the day, two of the hour, and two of the minute
abbrev pub gaps_of : Option ℕ → Option Command
gaps_of (Some n) = gaps_at (n / 10000) (n / 100 % 100) (n % 100)
gaps_of None = None

-- a time is spelled by six digits
abbrev pub moment_in : List ℕ → Option Command
moment_in word = if length word == 6 then gaps_of (number_in word) else None

-- the command for the circuits with this word behind it: always, or a count of connections
abbrev pub serving : List ℕ → Option Command
serving word =
    if same word (codes "always") then Some ServeAlways
    else option_map (λ n. Serve n) (count_in LONGEST_CONNECTIONS MOST_CONNECTIONS word)

-- the command about a journal that is taken over, with this word behind it
abbrev pub migrating : List ℕ → Option Command
migrating word =
    if same word (codes "drop") then Some MigrateDrop
    else (if same word (codes "check") then Some MigrateCheck
    else None)

-- the front of a heading is spelled by eleven bytes, the first no hyphen
abbrev pub front_in : List ℕ → Option (List ℕ)
front_in word = if is_option word then None else (if length word == 11 then Some word else None)

-- the command about a bulletin whose heading begins so
abbrev pub checking : List ℕ → Option Command
checking word = option_map (λ heading. CheckHeading heading) (front_in word)

-- the same, come in on a circuit
abbrev pub check_from : Option (List ℕ) → Option ℕ → Option Command
check_from (Some heading) (Some from) = Some (CheckFrom heading from)
check_from (Some heading) None = None
check_from None _ = None

-- the command that three words are
abbrev pub routed : List ℕ → List ℕ → List ℕ → Option Command
routed name heading from = if same name (codes "check") then check_from (front_in heading) (circuit_in from) else None

-- The command that a word and another one are: messages are counted by one to six digits, up to 100,000; connections by one to
-- four, up to 1,000.
abbrev pub counted : List ℕ → List ℕ → Option Command
counted name word =
    if same name (codes "generate") then option_map (λ n. Generate n) (count_in LONGEST_COUNT MOST_GENERATED word)
    else (if same name (codes "serve") then serving word
    else (if same name (codes "unpack") then option_map (λ c. Unpack c) (circuit_in word)
    else (if same name (codes "gaps") then moment_in word
    else (if same name (codes "migrate") then migrating word
    else (if same name (codes "check") then checking word
    else None)))))

-- a count of bytes is spelled by one to ten digits
abbrev pub is_used : List ℕ → Bool
is_used word = nat_le 1 (length word) && nat_le (length word) LONGEST_USED && list_all is_ascii_digit word

abbrev pub used_in : List ℕ → Option ℕ
used_in word = if is_used word then Some (digits_value 10 word) else None

-- this word is what a seal is spelled by
abbrev pub is_spelled : List ℕ → List ℕ → Bool
is_spelled seal word = same (encode_lower seal) word

-- a seal, where the word spells it in lower case
abbrev pub in_lower_case : List ℕ → Result (List ℕ) FromHexError → Option (List ℕ)
in_lower_case word (Ok seal) = if is_spelled seal word then Some seal else None
in_lower_case word (Err _) = None

-- a seal of 32 bytes is spelled by their hexadecimal digits in lower case
abbrev pub seal_in : List ℕ → Option (List ℕ)
seal_in word = in_lower_case word (decode_sized word 32)

-- the command to say what is behind so many bytes, with this seal
abbrev pub ship_behind : Option ℕ → Option (List ℕ) → Option Command
ship_behind (Some used) (Some seal) = Some (ShipSince used seal)
ship_behind (Some used) None = None
ship_behind None _ = None

-- the command that four words are
abbrev pub shipped : List ℕ → List ℕ → List ℕ → List ℕ → Option Command
shipped name since used seal =
    if same name (codes "ship") && same since (codes "since") then ship_behind (used_in used) (seal_in seal) else None

-- the command that a list of words is
abbrev pub command_of : List (List ℕ) → Option Command
command_of (name ∷ []) = alone name
command_of (name ∷ count ∷ []) = counted name count
command_of (name ∷ heading ∷ from ∷ []) = routed name heading from
command_of (name ∷ since ∷ used ∷ seal ∷ []) = shipped name since used seal
command_of _ = None

-- a command, or else the fault
abbrev pub or_words : Option Command → Result Command WordsFault
or_words None = Err fault.Words
or_words (Some command) = Ok command

-- the command that the parts of a command line are
abbrev pub command_in : Option (List ℕ) → Option (List ℕ) → Result Command WordsFault
command_in None _ = Err fault.Words
command_in (Some name) None = or_words (alone name)
command_in (Some name) (Some count) = or_words (counted name count)

-- What is answered: the command that the words are, or that they are none; or there was no memory.
abbrev pub Answers : Result Command WordsFault → Option Command → Type 0
Answers (Ok command) meant = meant ≡ Some command
Answers (Err fault.Words) meant = meant ≡ None
Answers (Err fault.NoMemory) meant = Unit {0}
