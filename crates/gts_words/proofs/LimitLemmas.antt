-- The count of a command is within its limits.
use Rattle.gts_words.proofs.Cited.{◌≡◌, ℕ, ◌≤◌, ◌/◌, ◌%◌, Bool, true, false, ◌&&◌, List, [], ◌∷◌, Option, Some, None, length, nat_le, cond, codes, refl, subst, arith, option_map, ◌==◌, Check, CheckFrom, CheckHeading, Command, Compact, Count, Follow, Gaps, Generate, Init, LONGEST_CONNECTIONS, LONGEST_COUNT, MOST_CONNECTIONS, MOST_GENERATED, Migrate, MigrateCheck, MigrateDrop, Pack, Replay, Serve, ServeAlways, Ship, ShipSince, Show, Unpack, alone, check_from, checking, circuit_in, command_of, count_in, digits_value, front_in, gaps_of, is_ascii_digit, is_count, is_moment, list_all, migrating, moment_in, number_in, same, seal_in, serving, ship_behind, used_in, leb-true, and_parts}

-- a command has no count, or one within the limits
abbrev IsWithin : Command → Type 0
IsWithin (Generate count) = (1 ≤ count) × (count ≤ MOST_GENERATED)
IsWithin (Serve connections) = (1 ≤ connections) × (connections ≤ MOST_CONNECTIONS)
IsWithin _ = Unit {0}

abbrev AllWithin : Option Command → Type 0
AllWithin None = Unit {0}
AllWithin (Some command) = IsWithin command

-- one of two
either : (b : Bool) (x y : Option Command) → AllWithin x → AllWithin y → AllWithin (cond b x y)
either true x y first rest = first
either false x y first rest = rest

alone_within : (name : List ℕ) → AllWithin (alone name)
alone_within name =
    either (same name (codes "init")) (Some Init) _ tt
    (either (same name (codes "replay")) (Some Replay) _ tt
    (either (same name (codes "serve")) (Some (Serve 1)) _ (omega arith, omega arith)
    (either (same name (codes "show")) (Some Show) _ tt
    (either (same name (codes "compact")) (Some Compact) _ tt
    (either (same name (codes "migrate")) (Some Migrate) _ tt
    (either (same name (codes "pack")) (Some Pack) _ tt
    (either (same name (codes "ship")) (Some Ship) _ tt
    (either (same name (codes "follow")) (Some Follow) _ tt
    (either (same name (codes "count")) (Some Count) _ tt
    (either (same name (codes "check")) (Some Check) None tt tt))))))))))

-- a word that spells a count
spelled : (longest top : ℕ) (w : List ℕ) → is_count longest top w ≡ true → (1 ≤ digits_value 10 w) × (digits_value 10 w ≤ top)
spelled longest top w is =
    let some : Bool = nat_le 1 (length w) in
    let short : Bool = nat_le (length w) longest in
    let digits : Bool = list_all is_ascii_digit w in
    let least : Bool = nat_le 1 (digits_value 10 w) in
    let most : Bool = nat_le (digits_value 10 w) top in
    let last = and_parts (some && short && digits && least) most is in
    let before = and_parts (some && short && digits) least last.0 in
    (leb-true 1 (digits_value 10 w) before.1, leb-true (digits_value 10 w) top last.1)

by_count : (w : List ℕ) (b : Bool) → is_count LONGEST_COUNT MOST_GENERATED w ≡ b → AllWithin (option_map (λ n. Generate n) (cond b (Some (digits_value 10 w)) None))
by_count w true is = spelled LONGEST_COUNT MOST_GENERATED w is
by_count w false is = tt

by_connections : (w : List ℕ) (b : Bool) → is_count LONGEST_CONNECTIONS MOST_CONNECTIONS w ≡ b
    → AllWithin (option_map (λ n. Serve n) (cond b (Some (digits_value 10 w)) None))
by_connections w true is = spelled LONGEST_CONNECTIONS MOST_CONNECTIONS w is
by_connections w false is = tt

by_serving : (w : List ℕ) (a : Bool) → AllWithin (cond a (Some ServeAlways) (option_map (λ n. Serve n) (count_in LONGEST_CONNECTIONS MOST_CONNECTIONS w)))
by_serving w true = tt
by_serving w false = by_connections w (is_count LONGEST_CONNECTIONS MOST_CONNECTIONS w) refl

-- a circuit has no count, and neither has a time
no_count : (found : Option ℕ) → AllWithin (option_map (λ c. Unpack c) found)
no_count None = tt
no_count (Some c) = tt

at_moment : (day hour minute : ℕ) (b : Bool) → AllWithin (cond b (Some (Gaps day hour minute)) None)
at_moment day hour minute true = tt
at_moment day hour minute false = tt

at_gaps : (found : Option ℕ) → AllWithin (gaps_of found)
at_gaps None = tt
at_gaps (Some n) = at_moment (n / 10000) (n / 100 % 100) (n % 100) (is_moment (n / 10000) (n / 100 % 100) (n % 100))

in_moment : (w : List ℕ) (b : Bool) → AllWithin (cond b (gaps_of (number_in w)) None)
in_moment w true = at_gaps (number_in w)
in_moment w false = tt

-- nor has what is said of a journal that is taken over
by_migrating : (drop check : Bool) → AllWithin (cond drop (Some MigrateDrop) (cond check (Some MigrateCheck) None))
by_migrating true check = tt
by_migrating false true = tt
by_migrating false false = tt

by_checking : (found : Option (List ℕ)) → AllWithin (option_map (λ heading. CheckHeading heading) found)
by_checking None = tt
by_checking (Some heading) = tt

from_within : (heading : Option (List ℕ)) (from : Option ℕ) → AllWithin (check_from heading from)
from_within None from = tt
from_within (Some heading) None = tt
from_within (Some heading) (Some from) = tt

by_route : (b : Bool) (heading : Option (List ℕ)) (from : Option ℕ) → AllWithin (cond b (check_from heading from) None)
by_route true heading from = from_within heading from
by_route false heading from = tt

by_name : (w : List ℕ) (a b c e f g : Bool) → AllWithin (cond a (option_map (λ n. Generate n) (count_in LONGEST_COUNT MOST_GENERATED w))
    (cond b (serving w)
    (cond c (option_map (λ c. Unpack c) (circuit_in w)) (cond e (moment_in w) (cond f (migrating w) (cond g (checking w) None))))))
by_name w true b c e f g = by_count w (is_count LONGEST_COUNT MOST_GENERATED w) refl
by_name w false true c e f g = by_serving w (same w (codes "always"))
by_name w false false true e f g = no_count (circuit_in w)
by_name w false false false true f g = in_moment w (length w == 6)
by_name w false false false false true g = by_migrating (same w (codes "drop")) (same w (codes "check"))
by_name w false false false false false true = by_checking (front_in w)
by_name w false false false false false false = tt

behind_within : (used : Option ℕ) (seal : Option (List ℕ)) → AllWithin (ship_behind used seal)
behind_within None seal = tt
behind_within (Some used) None = tt
behind_within (Some used) (Some seal) = tt

by_since : (b : Bool) (used : Option ℕ) (seal : Option (List ℕ)) → AllWithin (cond b (ship_behind used seal) None)
by_since true used seal = behind_within used seal
by_since false used seal = tt

command_within : (words : List (List ℕ)) → AllWithin (command_of words)
command_within (name ∷ []) = alone_within name
command_within (name ∷ count ∷ []) =
    by_name count (same name (codes "generate")) (same name (codes "serve")) (same name (codes "unpack")) (same name (codes "gaps"))
    (same name (codes "migrate")) (same name (codes "check"))
command_within (name ∷ heading ∷ from ∷ []) = by_route (same name (codes "check")) (front_in heading) (circuit_in from)
command_within (name ∷ since ∷ used ∷ seal ∷ []) =
    by_since (same name (codes "ship") && same since (codes "since")) (used_in used) (seal_in seal)
command_within _ = tt

pub within_connections : (words : List (List ℕ)) (connections : ℕ) → command_of words ≡ Some (Serve connections)
    → (1 ≤ connections) × (connections ≤ MOST_CONNECTIONS)
within_connections words connections is = subst AllWithin is (command_within words)

pub within_limits : (words : List (List ℕ)) (count : ℕ) → command_of words ≡ Some (Generate count) → (1 ≤ count) × (count ≤ MOST_GENERATED)
within_limits words count is = subst AllWithin is (command_within words)
