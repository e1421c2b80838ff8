-- What is odd of a directory that is sound, in a stated order (profile).
use Rattle.std.specs.Prelude.{ℕ, ◌+◌, Bool, not, Option, None, Some, ◌&&◌, ◌||◌, ◌==◌, nat_eq, nat_le, nat_lt, List, [], ◌∷◌, ◌++◌, length, take, if◌then◌else◌}
use Rattle.gts_inspect.specs.Cited.Below.{Circuit, Directory, Ipv4Addr, LONGEST_MESSAGE, MOST_KEPT, Rule, agrees, list_all, list_any, option_map, pointwise, position_from, range_with_len}
use Rattle.gts_inspect.specs.declared.limits.TheConstants.{FIRST_FREE_PORT, FIRST_SYSTEM_PORT, LAST_SYSTEM_PORT}
use Rattle.gts_inspect.specs.declared.finding.Key.{Key}
use Rattle.gts_inspect.specs.declared.finding.Key.TheVariants.{Input, Output}
use Rattle.gts_inspect.specs.declared.finding.Finding.{Finding}
use Rattle.gts_inspect.specs.declared.finding.Finding.TheVariants.{NarrowLimit, OwnPeer, PeerTwice, FewKept, NoPort, LowPort, SystemPort, InputTwice, OutputTwice, SamePorts, CallsItself, NoRule, NoCircuit, RuleTwice, RuleCovered}

-- ---- words

-- a finding, where something is so
abbrev pub where_so : Bool → Finding → Option Finding
where_so holds finding = if holds then Some finding else None

-- the findings that are there
abbrev pub told : List (Option Finding) → List Finding
told [] = []
told (None ∷ rest) = told rest
told (Some finding ∷ rest) = finding ∷ told rest

-- the place of the first row that passes a test
abbrev pub first : {A : Type 0} → (A → Bool) → List A → Option ℕ
first test rows = position_from test 0 rows

-- two texts, or two addresses, are the same
abbrev pub same : List ℕ → List ℕ → Bool
same = pointwise nat_eq

-- ---- circuits

-- its neighbour is the own centre
abbrev pub own_peer : List ℕ → ℕ → Circuit → Option Finding
own_peer centre c row = where_so (same row.peer centre) (OwnPeer c)

-- an earlier circuit has the same neighbour
abbrev pub has_peer : Circuit → Circuit → Bool
has_peer row earlier = same earlier.peer row.peer

abbrev pub peer_twice : List Circuit → ℕ → Circuit → Option Finding
peer_twice before c row = option_map (λ earlier. PeerTwice c earlier) (first (has_peer row) before)

-- fewer draws are kept than there are numbers of three digits
abbrev pub few_kept : ℕ → Circuit → Option Finding
few_kept c row = where_so (nat_lt row.kept MOST_KEPT) (FewKept c)

-- the port at a key
abbrev pub port_at : Key → Circuit → ℕ
port_at Input row = row.input
port_at Output row = row.output

-- no port (0), one for which leave is wanted, and one that the system gives away
abbrev pub no_port : Key → ℕ → Circuit → Option Finding
no_port key c row = where_so (not row.closed && (port_at key row == 0)) (NoPort c key)

abbrev pub low_port : Key → ℕ → Circuit → Option Finding
low_port key c row =
    where_so (not row.closed && (nat_le 1 (port_at key row) && nat_lt (port_at key row) FIRST_FREE_PORT)) (LowPort c key)

abbrev pub system_port : Key → ℕ → Circuit → Option Finding
system_port key c row =
    where_so (not row.closed && (nat_le FIRST_SYSTEM_PORT (port_at key row) && nat_le (port_at key row) LAST_SYSTEM_PORT))
    (SystemPort c key)

-- two open circuits for which the switch listens on one port
abbrev pub listens_too : Circuit → Circuit → Bool
listens_too row other = not row.closed && (not other.closed && (nat_le 1 row.input && (other.input == row.input)))

abbrev pub input_twice : List Circuit → ℕ → Circuit → Option Finding
input_twice before c row = option_map (λ earlier. InputTwice c earlier) (first (listens_too row) before)

-- two open circuits whose neighbours listen on one port of one host
abbrev pub calls_too : Circuit → Circuit → Bool
calls_too row other =
    not row.closed && (not other.closed && (nat_le 1 row.output && ((other.output == row.output)
    && same other.host.octets row.host.octets)))

abbrev pub output_twice : List Circuit → ℕ → Circuit → Option Finding
output_twice before c row = option_map (λ earlier. OutputTwice c earlier) (first (calls_too row) before)

-- its input is its output
abbrev pub same_ports : ℕ → Circuit → Option Finding
same_ports c row = where_so (not row.closed && (nat_le 1 row.input && (row.input == row.output))) (SamePorts c)

-- a circuit calls the port on which the switch, at this address, listens for another one
abbrev pub is_called : Ipv4Addr → Circuit → Circuit → Bool
is_called address row other =
    not row.closed && (not other.closed && (nat_le 1 row.output && (not (row.input == row.output)
    && ((other.input == row.output) && same row.host.octets address.octets))))

abbrev pub calls_itself : Ipv4Addr → List Circuit → ℕ → Circuit → Option Finding
calls_itself address circuits c row = option_map (λ called. CallsItself c called) (first (is_called address row) circuits)

-- ---- rules

-- a rule names a circuit
abbrev pub names : ℕ → Rule → Bool
names c rule = list_any (λ to. to == c) rule.to

-- no rule names an open circuit
abbrev pub no_rule : List Rule → ℕ → Circuit → Option Finding
no_rule rules c row = where_so (not row.closed && not (list_any (names c) rules)) (NoRule c)

-- each of n circuits that a rule names, another one names too
abbrev pub names_all : ℕ → Rule → Rule → Bool
names_all n by rule = list_all (λ c. not (names c rule) || names c by) (range_with_len 0 n)

-- A rule says all that another one says: each heading that agrees with that one agrees with it, and it names all of its circuits.
abbrev pub covers : ℕ → Rule → Rule → Bool
covers n by rule = agrees by.heading rule.heading && names_all n by rule

-- a rule names one of n circuits
abbrev pub names_one : ℕ → Rule → Bool
names_one n rule = list_any (λ c. names c rule) (range_with_len 0 n)

abbrev pub no_circuit : ℕ → ℕ → Rule → Option Finding
no_circuit n r rule = where_so (not (names_one n rule)) (NoCircuit r)

-- two rules that name a circuit say the same
abbrev pub says_too : ℕ → Rule → Rule → Bool
says_too n rule other = covers n other rule && (covers n rule other && names_one n rule)

abbrev pub rule_twice : ℕ → List Rule → ℕ → Rule → Option Finding
rule_twice n before r rule = option_map (λ earlier. RuleTwice r earlier) (first (says_too n rule) before)

-- another rule says all that a rule says, which names a circuit, and more
abbrev pub says_more : ℕ → Rule → Rule → Bool
says_more n rule other = covers n other rule && (not (covers n rule other) && names_one n rule)

abbrev pub rule_covered : ℕ → List Rule → ℕ → Rule → Option Finding
rule_covered n rules r rule = option_map (λ by. RuleCovered r by) (first (says_more n rule) rules)

-- ---- all of it

-- what stands once: a message of the greatest length has no room
abbrev pub of_top : Directory → List (Option Finding)
of_top d = where_so (nat_lt d.limit LONGEST_MESSAGE) NarrowLimit ∷ []

-- a circuit, in this order
abbrev pub of_circuit : Directory → ℕ → Circuit → List (Option Finding)
of_circuit d c row =
    own_peer d.centre c row
    ∷ peer_twice (take c d.circuits) c row
    ∷ few_kept c row
    ∷ no_port Input c row
    ∷ low_port Input c row
    ∷ system_port Input c row
    ∷ input_twice (take c d.circuits) c row
    ∷ no_port Output c row
    ∷ low_port Output c row
    ∷ system_port Output c row
    ∷ output_twice (take c d.circuits) c row
    ∷ same_ports c row
    ∷ calls_itself d.address d.circuits c row
    ∷ no_rule d.rules c row
    ∷ []

-- a rule, in this order
abbrev pub of_rule : Directory → ℕ → Rule → List (Option Finding)
of_rule d r rule =
    let n = length d.circuits in
    no_circuit n r rule
    ∷ rule_twice n (take r d.rules) r rule
    ∷ rule_covered n d.rules r rule
    ∷ []

-- the rows from a place on, each with what is found of it
abbrev pub in_order : {A : Type 0} → (ℕ → A → List (Option Finding)) → ℕ → List A → List Finding
in_order find n [] = []
in_order find n (row ∷ rows) = told (find n row) ++ in_order find (n + 1) rows

-- What is odd: of what stands once, then of each circuit, then of each rule.
abbrev pub findings : Directory → List Finding
findings d = told (of_top d) ++ in_order (of_circuit d) 0 d.circuits ++ in_order (of_rule d) 0 d.rules
