-- Worked rows: what is odd of literal directories, and where a bulletin would go.
use Rattle.std.specs.Prelude.{◌≡◌, ℕ, true, List, [], ◌∷◌, None, Some, codes}
use Rattle.gts_inspect.specs.Cited.Below.{Circuit, Directory, Rule, circuit_of, level_of}
use Rattle.gts_directory.specs.Directory.{directory_of}
use Rattle.gts_directory.specs.Worked.{surface_report, three_circuits, warning}
use Rattle.gts_inspect.specs.declared.finding.Key.TheVariants.{Input, Output}
use Rattle.gts_inspect.specs.declared.finding.Finding.TheVariants.{NarrowLimit, OwnPeer, PeerTwice, FewKept, NoPort, LowPort, SystemPort, InputTwice, OutputTwice, SamePorts, CallsItself, NoRule, NoCircuit, RuleTwice, RuleCovered}
use Rattle.gts_inspect.specs.Findings.{findings}
use Rattle.gts_inspect.specs.Routing.{circuits_from, matching}

-- two circuits of which nothing is odd
abbrev pub circuit_a : Circuit
circuit_a = record (circuit_of (codes "A") (codes "AAAA")) { input = 5000; output = 6000 }

abbrev pub circuit_b : Circuit
circuit_b = record (circuit_of (codes "B") (codes "BBBB")) { input = 5001; output = 6001 }

-- a rule with this pattern, to these circuits
abbrev pub rule : List ℕ → List ℕ → Rule
rule heading to = record { heading = heading; to = to }

-- the circuits A and another one, with a rule to both
abbrev pub with : Circuit → Directory
with row = directory_of (circuit_a ∷ row ∷ []) (rule (codes "S***** ****") (0 ∷ 1 ∷ []) ∷ []) []

-- the circuits A and B, with these rules
abbrev pub under : List Rule → Directory
under rules = directory_of (circuit_a ∷ circuit_b ∷ []) rules []

-- Nothing is odd.
abbrev pub NothingOdd : Type 0
NothingOdd = (findings (with circuit_b) ≡ []) × (findings (with (record circuit_b { closed = true; input = 0; output = 80 })) ≡ [])

-- What is odd of a circuit's neighbour, of what it keeps, and of the journal.
abbrev pub OddRows : Type 0
OddRows = (findings (with (record circuit_b { peer = codes "TVSV" })) ≡ OwnPeer 1 ∷ [])
    × (findings (with (record circuit_b { peer = codes "AAAA" })) ≡ PeerTwice 1 0 ∷ [])
    × (findings (with (record circuit_b { kept = 999 })) ≡ FewKept 1 ∷ [])
    × (findings (record (with circuit_b) { limit = 100000 }) ≡ NarrowLimit ∷ [])

-- What is odd of its ports.
abbrev pub OddPorts : Type 0
OddPorts = (findings (with (record circuit_b { input = 0; output = 1023 })) ≡ NoPort 1 Input ∷ LowPort 1 Output ∷ [])
    × (findings (with (record circuit_b { input = 32768; output = 60999 })) ≡ SystemPort 1 Input ∷ SystemPort 1 Output ∷ [])
    × (findings (with (record circuit_b { input = 5000 })) ≡ InputTwice 1 0 ∷ [])
    × (findings (with (record circuit_b { output = 6000 })) ≡ OutputTwice 1 0 ∷ [])
    × (findings (with (record circuit_b { output = 5001 })) ≡ SamePorts 1 ∷ [])
    × (findings (with (record circuit_b { output = 5000 })) ≡ CallsItself 1 0 ∷ [])

-- What is odd of rules: no rule to B, none to anyone, two that say the same, and one that another one covers, whichever comes first.
abbrev pub OddRules : Type 0
OddRules = (findings (under (rule (codes "S***** ****") (0 ∷ []) ∷ [])) ≡ NoRule 1 ∷ [])
    × (findings (under (rule (codes "S***** ****") (0 ∷ 1 ∷ []) ∷ rule (codes "W***** ****") [] ∷ [])) ≡ NoCircuit 1 ∷ [])
    × (findings (under (rule (codes "S***** ****") (0 ∷ 1 ∷ []) ∷ rule (codes "S***** ****") (0 ∷ 1 ∷ []) ∷ [])) ≡ RuleTwice 1 0 ∷ [])
    × (findings (under (rule (codes "S***** ****") (0 ∷ 1 ∷ []) ∷ rule (codes "SM**** ****") (0 ∷ []) ∷ [])) ≡ RuleCovered 1 0 ∷ [])
    × (findings (under (rule (codes "SM**** ****") (0 ∷ []) ∷ rule (codes "S***** ****") (0 ∷ 1 ∷ []) ∷ [])) ≡ RuleCovered 0 1 ∷ [])

-- A rule to another circuit, and one with other headings, aren't covered.
abbrev pub NotCovered : Type 0
NotCovered = (findings (under (rule (codes "S***** ****") (0 ∷ []) ∷ rule (codes "SM**** ****") (1 ∷ []) ∷ [])) ≡ [])
    × (findings (under (rule (codes "SM**** ****") (0 ∷ 1 ∷ []) ∷ rule (codes "S***** ****") (0 ∷ []) ∷ [])) ≡ [])

-- A bulletin goes to the circuits of all rules that match it, but for the one that it came in on.
abbrev pub Routes : Type 0
Routes = (circuits_from (three_circuits (codes "CCCC")) surface_report None ≡ 0 ∷ 1 ∷ 2 ∷ [])
    × (circuits_from (three_circuits (codes "CCCC")) surface_report (Some 0) ≡ 1 ∷ 2 ∷ [])
    × (matching (three_circuits (codes "CCCC")) surface_report ≡ 0 ∷ 1 ∷ [])
    × (matching (three_circuits (codes "CCCC")) warning ≡ [])
    × (level_of (three_circuits (codes "CCCC")) warning ≡ 1)
