-- What the desk of a sender's tests has seen: its only circuit is owed its last draw, of a bulletin with an empty body, and it was
-- asked for takes alone.
use Rattle.std.specs.Prelude.{ℕ, true, false, List, [], ◌∷◌, None, replicate}
use Rattle.gts_circuit_tests.specs.Cited.Below.{An, Directory, Done, Entry, Need, Seen, Taken, circuit_of, localhost}

-- a directory with one circuit
abbrev pub one_circuit : Directory
one_circuit = record {
  centre = [];
  window = 0;
  limit = 0;
  address = localhost;
  mark = [];
  circuits = record (circuit_of [] []) { kept = 1 } ∷ [];
  rules = [];
  levels = [];
}

-- one bulletin was drawn, and is owed once more
abbrev pub one_owed : Need
one_owed = record {
  accepted = 1;
  bulletins = record { position = 0; from = 0; kind = An; body = 3 ∷ [] } ∷ [];
  circuits = record { draws = 1; waiting = []; kept = 0 ∷ []; owed = 0 ∷ [] } ∷ [];
}

-- so many takes
abbrev pub taken : ℕ → List (ℕ × Entry)
taken count = replicate count (0, Done (Taken 0))

abbrev pub seen_by : ℕ → Seen
seen_by count = record {
  hall = None;
  directory = one_circuit;
  start = one_owed;
  used = 0;
  makes_room = false;
  name = 0;
  turns = count;
  full = true;
  history = taken count;
}
