-- The entries of a capture come on circuits of the directory.
use Rattle.gts_connection.proofs.Cited.{◌≡◌, ℕ, zero, suc, ◌+◌, Bool, true, nat_lt, List, [], ◌∷◌, ◌++◌, length, get_or, drop, replicate, Option, Some, None, refl, ap, ◌∙◌, AreStepsOf, CaptureKind, Compact, Connections, Directory, Drain, Entry, Event, Feed, Frame, FrameField, IsHeadOf, KeepAlive, Piece, Reopen, Restart, State, Step, Take, Taken, after_all, after_step, all_done, circuit_of_event, connection, entries, entries_from, entries_of_step, events_added, events_of, head_of, is_here, left_to_give, list_all, loss_of, no_bytes, on_circuit, and_parts, and_from, lt-ltb, list_all-append}
use Rattle.gts_connection.proofs.StreamLemmas.{connection-is}

-- an event comes on a circuit below this number
abbrev below : ℕ → Event → Bool
below n event = nat_lt (circuit_of_event event) n

pieces_below : (n c : ℕ) (ps : List Piece) → nat_lt c n ≡ true → list_all (below n) (events_of c ps) ≡ true
pieces_below n c [] h = refl
pieces_below n c (Frame kind message ∷ ps) h = and_from (nat_lt c n) (list_all (below n) (events_of c ps)) h (pieces_below n c ps h)
pieces_below n c (KeepAlive kind ∷ ps) h = pieces_below n c ps h

loss_below : (n c : ℕ) (field : Option FrameField) → nat_lt c n ≡ true → list_all (below n) (loss_of c field) ≡ true
loss_below n c None h = refl
loss_below n c (Some field) h = and_from (nat_lt c n) true h refl

connection_below : (n c : ℕ) (bytes : List ℕ) → nat_lt c n ≡ true → list_all (below n) (connection c bytes) ≡ true
connection_below n c bytes h =
    let r = connection-is c bytes in
    ap (list_all (below n)) r.events_are ∙ list_all-append (below n) (events_of c r.pieces) (loss_of c r.field)
    ∙ and_from (list_all (below n) (events_of c r.pieces)) (list_all (below n) (loss_of c r.field)) (pieces_below n c r.pieces h) (loss_below n c r.field h)

all_dropped : (f : Event → Bool) (k : ℕ) (es : List Event) → list_all f es ≡ true → list_all f (drop k es) ≡ true
all_dropped f zero es h = h
all_dropped f (suc k) [] h = h
all_dropped f (suc k) (e ∷ es) h = all_dropped f k es (and_parts (f e) (list_all f es) h).1

all_repeated : (f : Event → Bool) (k : ℕ) (e : Event) → f e ≡ true → list_all f (replicate k e) ≡ true
all_repeated f zero e h = refl
all_repeated f (suc k) e h = and_from (f e) (list_all f (replicate k e)) h (all_repeated f k e h)

done_here : (d : Directory) (es : List Event) → list_all (below (length d.circuits)) es ≡ true → list_all (is_here d) (all_done es) ≡ true
done_here d [] h = refl
done_here d (e ∷ es) h =
    let both = and_parts (below (length d.circuits) e) (list_all (below (length d.circuits)) es) h in and_from (below (length d.circuits) e) (list_all (is_here d) (all_done es)) both.0 (done_here d es both.1)

step_here : (kind : CaptureKind) (d : Directory) (s : State) (bs : Connections) (step : Step) → IsHeadOf kind d (head_of step) → list_all (is_here d) (entries_of_step s bs step) ≡ true
step_here kind d s bs (Feed c bytes) h =
    let lt : nat_lt c (length d.circuits) ≡ true = lt-ltb c (length d.circuits) h.0 in
    let before : List ℕ = get_or bs c [] in
    done_here d (events_added c before bytes) (all_dropped (below (length d.circuits)) (length (connection c before)) (connection c (before ++ bytes)) (connection_below (length d.circuits) c (before ++ bytes) lt))
step_here kind d s bs (Take c) h = and_from (nat_lt c (length d.circuits)) true (lt-ltb c (length d.circuits) h) refl
step_here kind d s bs (Drain c) h =
    let lt : nat_lt c (length d.circuits) ≡ true = lt-ltb c (length d.circuits) h in
    done_here d (replicate (left_to_give (on_circuit s c) + 1) (Taken c)) (all_repeated (below (length d.circuits)) (left_to_give (on_circuit s c) + 1) (Taken c) lt)
step_here kind d s bs _ h = refl

steps_here : (kind : CaptureKind) (d : Directory) (s : State) (bs : Connections) (steps : List Step) → AreStepsOf kind d steps → list_all (is_here d) (entries_from d s bs steps) ≡ true
steps_here kind d s bs [] h = refl
steps_here kind d s bs (step ∷ steps) h =
    let added : List Entry = entries_of_step s bs step in
    let more : List Entry = entries_from d (after_all d s added) (after_step d bs step) steps in
    list_all-append (is_here d) added more
    ∙ and_from (list_all (is_here d) added) (list_all (is_here d) more) (step_here kind d s bs step h.0) (steps_here kind d (after_all d s added) (after_step d bs step) steps h.1)

pub entries_here : (kind : CaptureKind) (d : Directory) (s : State) (steps : List Step) → AreStepsOf kind d steps → list_all (is_here d) (entries d s steps) ≡ true
entries_here kind d s steps h = steps_here kind d s (no_bytes d) steps h
