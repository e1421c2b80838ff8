-- What a feed comes to where it is taken into a journal (profile): the records that are added, and how it ends.
use Rattle.std.specs.Prelude.{ℕ, zero, suc, ◌+◌, ◌-◌, Bool, true, false, ◌&&◌, ◌||◌, not, ◌==◌, nat_eq, nat_lt, nat_le, is_some, if◌then◌else◌, List, [], ◌∷◌, ◌++◌, length, take, drop, replicate, zip, codes, Option, Some, None}
use Rattle.gts_standby.specs.Cited.Below.{Bulletin, Circuit, CircuitNeed, Directory, FRONT, LONGEST_BODY, Listed, Need, Record, State, Version, admits_checkpoint, after, agreeing, begun, checkpoint_text, compacted_bytes, event_of_record, first_seal, front_counts, is_sealed, list_any, listed_size, magic, need, need_in, open_gate, pointwise, record_at, record_behind, record_size, record_text, seal, seal_size, sealed_at, starts_with}

-- How a feed ends: it is taken to its end; or it is bad at a place; or it has another record with a number, where these two seals
-- stand, the journal's and the feed's.
pub data End : Type 0 where
  Ends : End
  Breaks : (at : ℕ) → End
  Parts : (index : ℕ) → (own fed : List ℕ) → End

-- a checkpoint with which the journal begins, or none; the records that are added; and the end
pub record Taken : Type 0 where
  pub begins : Option Need
  pub records : List Record
  pub end : End

-- nothing is added
abbrev pub stopped : End → Taken
stopped end = record { begins = None; records = []; end = end }

-- one record more is added before others
abbrev pub adding : Record → Taken → Taken
adding r taken = record taken { records = r ∷ taken.records }

-- ---- what stands at the front of a feed

-- A record that is cut, or whose seal is; bytes that no record has there, or with which another seal stands; or a record, of so many
-- bytes with its seal, and that.
pub data Piece : Type 0 where
  Cut : Piece
  Broken : Piece
  Sealed : (size : ℕ) → (seal : List ℕ) → Piece

-- what a record may have behind its first bytes, where its body is empty: the rest of an accepted bulletin, or of a draw
abbrev pub rest_of : List ℕ → List ℕ
rest_of bytes =
    drop (length bytes)
    (if starts_with nat_eq bytes (codes "D") then codes "D" ++ replicate 22 0 else codes "A" ++ 0 ∷ codes "A" ++ replicate 13 0)

-- bytes that are no whole record may be the front of one, whatever stands before them
abbrev pub may_begin : List ℕ → Bool
may_begin [] = true
may_begin (byte ∷ bytes) = is_some (record_at ((byte ∷ bytes) ++ rest_of (byte ∷ bytes) ++ replicate LONGEST_BODY 0))

-- bytes, behind which there are none, are a record that was cut, or one whose seal was
abbrev pub may_be_cut : Version → List ℕ → Bool
may_be_cut v bytes =
    elim (record_at bytes) [ None ↦ may_begin bytes | Some r ↦ nat_lt (length bytes) (length (record_text r) + seal_size v) ]

-- the piece at the front, where no record stands there with its seal
abbrev pub unsealed : Version → List ℕ → Piece
unsealed v bytes = if may_be_cut v bytes then Cut else Broken

-- the record at the front, where this seal stands before it
abbrev pub record_piece : Version → List ℕ → List ℕ → Piece
record_piece v before bytes =
    elim (sealed_at v before bytes) [ None ↦ unsealed v bytes | Some r ↦ Sealed (record_size v r - 1) (seal v before (record_text r)) ]

-- ---- how long a checkpoint is

-- it is cut, or it has bytes that no checkpoint has there, or so many bytes stand there
pub data Reached : Type 0 where
  Short : Reached
  Bad : Reached
  Behind : (at : ℕ) → Reached

-- behind so many bytes more, in a checkpoint no longer than a limit
abbrev pub reach : ℕ → List ℕ → ℕ → ℕ → Reached
reach limit bytes at size =
    if nat_lt limit (at + size) then Bad else if nat_lt (length bytes) (at + size) then Short else Behind (at + size)

-- behind something of which the size is found by its first bytes, or which can't stand there
abbrev pub reach_found : ℕ → List ℕ → ℕ → Option ℕ → Reached
reach_found limit bytes at None = Bad
reach_found limit bytes at (Some size) = reach limit bytes at size

-- behind a bulletin or a circuit
abbrev pub behind_one : Listed → ℕ → List ℕ → ℕ → Reached
behind_one listed limit bytes at = reach_found limit bytes at (listed_size listed (drop at bytes))

-- behind one, and what is reached from there
abbrev pub and_then : Reached → (ℕ → Reached) → Reached
and_then Short next = Short
and_then Bad next = Bad
and_then (Behind at) next = next at

-- behind so many of them
abbrev pub behind_all : (ℕ → Reached) → ℕ → ℕ → Reached
behind_all one zero at = Behind at
behind_all one (suc n) at = and_then (one at) (behind_all one n)

-- behind so many bulletins and circuits of a checkpoint
abbrev pub behind_counted : ℕ → List ℕ → ℕ → ℕ → Reached
behind_counted limit bytes bulletins circuits =
    and_then (reach limit bytes 0 FRONT)
    (λ at. and_then (behind_all (behind_one Bulletin limit bytes) bulletins at) (behind_all (behind_one Circuit limit bytes) circuits))

-- behind those of a checkpoint that has so many circuits and bulletins, or that can't stand there
abbrev pub behind_front : ℕ → List ℕ → Option (ℕ × ℕ) → Reached
behind_front limit bytes None = Bad
behind_front limit bytes (Some counts) = behind_counted limit bytes counts.1 counts.0

-- behind the checkpoint at the front
abbrev pub behind_checkpoint : ℕ → List ℕ → Reached
behind_checkpoint limit bytes = behind_front limit bytes (front_counts bytes)

-- the checkpoint that ends there, where this seal stands before it
abbrev pub checkpoint_by : Version → List ℕ → List ℕ → Reached → Piece
checkpoint_by v before bytes Short = Cut
checkpoint_by v before bytes Bad = Broken
checkpoint_by v before bytes (Behind size) =
    if nat_lt (length bytes) (size + seal_size v) then Cut
    else if is_sealed v before (take size bytes) bytes then Sealed (size + seal_size v) (seal v before (take size bytes)) else Broken

-- the checkpoint at the front
abbrev pub checkpoint_piece : Version → ℕ → List ℕ → List ℕ → Piece
checkpoint_piece v limit before bytes = checkpoint_by v before bytes (behind_checkpoint limit bytes)

-- a checkpoint may stand first, by its first byte
abbrev pub is_checkpoint_fed : List ℕ → Bool
is_checkpoint_fed bytes = starts_with nat_eq bytes (codes "C")

-- the first record of a feed
abbrev pub first_piece : Version → ℕ → List ℕ → List ℕ → Piece
first_piece v limit before bytes = if is_checkpoint_fed bytes then checkpoint_piece v limit before bytes else record_piece v before bytes

-- ---- the seals of a journal

-- the seals of the records behind open gates from this gate on, where this seal stands before them. `n` is at least the number of
-- bytes left.
abbrev pub seals_at : Version → ℕ → List ℕ → List ℕ → List (List ℕ)
seals_at v (suc n) before (mark ∷ bytes) =
    elim (mark == open_gate) [
      | false ↦ []
      | true ↦ elim (sealed_at v before bytes) [
        | None ↦ []
        | Some r ↦ seal v before (record_text r) ∷ seals_at v n (seal v before (record_text r)) (drop (record_size v r - 1) bytes)
      ]
    ]
seals_at v _ before _ = []

-- the seal of the checkpoint of this need, and those of the records behind it
abbrev pub checkpoint_seals : Version → List ℕ → List ℕ → Need → List (List ℕ)
checkpoint_seals v before bytes n =
    let first : List ℕ = seal v before (checkpoint_text n) in first ∷ seals_at v (length bytes) first (drop (compacted_bytes v n - 1) bytes)

-- behind the header, by whether a checkpoint stands there
abbrev pub seals_behind : Version → List ℕ → List ℕ → Bool → List (List ℕ)
seals_behind v before bytes false = seals_at v (length bytes) before (drop 40 bytes)
seals_behind v before bytes true = checkpoint_seals v before bytes (need_in (drop 41 bytes))

-- ---- what becomes of a feed

-- by what stands first: it ends there, or goes on
abbrev pub by_piece : ℕ → Piece → (ℕ → List ℕ → Taken) → Taken
by_piece at Cut next = stopped Ends
by_piece at Broken next = stopped (Breaks at)
by_piece at (Sealed size fed) next = next size fed

-- a journal's seal and the feed's are compared
abbrev pub compared : ℕ → List ℕ → List ℕ → Taken → Taken
compared index own fed next = if pointwise nat_eq own fed then next else stopped (Parts index own fed)

-- Records of a journal with these seals are compared with those of the feed from this place on, where this seal stands before them;
-- and then the feed goes on.
abbrev pub compare_all : Version → (ℕ → List ℕ → Taken) → List (List ℕ) → List ℕ → ℕ → ℕ → List ℕ → Taken
compare_all v behind [] before index at bytes = behind at bytes
compare_all v behind (own ∷ more) before index at bytes =
    by_piece at (record_piece v before bytes) (λ size fed.
    compared index own fed (compare_all v behind more own (index + 1) (at + size) (drop size bytes)))

-- the first of them may be a checkpoint
abbrev pub compare_first : Version → ℕ → (ℕ → List ℕ → Taken) → List (List ℕ) → List ℕ → List ℕ → Taken
compare_first v limit behind [] before bytes = behind 40 bytes
compare_first v limit behind (own ∷ more) before bytes =
    by_piece 40 (first_piece v limit before bytes) (λ size fed.
    compared 0 own fed (compare_all v behind more own 1 (40 + size) (drop size bytes)))

-- Records of the feed from this place on are added to a journal with this state, gate and last seal. `n` is at least the number of
-- bytes left.
abbrev pub add_all : Version → Directory → ℕ → List ℕ → State → ℕ → ℕ → List ℕ → Taken
add_all v d zero before s gate at bytes = stopped Ends
add_all v d (suc n) before s gate at bytes = elim (record_behind v d before s gate bytes) [
  | None ↦ if may_be_cut v bytes then stopped Ends else stopped (Breaks at)
  | Some r ↦
      adding r
      (add_all v d n (seal v before (record_text r)) (after d s (event_of_record r)) (gate + record_size v r) (at + (record_size v r - 1))
      (drop (record_size v r - 1) bytes))
]

-- a journal that is empty begins with the checkpoint of this need, if that may be its first record, and then records are added
abbrev pub begin_with : Version → Directory → List ℕ → ℕ → List ℕ → Need → Taken
begin_with v d before size bytes n =
    if admits_checkpoint v d bytes n && nat_eq (length (checkpoint_text n) + seal_size v) size
    then record
    (add_all v d (length bytes) (seal v before (checkpoint_text n)) (begun n) (compacted_bytes v n - 1) (40 + size) (drop size bytes)) {
      begins = Some n;
    }
    else stopped (Breaks 40)

-- a journal begins with the checkpoint at the front of the feed, where this seal stands before it
abbrev pub begin_first : Version → Directory → List ℕ → List ℕ → Taken
begin_first v d before bytes =
    by_piece 40 (checkpoint_piece v d.limit before bytes) (λ size fed. begin_with v d before size bytes (need_in bytes))

-- how many bulletins came to a circuit: those that were drawn, and those that wait
abbrev pub came_to : CircuitNeed → ℕ
came_to c = c.draws + length c.waiting

-- fewer were drawn on a circuit, or fewer came to it. Within one history neither falls.
abbrev pub has_fewer : CircuitNeed → CircuitNeed → Bool
has_fewer fed own = nat_lt fed.draws own.draws || nat_lt (came_to fed) (came_to own)

-- a need is behind another one: fewer bulletins were accepted, or of one of the circuits fewer were drawn, or came to it
abbrev pub is_behind : Need → Need → Bool
is_behind fed own = nat_lt fed.accepted own.accepted || list_any (λ pair. has_fewer pair.0 pair.1) (zip fed.circuits own.circuits)

-- a journal that begins so has a checkpoint that isn't behind what this state has come to
abbrev pub is_further : Directory → State → Taken → Bool
is_further d s anew = elim anew.begins [ None ↦ false | Some n ↦ not (is_behind n (need d s)) ]

-- record 0 is another one
abbrev pub is_other_first : End → Bool
is_other_first (Parts zero own fed) = true
is_other_first (Parts (suc index) own fed) = false
is_other_first Ends = false
is_other_first (Breaks at) = false

-- Where record 0 is another one, and the feed begins with a checkpoint that isn't behind, the journal was compacted at the station:
-- it begins anew with that. Else it is as it was compared.
abbrev pub or_anew : Directory → State → Taken → Taken → Taken
or_anew d s anew compared = if is_other_first compared.end && is_further d s anew then anew else compared

-- the records of the feed behind its header, where the journal has this state, its end and the seals of its records
abbrev pub take_records : Version → Directory → State → ℕ → List ℕ → List (List ℕ) → List ℕ → Taken
take_records v d s gate last [] bytes =
    if is_checkpoint_fed bytes then begin_first v d last bytes else add_all v d (length bytes) last s gate 40 bytes
take_records v d s gate last (own ∷ more) bytes =
    or_anew d s (begin_first v d (first_seal v d.mark) bytes)
    (compare_first v d.limit (λ at left. add_all v d (length left) last s gate at left) (own ∷ more) (first_seal v d.mark) bytes)

-- the header of the feed is that of the journal; one that isn't whole is dropped
abbrev pub by_header : List ℕ → List ℕ → Taken → Taken
by_header header fed next =
    let same : ℕ = agreeing header fed in
    if same == 40 then next else if nat_le (length fed) same then stopped Ends else stopped (Breaks same)

-- what a feed comes to
abbrev pub taken : Version → Directory → State → ℕ → List ℕ → List (List ℕ) → List ℕ → Taken
taken v d s gate last own fed = by_header (magic v ++ d.mark) fed (take_records v d s gate last own (drop 40 fed))
