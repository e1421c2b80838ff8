-- What comes over a connection: the messages of its frames, and the loss of synchronisation (profile).
use Rattle.std.specs.Prelude.{◌≡◌, ℕ, zero, suc, ◌+◌, Bool, true, false, not, ◌==◌, nat_eq, List, [], ◌∷◌, ◌++◌, length, take, drop, find, flat_map, Option, Some, None, if◌then◌else◌}
use Rattle.gts_connection.specs.Cited.Below.{AllByRecursion, An, Bi, Event, Frame, FrameField, Fx, Heard, IsPiece, KeepAlive, Lost, Piece, Rest, field_at, has_piece, is_front, length_in, letters, piece_text, range_with_len, starts_with}

-- ---- as a grammar

-- the events of the frames, in order
abbrev pub events_of : ℕ → List Piece → List Event
events_of circuit [] = []
events_of circuit (Frame kind message ∷ pieces) = Heard circuit kind message ∷ events_of circuit pieces
events_of circuit (KeepAlive kind ∷ pieces) = events_of circuit pieces

-- the event of a loss, where there is one
abbrev pub loss_of : ℕ → Option FrameField → List Event
loss_of circuit None = []
loss_of circuit (Some field) = Lost circuit field ∷ []

-- the bytes of a connection have these events
pub record IsConnection (circuit : ℕ) (bytes : List ℕ) (events : List Event) : Type 0 where
  pub pieces : List Piece
  pub each : AllByRecursion IsPiece pieces
  pub rest : List ℕ
  pub text : bytes ≡ flat_map piece_text pieces ++ rest
  pub field : Option FrameField
  pub ending : Rest rest field
  pub events_are : events ≡ events_of circuit pieces ++ loss_of circuit field

-- ---- as it is computed

-- the event of the frame or keep-alive that stands at the front: none of a keep-alive
abbrev pub event_at : ℕ → List ℕ → List Event
event_at circuit bytes =
    elim (find (λ kind. starts_with nat_eq (drop 8 bytes) (letters kind)) (An ∷ Bi ∷ Fx ∷ [])) [
      | None ↦ []
      | Some kind ↦ if length_in bytes == 0 then [] else Heard circuit kind (take (length_in bytes) (drop 10 bytes)) ∷ []
    ]

-- the loss at the first byte that no frame or keep-alive has there
abbrev pub loss_at : ℕ → List ℕ → List Event
loss_at circuit bytes =
    elim (find (λ n. not (is_front (take n bytes))) (range_with_len 1 (length bytes))) [
      | None ↦ []
      | Some n ↦ Lost circuit (field_at n) ∷ []
    ]

-- the events of bytes: of each whole frame in turn, and the loss behind them; `n` is at least the number of bytes
abbrev pub events_in : ℕ → ℕ → List ℕ → List Event
events_in circuit zero bytes = []
events_in circuit (suc n) bytes =
    elim (has_piece bytes) [
      | true ↦ event_at circuit bytes ++ events_in circuit n (drop (10 + length_in bytes) bytes)
      | false ↦ loss_at circuit bytes
    ]

-- the events of a connection's bytes
abbrev pub connection : ℕ → List ℕ → List Event
connection circuit bytes = events_in circuit (length bytes) bytes

-- the events that a connection has with these bytes, and had not without them
abbrev pub events_added : ℕ → List ℕ → List ℕ → List Event
events_added circuit before bytes = drop (length (connection circuit before)) (connection circuit (before ++ bytes))

-- the loss of synchronisation
abbrev pub is_lost : Event → Bool
is_lost (Lost circuit field) = true
is_lost _ = false
