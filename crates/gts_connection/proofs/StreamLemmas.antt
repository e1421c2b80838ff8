-- Any bytes of a connection have the events that are computed and no others, and more bytes only add events.
use Rattle.gts_connection.proofs.Cited.{◌≡◌, ℕ, true, false, List, [], ◌∷◌, ◌++◌, length, drop, Option, Some, None, refl, sym, ap, subst, ◌∙◌, IsSome, Event, Frame, FrameField, IsConnection, IsStreamFront, KeepAlive, Piece, Shows, Sign, break_of, connection, events_added, events_of, events_of_signs, held_in, is_lost, list_any, loss_of, open_part, signs_in, signs_of, append-nil, append_assoc, append_cancel_left, drop-append_seam, shows-computed, shows-one, open-front, front-open, reads-open, reads-lost, common_steps, arith}
use Rattle.gts_connection.proofs.StepsLemmas.{events-shown, connection-signs, added-more}

-- ---- the events of bytes

-- any reading of the bytes has the events that are computed
pub connection-unique : (c : ℕ) (bytes : List ℕ) (events : List Event) → IsConnection c bytes events → events ≡ connection c bytes
connection-unique c bytes events r =
    let shown : Shows bytes (signs_of r.pieces ++ break_of r.field) = record { pieces = r.pieces; each = r.each; rest = r.rest; text = r.text; field = r.field; ending = r.ending; signs_are = refl } in
    r.events_are ∙ sym (events-shown c r.pieces r.field)
    ∙ ap (events_of_signs c) (sym (shows-one bytes (signs_of r.pieces ++ break_of r.field) shown).0)
    ∙ sym (connection-signs c bytes)

-- all bytes have the events that are computed
pub connection-is : (c : ℕ) (bytes : List ℕ) → IsConnection c bytes (connection c bytes)
connection-is c bytes =
    let s = shows-computed bytes in
    record {
      pieces = s.pieces;
      each = s.each;
      rest = s.rest;
      text = s.text;
      field = s.field;
      ending = s.ending;
      events_are = connection-signs c bytes ∙ ap (events_of_signs c) s.signs_are ∙ events-shown c s.pieces s.field;
    }

-- ---- more bytes only add events

connection-grows : (c : ℕ) (before more : List ℕ) → (added : List Event) × (connection c (before ++ more) ≡ connection c before ++ added)
connection-grows c before more = go (held_in before) refl
  where
    go : (o : Option (List ℕ)) → held_in before ≡ o → (added : List Event) × (connection c (before ++ more) ≡ connection c before ++ added)
    go (Some held) e = let new : List Sign = signs_in (held ++ more) in (events_of_signs c new, added-more c before more new (reads-open before more held e).0)
    go None e = ([], added-more c before more [] ((reads-lost before more e).0 ∙ sym (append-nil (signs_in before))))

pub connection-added : (c : ℕ) (before more : List ℕ) → connection c (before ++ more) ≡ connection c before ++ events_added c before more
connection-added c before more =
    let g = connection-grows c before more in
    g.1 ∙ ap (λ (es : List Event). connection c before ++ es) (sym (ap (drop (length (connection c before))) g.1 ∙ drop-append_seam (connection c before) g.0))

-- what two pieces of bytes add is what they add one after the other
pub added-twice : (c : ℕ) (before x y : List ℕ) → events_added c before (x ++ y) ≡ events_added c before x ++ events_added c (before ++ x) y
added-twice c before x y = grind (arith, common_steps, append_cancel_left, connection-added, append_assoc)

-- ---- a loss

none_lost : (c : ℕ) (ps : List Piece) (es : List Event) → list_any is_lost (events_of c ps ++ es) ≡ list_any is_lost es
none_lost c [] es = refl
none_lost c (Frame kind message ∷ ps) es = none_lost c ps es
none_lost c (KeepAlive kind ∷ ps) es = none_lost c ps es

-- one of the events is a loss exactly where nothing goes on behind the bytes
lost-held : (c : ℕ) (bytes : List ℕ) → (list_any is_lost (connection c bytes) ≡ true → held_in bytes ≡ None) × (IsSome (held_in bytes) → list_any is_lost (connection c bytes) ≡ false)
    × (list_any is_lost (connection c bytes) ≡ false → IsSome (held_in bytes))
lost-held c bytes =
    let s = shows-computed bytes in
    let events : connection c bytes ≡ events_of c s.pieces ++ loss_of c s.field = connection-signs c bytes ∙ ap (events_of_signs c) s.signs_are ∙ events-shown c s.pieces s.field in
    go s.rest s.field (shows-one bytes (signs_in bytes) s).1 (ap (list_any is_lost) events ∙ none_lost c s.pieces (loss_of c s.field))
  where
    go : (rest : List ℕ) (field : Option FrameField) → held_in bytes ≡ open_part rest field → list_any is_lost (connection c bytes) ≡ list_any is_lost (loss_of c field)
        → (list_any is_lost (connection c bytes) ≡ true → held_in bytes ≡ None) × (IsSome (held_in bytes) → list_any is_lost (connection c bytes) ≡ false)
        × (list_any is_lost (connection c bytes) ≡ false → IsSome (held_in bytes))
    go rest None held lost = ((λ t. absurd (cc)), (λ some. lost), (λ f. rw held refl))
    go rest (Some field) held lost = ((λ t. held), (λ some. absurd (let f : false ≡ true = subst (λ (o : Option (List ℕ)). IsSome o) held some in cc)), (λ f. absurd (cc)))

pub nothing_after_loss : (c : ℕ) (before more : List ℕ) → list_any is_lost (connection c before) ≡ true → events_added c before more ≡ []
nothing_after_loss c before more h =
    let same = (reads-lost before more ((lost-held c before).0 h)).0 ∙ sym (append-nil (signs_in before)) in
    append_cancel_left (connection c before) (events_added c before more) [] (sym (connection-added c before more) ∙ added-more c before more [] same)

pub front-not_lost : (c : ℕ) (bytes : List ℕ) → IsStreamFront bytes → list_any is_lost (connection c bytes) ≡ false
front-not_lost c bytes f = (lost-held c bytes).1 (front-open bytes f)

pub not_lost-front : (c : ℕ) (bytes : List ℕ) → list_any is_lost (connection c bytes) ≡ false → IsStreamFront bytes
not_lost-front c bytes h = open-front bytes ((lost-held c bytes).2 h)
