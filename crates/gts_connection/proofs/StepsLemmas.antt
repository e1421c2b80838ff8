-- The events of a connection are those of the signs that its bytes show.
use Rattle.gts_connection.proofs.Cited.{◌≡◌, ℕ, zero, suc, ◌+◌, Bool, true, false, ◌==◌, cond, List, [], ◌∷◌, ◌++◌, length, drop, take, Option, Some, None, refl, sym, ap, ◌∙◌, find, nat_eq, An, Bi, Breaks, Carries, Decoding, Event, Frame, FrameField, Fx, Heard, IsFramed, KeepAlive, KeepsAlive, Kind, Lost, Piece, ReadsOn, Sign, break_at, break_of, connection, event_at, events_added, events_in, events_of, events_of_signs, frame, has_piece, length_in, letters, loss_at, loss_of, sign_at, signs_from, signs_in, signs_of, signs_of_step, starts_with, drop-append_seam, signs-piece, common_steps, arith}
use Rattle.gts_frame.specs.declared.step.Step.{Step}

pub signs-append : (c : ℕ) (xs ys : List Sign) → events_of_signs c (xs ++ ys) ≡ events_of_signs c xs ++ events_of_signs c ys
signs-append c [] ys = refl
signs-append c (Carries kind message ∷ xs) ys = ap (λ (es : List Event). Heard c kind message ∷ es) (signs-append c xs ys)
signs-append c (KeepsAlive ∷ xs) ys = signs-append c xs ys
signs-append c (Breaks field ∷ xs) ys = ap (λ (es : List Event). Lost c field ∷ es) (signs-append c xs ys)

events-pieces : (c : ℕ) (ps : List Piece) → events_of_signs c (signs_of ps) ≡ events_of c ps
events-pieces c [] = refl
events-pieces c (Frame kind message ∷ ps) = ap (λ (es : List Event). Heard c kind message ∷ es) (events-pieces c ps)
events-pieces c (KeepAlive kind ∷ ps) = events-pieces c ps

events-break : (c : ℕ) (field : Option FrameField) → events_of_signs c (break_of field) ≡ loss_of c field
events-break c None = refl
events-break c (Some field) = refl

-- the signs of pieces and of a loss are their events
pub events-shown : (c : ℕ) (ps : List Piece) (field : Option FrameField) → events_of_signs c (signs_of ps ++ break_of field) ≡ events_of c ps ++ loss_of c field
events-shown c ps field = grind (arith, common_steps, signs-append, events-pieces, events-break)

event-sign : (c : ℕ) (bytes : List ℕ) → event_at c bytes ≡ events_of_signs c (sign_at bytes)
event-sign c bytes = go (find (λ kind. starts_with nat_eq (drop 8 bytes) (letters kind)) (An ∷ Bi ∷ Fx ∷ []))
  where
    by_size : (kind : Kind) (b : Bool) → cond b [] (Heard c kind (take (length_in bytes) (drop 10 bytes)) ∷ []) ≡ events_of_signs c (cond b (KeepsAlive ∷ []) (Carries kind (take (length_in bytes) (drop 10 bytes)) ∷ []))
    by_size kind true = refl
    by_size kind false = refl

    go : (o : Option Kind)
        → elim o as (λ _. List Event) [ None ↦ [] | Some kind ↦ cond (length_in bytes == 0) [] (Heard c kind (take (length_in bytes) (drop 10 bytes)) ∷ []) ]
        ≡ events_of_signs c (elim o as (λ _. List Sign) [ None ↦ [] | Some kind ↦ cond (length_in bytes == 0) (KeepsAlive ∷ []) (Carries kind (take (length_in bytes) (drop 10 bytes)) ∷ []) ])
    go None = refl
    go (Some kind) = by_size kind (length_in bytes == 0)

loss-break : (c : ℕ) (bytes : List ℕ) → loss_at c bytes ≡ events_of_signs c (break_at bytes)
loss-break c bytes = grind (arith, common_steps)

events-signs : (c n : ℕ) (bytes : List ℕ) → events_in c n bytes ≡ events_of_signs c (signs_from n bytes)
events-signs c zero bytes = refl
events-signs c (suc n) bytes = go (has_piece bytes) (events-signs c n (drop (10 + length_in bytes) bytes))
  where
    go : (b : Bool) → events_in c n (drop (10 + length_in bytes) bytes) ≡ events_of_signs c (signs_from n (drop (10 + length_in bytes) bytes))
        → elim b as (λ _. List Event) [ true ↦ event_at c bytes ++ events_in c n (drop (10 + length_in bytes) bytes) | false ↦ loss_at c bytes ]
        ≡ events_of_signs c (elim b as (λ _. List Sign) [ true ↦ sign_at bytes ++ signs_from n (drop (10 + length_in bytes) bytes) | false ↦ break_at bytes ])
    go true more =
        ap (λ (es : List Event). es ++ events_in c n (drop (10 + length_in bytes) bytes)) (event-sign c bytes)
        ∙ ap (λ (es : List Event). events_of_signs c (sign_at bytes) ++ es) more
        ∙ sym (signs-append c (sign_at bytes) (signs_from n (drop (10 + length_in bytes) bytes)))
    go false more = loss-break c bytes

pub connection-signs : (c : ℕ) (bytes : List ℕ) → connection c bytes ≡ events_of_signs c (signs_in bytes)
connection-signs c bytes = events-signs c (length bytes) bytes

pub events-frame : (c n : ℕ) (kind : Kind) (message rest : List ℕ) → IsFramed message → events_in c (n + 1) (frame kind message ++ rest) ≡ Heard c kind message ∷ events_in c n rest
events-frame c n kind message rest h =
    events-signs c (n + 1) (frame kind message ++ rest)
    ∙ ap (events_of_signs c) (signs-piece n (Frame kind message) rest h)
    ∙ ap (λ (es : List Event). Heard c kind message ∷ es) (sym (events-signs c n rest))

-- what more signs there are, the events have more
pub added-more : (c : ℕ) (before more : List ℕ) (signs : List Sign) → signs_in (before ++ more) ≡ signs_in before ++ signs
    → connection c (before ++ more) ≡ connection c before ++ events_of_signs c signs
added-more c before more signs e = grind (arith, common_steps, connection-signs, signs-append)

pub added-signs : (c : ℕ) (before taken : List ℕ) (step : Step) (now : Decoding) → ReadsOn before taken step now → events_added c before taken ≡ events_of_signs c (signs_of_step step now.message)
added-signs c before taken step now r =
    let new : List Event = events_of_signs c (signs_of_step step now.message) in
    ap (drop (length (connection c before))) (added-more c before taken (signs_of_step step now.message) r.signs) ∙ drop-append_seam (connection c before) new
