-- Frames that are written one after another.
use Rattle.gts_sender.proofs.Cited.{◌≡◌, ◌<◌, ◌≤◌, ◌+◌, ℕ, suc, List, [], ◌∷◌, ◌++◌, length, take, drop, Result, Ok, Err, refl, sym, ap, ◌∙◌, arith, append_assoc, Frame, IsFront, Laid, Placed, Wrote, WroteUpTo, frames_in, frames_of, no_frame, slice_index_or, texts, split_at, append-nil, take_all, common_steps}

texts-append : (xs ys : List Frame) → texts (xs ++ ys) ≡ texts xs ++ texts ys
texts-append [] ys = refl
texts-append (x ∷ xs) ys = ap (λ (l : List ℕ). x.text ++ l) (texts-append xs ys) ∙ sym (append_assoc x.text (texts xs) (texts ys))

-- as many frames as places
frames-length : (each : List Placed) (bytes : List ℕ) → length (frames_in each bytes) ≡ length each
frames-length [] bytes = refl
frames-length (p ∷ each) bytes = omega (arith, frames-length each (drop p.size bytes))

pub there : (laid : Laid) (i : ℕ) → i < length laid.each → i < length (frames_of laid)
there laid i within = omega (arith, within, frames-length laid.each laid.bytes)

-- one frame more
pub one_more : (given : List Frame) (i : ℕ) (frame : Frame) → i < length given → slice_index_or given i no_frame ≡ frame
    → texts (take (i + 1) given) ≡ texts (take i given) ++ frame.text
one_more given i frame within is = grind (arith, common_steps, texts-append, append-nil)

-- all of them
pub all_of : (laid : Laid) (n : ℕ) → length laid.each ≤ n → texts (take n (frames_of laid)) ≡ texts (frames_of laid)
all_of laid n whole = ap texts (take_all n (frames_of laid) (omega (arith, whole, frames-length laid.each laid.bytes)))

-- up to one within which the line failed
pub up_to : (given : List Frame) (i : ℕ) (frame : Frame) (part : List ℕ) → i < length given → slice_index_or given i no_frame ≡ frame → IsFront part frame.text
    → WroteUpTo given frame.index (texts (take i given) ++ part)
up_to given i frame part within is front = record {
  front = take i given;
  frame = frame;
  back = drop (suc i) given;
  parts = split_at given i no_frame within ∙ ap (λ (f : Frame). take i given ++ f ∷ drop (suc i) given) is;
  index_is = refl;
  part = part;
  within = front;
  is = refl;
}

-- what was written of a piece is a front of it
pub front_of : {T E : Type 0} (result : Result T E) (piece bytes : List ℕ) → Wrote result piece bytes → IsFront bytes piece
front_of (Ok x) piece bytes wrote = ([], sym wrote ∙ sym (append-nil bytes))
front_of (Err e) piece bytes wrote = wrote
