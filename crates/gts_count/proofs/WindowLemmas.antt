-- The bulletins of the window, when one more is accepted.
use Rattle.gts_count.proofs.Cited.{◌≡◌, ℕ, ◌+◌, ◌≤◌, nat_le, List, [], ◌∷◌, ◌++◌, map, filter, refl, sym, ap, ◌∙◌, Accepted, Bulletin, Directory, HasWindow, Heard, Kind, Outcome, Recent, State, after, after_heard, arrived, body_of, counted_with, has, heading_of_message, heard_of, last_counted, named, need, outcome, recent, recent_of, tally, with_bulletin, map-append, filter_first, recent_more, recent_all, accepted_position, common_steps, arith}

-- what is counted is what the window has, though a need has fewer bulletins than a state
pub counts_window : (d : Directory) (t : State) → (tally d (need d t)).recent ≡ map recent_of (recent d t)
counts_window d t = grind (arith, common_steps, filter_first)

-- what is counted of the last ones
counts_last : (w n : ℕ) (bs : List Bulletin) → map recent_of (filter (λ (b : Bulletin). nat_le n (b.position + w)) bs) ≡ filter (λ (r : Recent). nat_le n (r.position + w)) (map recent_of bs)
counts_last w n [] = refl
counts_last w n (b ∷ bs) = grind (arith, common_steps, counts_last w n bs)

-- the bulletin that a message is accepted as
abbrev new_bulletin : State → ℕ → Kind → List ℕ → Bulletin
new_bulletin s c kind m = record { position = s.count; from = c; kind = kind; body = body_of m }

abbrev then : Directory → State → ℕ → Kind → List ℕ → State
then d s c kind m = with_bulletin s c kind (body_of m) (named d c (heading_of_message m))

is_then : (d : Directory) (s : State) (c : ℕ) (kind : Kind) (m : List ℕ) (p n : ℕ) → outcome d s (Heard c kind m) ≡ Accepted p n → after d s (Heard c kind m) ≡ then d s c kind m
is_then d s c kind m p n is = ap (λ (o : Outcome). after_heard d s c kind m o) is

pub joins_window : (d : Directory) (s : State) (c : ℕ) (kind : Kind) (m : List ℕ) (p n : ℕ) → outcome d s (Heard c kind m) ≡ Accepted p n
    → (tally d (need d (after d s (Heard c kind m)))).recent ≡ counted_with d s (arrived p (heard_of c m))
joins_window d s c kind m p n is =
    let b : Bulletin = new_bulletin s c kind m in
    let t : State = then d s c kind m in
    ap (λ (x : State). (tally d (need d x)).recent) (is_then d s c kind m p n is)
    ∙ counts_window d t
    ∙ ap (map recent_of) (recent_more d s b t refl refl)
    ∙ counts_last d.window (s.count + 1) (recent d s ++ b ∷ [])
    ∙ ap (last_counted d (s.count + 1)) (map-append recent_of (recent d s) (b ∷ []))
    ∙ ap (λ (rs : List Recent). last_counted d (s.count + 1) (rs ++ recent_of b ∷ [])) (sym (counts_window d s))
    ∙ ap (λ (q : ℕ). counted_with d s (arrived q (heard_of c m))) (sym (accepted_position d s c kind m p n is))

pub window_goes_on : (d : Directory) (s : State) (c : ℕ) (kind : Kind) (m : List ℕ) (p n : ℕ) → 1 ≤ d.window → HasWindow d s → outcome d s (Heard c kind m) ≡ Accepted p n → HasWindow d (after d s (Heard c kind m))
window_goes_on d s c kind m p n one has is = grind (arith, common_steps, recent_all, is_then)
