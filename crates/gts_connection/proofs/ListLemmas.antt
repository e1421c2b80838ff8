-- Lists that begin with others.
use Rattle.gts_connection.proofs.Cited.{◌≡◌, ℕ, true, nat_eq, List, ◌++◌, length, take, drop, sym, ap, ◌∙◌, pointwise, same_text, starts_with, take-append-drop, take-append_seam, same_bytes}

pub starts_with-append : (xs ys : List ℕ) → starts_with nat_eq (xs ++ ys) xs ≡ true
starts_with-append xs ys = ap (pointwise nat_eq xs) (take-append_seam xs ys) ∙ same_bytes xs

pub starts_is : (xs p : List ℕ) → starts_with nat_eq xs p ≡ true → xs ≡ p ++ drop (length p) xs
starts_is xs p h = sym (take-append-drop (length p) xs) ∙ ap (λ (f : List ℕ). f ++ drop (length p) xs) (sym (same_text p (take (length p) xs) (sym h)))
