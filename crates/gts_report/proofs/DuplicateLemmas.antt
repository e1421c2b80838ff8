-- What is known behind a takeover is what is recent under the new directory.
use Rattle.gts_report.proofs.Cited.{◌≡◌, Bool, true, false, cond, List, [], ◌∷◌, filter, refl, sym, ap, ◌∙◌, or_left as recent_needed, Bulletin, Directory, Need, State, behind, circuit_needs, goes_on, is_needed, is_recent, known, recent_among}

-- what passes one test, of what passes a wider one
within : (p q : Bulletin → Bool) (bs : List Bulletin) → ((b : Bulletin) → p b ≡ true → q b ≡ true) → filter p (filter q bs) ≡ filter p bs
within p q [] wider = refl
within p q (b ∷ bs) wider = go (p b) refl (q b) refl (within p q bs wider)
  where
    go : (s : Bool) → p b ≡ s → (t : Bool) → q b ≡ t → filter p (filter q bs) ≡ filter p bs → filter p (cond t (b ∷ filter q bs) (filter q bs)) ≡ cond s (b ∷ filter p bs) (filter p bs)
    go true e true f more = rw e (ap (λ (l : List Bulletin). b ∷ l) more)
    go false e true f more = rw e more
    go false e false f more = more
    go true e false f more = absurd (no (sym (wider b e) ∙ f))
      where
        no : true ≡ false → ⊥
        no h = cc

pub known_behind : (new old : Directory) (n : Need) → known new (behind new old n) ≡ recent_among new n.accepted n.bulletins
known_behind new old n =
    let s : State = goes_on new old n in
    within (λ b. is_recent new n.accepted b.position) (λ b. is_needed new n.accepted (circuit_needs new s) b.position) n.bulletins
    (λ b recent. recent_needed (is_recent new n.accepted b.position) _ recent)
