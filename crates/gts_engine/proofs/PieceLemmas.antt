-- Pieces that are held, said one behind the other.
use Rattle.gts_engine.proofs.Cited.{◌≡◌, ◌<◌, inl, inr, ⊎_elim, ℕ, zero, suc, List, [], ◌∷◌, ◌++◌, length, take, drop, Result, Ok, refl, sym, ap, subst, ◌∙◌, arith, append_assoc, take-append-drop, Call, Directory, EachSince, InHand, IsFront, OpensAlong, OpensBetween, OpensToOneOf, Outside, SaidSince, Says, StandsFor, State, Tries, TriesPiece, joined, on, said_by, slice_index_or, append-nil, started, weaker, said_is, images_open, say_stands_for, common_steps}
use Rattle.gts_traits.proofs.LawLemmas.{joined as one_by_one, told as say_told}
use Rattle.gts_engine.proofs.TurnLemmas.{says_front}

-- ---- pieces

-- one piece more
pub joined_more : (ps : List Outside) (i : ℕ) → i < length ps → joined (take (suc i) ps) ≡ joined (take i ps) ++ slice_index_or ps i []
joined_more [] i within = absurd (omega (arith, within))
joined_more (p ∷ ps) zero within = append-nil p
joined_more (p ∷ ps) (suc i) within = grind (arith, common_steps, joined_more ps i (omega (arith, within)))

-- and what stands behind it
pub joined_split : (ps : List Outside) (i : ℕ) → i < length ps → joined ps ≡ joined (take i ps) ++ (slice_index_or ps i [] ++ joined (drop (suc i) ps))
joined_split [] i within = absurd (omega (arith, within))
joined_split (p ∷ ps) zero within = refl
joined_split (p ∷ ps) (suc i) within = grind (arith, common_steps, joined_split ps i (omega (arith, within)))

empty_parts : (a b : Outside) → a ++ b ≡ [] → (a ≡ []) × (b ≡ [])
empty_parts [] b e = (refl, e)
empty_parts (x ∷ a) b e = absurd (cc e)

-- where nothing is to be said, each piece is empty
pub each_empty : (ps : List Outside) (i : ℕ) → joined ps ≡ [] → slice_index_or ps i [] ≡ []
each_empty [] i e = refl
each_empty (p ∷ ps) zero e = (empty_parts p (joined ps) e).0
each_empty (p ∷ ps) (suc i) e = each_empty ps i (empty_parts p (joined ps) e).1

-- ---- one of them is said

module _ (d : Directory) (ps : List Outside) (old mid : List Call) (j : InHand) (i : ℕ) (within : i < length ps) (so_far : SaidSince old mid (joined (take i ps))) where
  -- a front of it makes a front of all
  front_of_all : (part rest : Outside) → slice_index_or ps i [] ≡ part ++ rest → IsFront (joined (take i ps) ++ part) (joined ps)
  front_of_all part rest is = (
    rest ++ joined (drop (suc i) ps),
    joined_split ps i within ∙ ap (λ (l : Outside). joined (take i ps) ++ (l ++ joined (drop (suc i) ps))) is
        ∙ ap (λ (l : Outside). joined (take i ps) ++ l) (append_assoc part rest (joined (drop (suc i) ps)))
        ∙ sym (append_assoc (joined (take i ps)) part (rest ++ joined (drop (suc i) ps))),
  )

  module _ {T E : Type 0} (result : Result T E) (new : List Call) (tries : TriesPiece (slice_index_or ps i []) result mid new) where
    -- the journal stays
    pub piece_stands : (s : State) → StandsFor d s mid j → StandsFor d s new j
    piece_stands s stands = ⊎_elim (λ t. say_stands_for d s result tries.0 tries.1 mid new j t stands) (λ same. subst (λ (l : List Call). StandsFor d s l j) (sym same.1) stands) tries.3

    pub piece_moments : (s : State) → StandsFor d s mid j → EachSince old mid (OpensAlong d s (joined ps)) → EachSince old new (OpensAlong d s (joined ps))
    piece_moments s stands each = ⊎_elim said_now (λ same. subst (λ (l : List Call). EachSince old l (OpensAlong d s (joined ps))) (sym same.1) each) tries.3
      where
        bytes_split : (n : ℕ) → slice_index_or ps i [] ≡ take n (on tries.0 tries.1) ++ drop n (on tries.0 tries.1)
        bytes_split n = tries.2 ∙ sym (take-append-drop n (on tries.0 tries.1))

        said_now : Tries (Says tries.0 tries.1) result mid new → EachSince old new (OpensAlong d s (joined ps))
        said_now t =
            say_told (OpensAlong d s (joined ps)) old mid each result tries.0 tries.1 new
            (λ files n image. subst (λ (l : Outside). OpensAlong d s (joined ps) files (l ++ take n (on tries.0 tries.1))) (sym (said_is (OpensAlong d s (joined ps)) old mid each (joined (take i ps)) so_far))
            (front_of_all (take n (on tries.0 tries.1)) (drop n (on tries.0 tries.1)) (bytes_split n), images_open d s mid j stands files image))
            t

    -- what was said of it
    pub piece_part : (part : Outside) × IsFront part (slice_index_or ps i []) × SaidSince mid new part
    piece_part = ⊎_elim
        (λ t. let f = says_front result tries.0 tries.1 mid new t in (f.0, (f.1.0, tries.2 ∙ f.1.1), f.2))
        (λ same. ([], (slice_index_or ps i [], refl), ap said_by same.1 ∙ sym (append-nil (said_by mid)))) tries.3

    pub failed_part : (part : Outside) × IsFront part (slice_index_or ps i []) × SaidSince old new (joined (take i ps) ++ part)
    failed_part =
        let p = piece_part in
        (p.0, p.1, p.2 ∙ ap (λ (l : Outside). l ++ p.0) so_far ∙ append_assoc (said_by old) (joined (take i ps)) p.0)

-- all of it
pub piece_said : {T E : Type 0} (ps : List Outside) (old mid new : List Call) (i : ℕ) → i < length ps → SaidSince old mid (joined (take i ps)) → (result : Result T E) (x : T) → result ≡ Ok x
    → TriesPiece (slice_index_or ps i []) result mid new → SaidSince old new (joined (take (suc i) ps))
piece_said {T} {E} ps old mid new i within so_far result x ok tries = grind (arith, common_steps, joined_more, append-nil)

-- nothing was said yet
pub nothing_yet : (d : Directory) (ps : List Outside) (calls : List Call) (j : InHand) (s : State) → StandsFor d s calls j → EachSince calls calls (OpensAlong d s (joined ps))
nothing_yet d ps calls j s stands = started calls (OpensAlong d s (joined ps)) (λ files image. ((joined ps, refl), images_open d s calls j stands files image))

-- ---- what was gathered is brought, and then said

-- what is brought is nothing said
pub brought_only : (d : Directory) (s t : State) (all : Outside) (old new : List Call) → EachSince old new (OpensToOneOf d s t) → EachSince old new (OpensBetween d s t all)
brought_only d s t all old new each =
    weaker (OpensToOneOf d s t) (OpensBetween d s t all) old new
    (λ files out left. ⊎_elim (λ this. inl (left.0, this)) (λ next. inr ((all, ap (λ (l : Outside). l ++ all) (sym left.0)), next)) left.1) each

pub brought_then : (d : Directory) (s t : State) (all : Outside) (old mid new : List Call) → EachSince old mid (OpensToOneOf d s t) → said_by mid ≡ said_by old → EachSince mid new (OpensAlong d t all) → EachSince old new (OpensBetween d s t all)
brought_then d s t all old mid new first silent later =
    one_by_one (OpensBetween d s t all) (OpensAlong d t all) old mid new [] (brought_only d s t all old mid first) (silent ∙ sym (append-nil (said_by old))) later
    (λ files out left. inr left)
