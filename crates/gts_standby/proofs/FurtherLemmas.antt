-- Whether a journal may begin anew with the checkpoint of a feed.
use Rattle.gts_standby.proofs.Cited.{◌≡◌, ℕ, Bool, false, List, [], ◌∷◌, Some, None, refl, sym, ap, not, ◌||◌, map, zip, Breaks, Directory, FindsFurther, HasRead, InFeed, Need, State, Taken, begun_taken, circuit_need_of, has_fewer, is_behind, is_further, list_any, need, stopped, CircuitNeed, common_steps, arith}
use Rattle.gts_standby.proofs.FrontLemmas.{further_by}

nothing_further : (d : Directory) (s : State) (t : Taken) → t.begins ≡ None → false ≡ is_further d s t
nothing_further d s t none = sym (ap (further_by d s) none)

-- none that may stand there
pub none_further : (d : Directory) (s : State) (fed : List ℕ) (ahead : InFeed) (left : List ℕ) → begun_taken d fed ≡ stopped (Breaks 40) → FindsFurther false d s fed ahead left
none_further d s fed ahead left is = (nothing_further d s (begun_taken d fed) (ap (λ (t : Taken). t.begins) is), λ e. absurd (cc e))

-- one was, and is behind or isn't
pub some_further : (d : Directory) (s : State) (fed : List ℕ) (ahead : InFeed) (left : List ℕ) (n own : Need) (behind : Bool) → (begun_taken d fed).begins ≡ Some n → own ≡ need d s → behind ≡ is_behind n own
    → HasRead fed ahead left → FindsFurther (not behind) d s fed ahead left
some_further d s fed ahead left n own behind begins own_is is read = grind (arith, common_steps, further_by)

-- ---- on a circuit

-- what is needed of each circuit is compared
pub fewer_seen : (fed own : List CircuitNeed) → list_any (λ pair. has_fewer (circuit_need_of pair.0) (circuit_need_of pair.1)) (zip fed own)
    ≡ list_any (λ pair. has_fewer pair.0 pair.1) (zip (map circuit_need_of fed) (map circuit_need_of own))
fewer_seen [] own = refl
fewer_seen (one ∷ fed) [] = refl
fewer_seen (one ∷ fed) (other ∷ own) = ap (λ (b : Bool). has_fewer (circuit_need_of one) (circuit_need_of other) || b) (fewer_seen fed own)
