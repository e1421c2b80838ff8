-- How long the checkpoint at the front of a feed is, by the bytes that were read ahead.
use Rattle.gts_standby.proofs.Cited.{◌≡◌, ◌⊎◌, ℕ, ◌+◌, ◌-◌, ◌<◌, ◌≤◌, Bool, true, cond, List, length, take, drop, Result, Err, sym, ap, subst, arith, nat_eq, IsErrAnd, Behind, Breaks, Broken, Diverged, Done, Ends, Feed, FindsPiece, FollowEnd, HasRead, InFeed, IsFedEnd, Listed, Open, Piece, Reached, Sealed, StopsAs, StopsAt, Taken, Version, and_then, behind_all, behind_checkpoint, by_piece, checkpoint_by, checkpoint_piece, front_counts, is_sealed, listed_size, reach, seal, seal_size, starts_with, le-ltb, nat_tests, drop-append-le, length-take, take-append-le, length-seal, front_more, listed_more, starts_front, common_steps}
use Rattle.gts_standby.specs.Reading.{Reaches}
use Rattle.std.proofs.lemmas.List.{length-drop}
use Rattle.gts_standby.proofs.ExitLemmas.{returned}
use Rattle.gts_standby.proofs.HeaderLemmas.{no_more}

-- ---- bytes of a front

-- what is told by the first bytes is told by those of the feed
pub front_read : (fed left : List ℕ) (ahead : InFeed) → HasRead fed ahead left → (ahead.is_all ≡ true) ⊎ (20 ≤ length ahead.bytes) → front_counts ahead.bytes ≡ front_counts fed
front_read fed left ahead read enough = grind (arith, common_steps, no_more, front_more)

pub size_read : (listed : Listed) (fed left : List ℕ) (ahead : InFeed) (at : ℕ) → HasRead fed ahead left → (ahead.is_all ≡ true) ⊎ (at + 16 ≤ length ahead.bytes)
    → listed_size listed (drop at ahead.bytes) ≡ listed_size listed (drop at fed)
size_read listed fed left ahead at read enough = grind (arith, common_steps, no_more, listed_more, length-drop, drop-append-le)

-- ---- a place is reached

pub reach_on : (limit : ℕ) (bytes : List ℕ) (at size : ℕ) → at + size ≤ limit → at + size ≤ length bytes → reach limit bytes at size ≡ Behind (at + size)
reach_on limit bytes at size low there = grind (arith, common_steps, le-ltb)

-- an end before something else is the end of both
pub end_first : (answer : FollowEnd) (reached : Reached) (next : ℕ → Reached) (fed : List ℕ) (ahead : InFeed) (left : List ℕ) → Reaches (Err answer) reached fed ahead left → Reaches (Err answer) (and_then reached next) fed ahead left
end_first Done reached next fed ahead left is = (ap (λ (r : Reached). and_then r next) is.0, is.1)
end_first (Feed at) reached next fed ahead left is = (ap (λ (r : Reached). and_then r next) is.0, is.1)
end_first _ reached next fed ahead left is = is

-- ---- one behind the other

pub all_on : (one : ℕ → Reached) (left at behind : ℕ) → 1 ≤ left → one at ≡ Behind behind → behind_all one left at ≡ behind_all one (left - 1) behind
all_on one left at behind some is = grind (arith, common_steps)

pub all_end : (answer : FollowEnd) (one : ℕ → Reached) (left at : ℕ) (fed : List ℕ) (ahead : InFeed) (unread : List ℕ) → 1 ≤ left → Reaches (Err answer) (one at) fed ahead unread
    → Reaches (Err answer) (behind_all one left at) fed ahead unread
all_end answer one left at fed ahead unread some is = grind (arith, common_steps, end_first)

pub all_done : (one : ℕ → Reached) (left at : ℕ) → left ≡ 0 → behind_all one left at ≡ Behind at
all_done one left at none = ap (λ (k : ℕ). behind_all one k at) none

-- an equal place is reached as well
pub reaches_same : (answer : Result ℕ FollowEnd) (one other : Reached) (fed : List ℕ) (ahead : InFeed) (unread : List ℕ) → other ≡ one → Reaches answer one fed ahead unread → Reaches answer other fed ahead unread
reaches_same answer one other fed ahead unread same is = subst (λ (r : Reached). Reaches answer r fed ahead unread) (sym same) is

pub reaches_err : (answer : Result ℕ FollowEnd) (end : FollowEnd) (one other : Reached) (fed : List ℕ) (ahead : InFeed) (unread : List ℕ) → IsErrAnd answer (λ e. e ≡ end) → other ≡ one
    → Reaches (Err end) one fed ahead unread → Reaches answer other fed ahead unread
reaches_err answer end one other fed ahead unread failed same is = grind (arith, common_steps, returned, reaches_same)

-- ---- the checkpoint with its seal

pub finds_err : (answer : Result (ℕ × List ℕ) FollowEnd) (end : FollowEnd) (v : Version) (at : ℕ) (piece : Piece) (fed : List ℕ) (ahead : InFeed) (left : List ℕ) → IsErrAnd answer (λ e. e ≡ end)
    → ((next : ℕ → List ℕ → Taken) → StopsAs end (by_piece at piece next) left) → FindsPiece answer v at piece fed ahead left
finds_err answer end v at piece fed ahead left failed stops = subst (λ (r : Result (ℕ × List ℕ) FollowEnd). FindsPiece r v at piece fed ahead left) (sym (returned answer end failed)) stops

-- it isn't reached
pub scan_stops : (answer : FollowEnd) → IsFedEnd answer → (v : Version) (limit : ℕ) (before fed : List ℕ) (ahead : InFeed) (left : List ℕ) → Reaches (Err answer) (behind_checkpoint limit fed) fed ahead left
    → (next : ℕ → List ℕ → Taken) → StopsAs answer (by_piece 40 (checkpoint_piece v limit before fed) next) left
scan_stops Done kind v limit before fed ahead left is next = record { end = Ends; is = ap (λ (r : Reached). by_piece 40 (checkpoint_by v before fed r) next) is.0; ends = tt; all = is.1 }
scan_stops (Feed at) kind v limit before fed ahead left is next = record { end = Breaks 40; is = ap (λ (r : Reached). by_piece 40 (checkpoint_by v before fed r) next) is.0; ends = is.1; all = tt }
scan_stops (Open fault) kind v limit before fed ahead left is next = absurd kind
scan_stops (Diverged index own other) kind v limit before fed ahead left is next = absurd kind
scan_stops _ kind v limit before fed ahead left is next = tt

-- its seal is cut
pub seal_cut : (v : Version) (limit size : ℕ) (before fed left : List ℕ) (ahead : InFeed) → behind_checkpoint limit fed ≡ Behind size → HasRead fed ahead left → (ahead.is_all ≡ true) ⊎ (size + seal_size v ≤ length ahead.bytes)
    → length ahead.bytes < size + seal_size v → (next : ℕ → List ℕ → Taken) → StopsAt Done (by_piece 40 (checkpoint_piece v limit before fed) next) left
seal_cut v limit size before fed left ahead reached read enough few next = grind (arith, common_steps, no_more, nat_tests)

-- what stands behind the text of a front is what stands behind that of the feed
pub sealed_same : (v : Version) (size : ℕ) (before fed left : List ℕ) (ahead : InFeed) → HasRead fed ahead left → size + seal_size v ≤ length ahead.bytes
    → is_sealed v before (take size fed) fed ≡ starts_with nat_eq (drop size ahead.bytes) (seal v before (take size ahead.bytes))
sealed_same v size before fed left ahead read long =
    grind (arith, common_steps, take-append-le, length-take, drop-append-le, starts_front, length-seal, length-drop)

-- with another seal it is broken, with its own it is a piece
pub sealed_piece : (v : Version) (limit size : ℕ) (before fed left : List ℕ) (ahead : InFeed) (b : Bool) → behind_checkpoint limit fed ≡ Behind size → HasRead fed ahead left → size + seal_size v ≤ length ahead.bytes
    → starts_with nat_eq (drop size ahead.bytes) (seal v before (take size ahead.bytes)) ≡ b
    → checkpoint_piece v limit before fed ≡ cond b (Sealed (size + seal_size v) (seal v before (take size ahead.bytes))) Broken
sealed_piece v limit size before fed left ahead b reached read long is = grind (arith, common_steps, take-append-le, le-ltb, sealed_same)
