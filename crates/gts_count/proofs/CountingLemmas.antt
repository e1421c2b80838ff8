-- What is kept beside a switch, by what the switch answers.
use Rattle.gts_count.proofs.Cited.{◌≡◌, ℕ, suc, ◌<◌, ◌⊎◌, inl, inr, Bool, true, false, ◌&&◌, cond, List, [], ◌∷◌, ◌++◌, length, reverse, Option, Some, None, Result, Ok, Err, refl, sym, ap, subst, ◌∙◌, arith, IsTrue, nat_eq, take, Accepted, AfterAccepted, AfterHeard, All, Arrival, Asked, Bulletin, CanNote, Counting, Counts, CountsIf, Directory, DiskFault, Doubt, Draw, Duplicate, Entry, Follows, Full, GoesOn, HasDoubt, HasUnsaid, HeadingFields, Heard, IsAccepted, IsReady, IsTold, KeepsRest, Kind, Knows, LineLost, NoMemory, Notes, Nothing, Numbers, Outcome, Prepares, Refused, Resend, SayFault, Spent, State, Stopped, SwitchFault, Unsaid, WasRead, after, arrived, body_of, duplicate, find, has_row, heading_of, heading_text, heard_of, is_recent, is_same_heading, key_of, named, outcome, outdated, pointwise, text_of, true≢false, and_parts, length-map, reverse-append, All-append, outcome-same, same_from_pointwise as same_numbers, common_steps}
use Rattle.std.proofs.Common.{append_assoc}
use Rattle.gts_count.proofs.SoundLemmas.{single}
use Rattle.gts_count.proofs.KeyLemmas.{key_message}
use Rattle.gts_count.proofs.FollowLemmas.{follows_heard, follows_prepared, follows_accepted}

pub current_counts : (d : Directory) (s : State) (h : List Entry) (c : Counting) → c.current ≡ true → Counts d s h c → Knows d c × Follows d s c.numbers
current_counts d s h c is counts = subst (λ (b : Bool). CountsIf b d s h c) is counts

pub circuits_of : (d : Directory) (s : State) (n : Numbers) → Follows d s n → (length n.drawn.items ≡ length d.circuits) × (length n.came.items ≡ length d.circuits)
circuits_of d s n f = grind (arith, common_steps, length-map)

-- ---- a message whose key has no row would be accepted

all_reverse : {X : Type 0} (P : X → Type 0) (xs : List X) → All P xs → All P (reverse xs)
all_reverse P [] all = all
all_reverse {X} P (x ∷ xs) all =
    subst (λ (ys : List X). All P ys) (sym (reverse-append (x ∷ []) xs))
    (All-append P (reverse xs) (x ∷ []) (all_reverse P xs (λ k d inside. all (suc k) d (omega (arith, inside)))) (single P x (all 0 x (omega arith))))

found_one : {X : Type 0} (P : X → Type 0) (f : X → Bool) (xs : List X) (x : X) → All P xs → find f xs ≡ Some x → P x × (f x ≡ true)
found_one P f [] x all e = absurd (cc)
found_one {X} P f (y ∷ ys) x all e = go (f y) refl e (λ more. found_one P f ys x (λ k d inside. all (suc k) d (omega (arith, inside))) more)
  where
    go : (b : Bool) → f y ≡ b → cond b (Some y) (find f ys) ≡ Some x → (find f ys ≡ Some x → P x × (f x ≡ true)) → P x × (f x ≡ true)
    go true k is rest = let same : y ≡ x = cc in subst (λ (z : X). P z × (f z ≡ true)) same (all 0 y (omega arith), k)
    go false k is rest = rest is

no_twin : (d : Directory) (t : State) (rows : List ℕ → Bool) (h : HeadingFields) (text : List ℕ) → All (λ b. IsTrue (rows (key_of b.body))) t.accepted → rows (take 11 (heading_text h)) ≡ false
    → duplicate d t h text ≡ None
no_twin d t rows h text all none = go (duplicate d t h text) refl
  where
    test : Bulletin → Bool
    test b = is_recent d t.count b.position && is_same_heading (heading_of b.body) h && pointwise nat_eq (text_of b.body) text

    go : (o : Option Bulletin) → duplicate d t h text ≡ o → o ≡ None
    go None e = refl
    go (Some b) e =
        let twin = found_one (λ b. IsTrue (rows (key_of b.body))) test (reverse t.accepted) b (all_reverse (λ b. IsTrue (rows (key_of b.body))) t.accepted all) e in
        let both = (and_parts (is_recent d t.count b.position && is_same_heading (heading_of b.body) h) (pointwise nat_eq (text_of b.body) text) twin.1).0 in
        let heading = (and_parts (is_recent d t.count b.position) (is_same_heading (heading_of b.body) h) both).1 in
        let same : heading_text (heading_of b.body) ≡ heading_text h = same_numbers (heading_text (heading_of b.body)) (heading_text h) heading in
        absurd (true≢false (sym twin.0 ∙ ap (λ (x : List ℕ). rows (take 11 x)) same ∙ none))

outcome_read : (d : Directory) (t : State) (c : ℕ) (kind : Kind) (m : List ℕ) (w : WasRead d m) → duplicate d t w.parts.heading w.parts.text ≡ None → outcome d t (Heard c kind m) ≡ Accepted t.count (length (named d c w.parts.heading))
outcome_read d t c kind m w none = grind (arith, common_steps)

pub left_accepted : (d : Directory) (s : State) (n : Numbers) (c : ℕ) (kind : Kind) (m : List ℕ) → Follows d s n → WasRead d m → has_row n.rows (key_of (body_of m)) ≡ false → IsAccepted (outcome d s (Heard c kind m))
left_accepted d s n c kind m f w none =
    let read = key_message m w.parts w.read in
    let key : key_of (body_of m) ≡ take 11 (heading_text w.parts.heading) = ap (λ (h : HeadingFields). take 11 (heading_text h)) read.3 in
    subst IsAccepted (sym (outcome-same d s f.state (Heard c kind m) f.same ∙ outcome_read d f.state c kind m w (no_twin d f.state (has_row n.rows) w.parts.heading w.parts.text f.rows (ap (has_row n.rows) (sym key) ∙ none)))) tt

-- ---- an entry is added

-- a device failed before, and so it did before more entries
failed_more : (h xs : List Entry) → HasUnsaid h ⊎ HasDoubt h → HasUnsaid (h ++ xs) ⊎ HasDoubt (h ++ xs)
failed_more h xs (inl (front, event, back, e)) = inl (front, event, back ++ xs, ap (λ (l : List Entry). l ++ xs) e ∙ append_assoc front (Unsaid event ∷ back) xs)
failed_more h xs (inr (front, events, back, e)) = inr (front, events, back ++ xs, ap (λ (l : List Entry). l ++ xs) e ∙ append_assoc front (Doubt events ∷ back) xs)

-- while they are current they don't depend on the entries
grown : (b : Bool) (d : Directory) (s : State) (h xs : List Entry) (c : Counting) → CountsIf b d s h c → CountsIf b d s (h ++ xs) c
grown true d s h xs c counts = counts
grown false d s h xs c counts = failed_more h xs counts

pub counts_more : (d : Directory) (s : State) (h xs : List Entry) (c : Counting) → Counts d s h c → Counts d s (h ++ xs) c
counts_more d s h xs c counts = grown c.current d s h xs c counts

-- where they aren't current, a device failed at one of the entries
pub counts_failed : (d : Directory) (s : State) (h : List Entry) (c : Counting) → c.current ≡ false → HasUnsaid h ⊎ HasDoubt h → Counts d s h c
counts_failed d s h c is failed = subst (λ (b : Bool). CountsIf b d s h c) (sym is) failed

-- another state, and other numbers, as long as they are current
pub carried_by : (d : Directory) (s s' : State) (h : List Entry) (old new : Counting) → KeepsRest old new → (old.current ≡ true → Knows d old → Follows d s old.numbers → Follows d s' new.numbers) → Counts d s h old → Counts d s' h new
carried_by d s s' h old new rest step counts = grind (arith, common_steps)

pub carried : (d : Directory) (s s' : State) (h : List Entry) (old new : Counting) → KeepsRest old new → (old.current ≡ true → Follows d s old.numbers → Follows d s' new.numbers) → Counts d s h old → Counts d s' h new
carried d s s' h old new rest step counts = carried_by d s s' h old new rest (λ is knows f. step is f) counts

pub all_rest : (c : Counting) → KeepsRest c c
all_rest c = record { centre = refl; digits = refl; current = refl }

pub counts_prepared : (d : Directory) (s : State) (h : List Entry) (old new : Counting) → Prepares old.numbers new.numbers → KeepsRest old new → Counts d s h old → Counts d s h new
counts_prepared d s h old new prepares rest counts = carried d s s h old new rest (λ is f. follows_prepared d s old.numbers new.numbers f prepares) counts

pub same_after : (d : Directory) (s : State) (h : List Entry) (old new : Counting) → new ≡ old → Counts d s h old → Counts d s h new
same_after d s h old new is counts = subst (λ (c : Counting). Counts d s h c) (sym is) counts

-- a device failed: the numbers aren't current any more
pub outdated_after : (old new : Counting) → new ≡ outdated old → new.current ≡ false
outdated_after old new is = ap (λ (c : Counting). c.current) is

module _ (d : Directory) (s : State) (h : List Entry) where
  accepted_after : (old new : Counting) (c : ℕ) (kind : Kind) (m : List ℕ) (ready : Option Arrival) (p n : ℕ) → c < length d.circuits → outcome d s (Heard c kind m) ≡ Accepted p n → (old.current ≡ true → IsReady c m ready d s) → CanNote old ready
      → AfterAccepted ready p old new → Counts d s h old → Counts d (after d s (Heard c kind m)) h new
  accepted_after old new c kind m (Some b) p n here is readies note noted counts =
      carried d s (after d s (Heard c kind m)) h old new noted.0
      (λ current f.
      let same : b ≡ heard_of c m = let e = readies current kind p n is in cc in
      follows_accepted d s old.numbers new.numbers c kind m p n here f is
      (subst (λ (r : Arrival). Notes old.numbers new.numbers (arrived p r)) same noted.1)
      (sym (ap (λ (r : Arrival). has_row old.numbers.rows r.key) same) ∙ note.0))
      counts
  accepted_after old new c kind m None p n here is readies note noted counts =
      subst (λ (x : Counting). Counts d (after d s (Heard c kind m)) h x) (sym noted)
      (carried d s (after d s (Heard c kind m)) h old old (all_rest old)
      (λ current f. absurd (let e = readies current kind p n is in cc)) counts)

  -- a message that was heard and not accepted
  unaccepted_after : (old new : Counting) (c : ℕ) (kind : Kind) (m : List ℕ) (o : Outcome) → c < length d.circuits → o ≡ outcome d s (Heard c kind m) → ((p n : ℕ) → o ≡ Accepted p n → ⊥) → new ≡ old
      → Counts d s h old → Counts d (after d s (Heard c kind m)) h new
  unaccepted_after old new c kind m o here is none same counts =
      same_after d (after d s (Heard c kind m)) h old new same
      (carried d s (after d s (Heard c kind m)) h old old (all_rest old)
      (λ current f. follows_heard d s old.numbers c kind m here f (λ p n e. none p n (is ∙ e))) counts)

  pub counts_heard : (old new : Counting) (c : ℕ) (kind : Kind) (m : List ℕ) (ready : Option Arrival) (result : Result Outcome SwitchFault) → c < length d.circuits → (old.current ≡ true → IsReady c m ready d s) → CanNote old ready
      → IsTold result d s (Heard c kind m) → AfterHeard ready result old new → Counts d s h old → GoesOn d s h (Heard c kind m) result new
  counts_heard old new c kind m ready (Ok (Accepted p n)) here readies note told noted counts = accepted_after old new c kind m ready p n here (sym (told (Accepted p n) refl)) readies note noted counts
  counts_heard old new c kind m ready (Ok (Duplicate p)) here readies note told noted counts = unaccepted_after old new c kind m (Duplicate p) here (told (Duplicate p) refl) (λ q k e. cc e) noted counts
  counts_heard old new c kind m ready (Ok (Asked a b)) here readies note told noted counts = unaccepted_after old new c kind m (Asked a b) here (told (Asked a b) refl) (λ q k e. cc e) noted counts
  counts_heard old new c kind m ready (Ok (Refused r)) here readies note told noted counts = unaccepted_after old new c kind m (Refused r) here (told (Refused r) refl) (λ q k e. cc e) noted counts
  counts_heard old new c kind m ready (Ok (LineLost f)) here readies note told noted counts = unaccepted_after old new c kind m (LineLost f) here (told (LineLost f) refl) (λ q k e. cc e) noted counts
  counts_heard old new c kind m ready (Ok (Resend i)) here readies note told noted counts = unaccepted_after old new c kind m (Resend i) here (told (Resend i) refl) (λ q k e. cc e) noted counts
  counts_heard old new c kind m ready (Ok (Draw i)) here readies note told noted counts = unaccepted_after old new c kind m (Draw i) here (told (Draw i) refl) (λ q k e. cc e) noted counts
  counts_heard old new c kind m ready (Ok Nothing) here readies note told noted counts = unaccepted_after old new c kind m Nothing here (told Nothing refl) (λ q k e. cc e) noted counts
  counts_heard old new c kind m ready (Err DiskFault) here readies note told noted counts = outdated_after old new noted
  counts_heard old new c kind m ready (Err SayFault) here readies note told noted counts = outdated_after old new noted
  counts_heard old new c kind m ready _ here readies note told noted counts = same_after d s h old new noted counts
