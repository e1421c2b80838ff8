-- Entries under a name, their frames, and a desk's calls one after another.
use Rattle.gts_calls.proofs.Cited.{◌≡◌, ℕ, ◌+◌, ◌==◌, List, [], ◌∷◌, ◌++◌, inl, inr, true, cond, refl, sym, ap, ◌∙◌, subst, arith, AddsAll, AddsAny, AddsEntries, Directory, Entry, GoesOn, IsSpent, PassesBetween, Seen, StartsWith, State, after_all, after_entry, begun, entries, entries_under, frame_of, frames, own, own_frames, state_at, under, append-nil, filter-append, common_steps}
use Rattle.std.proofs.Common.{append_assoc}
use mathlib.Core.List.{map-append}

abbrev History : Type 0
History = List (ℕ × Entry)

-- no more is said of entries than that they were added
pub just : (old new : Seen) (more : List Entry) (Holds : State → Type 0) → AddsAll old more Holds new → AddsEntries old more new
just old new more Holds adds = record { others = adds.others; is = adds.is; strange = adds.strange; holds = tt; caused = adds.caused }

under_append : (n : ℕ) (xs ys : History) → entries_under n (xs ++ ys) ≡ entries_under n xs ++ entries_under n ys
under_append n xs ys = grind (arith, common_steps, filter-append)

same_name : (n : ℕ) → (n == n) ≡ true
same_name n = grind arith

-- the entries under a name, of some that are all under it
pub under_all : (n : ℕ) (more : List Entry) → entries_under n (under n more) ≡ more
under_all n [] = refl
under_all n (e ∷ more) = grind (arith, common_steps, same_name, under_all n more)

pub frames_append : (d : Directory) (s : State) (name : ℕ) (xs ys : History)
    → frames d s name (xs ++ ys) ≡ frames d s name xs ++ frames d (after_all d s (entries xs)) name ys
frames_append d s name [] ys = refl
frames_append d s name (x ∷ xs) ys =
    let f : List ℕ = cond (x.0 == name) (frame_of d s x.1) [] in
    let t : State = after_entry d s x.1 in
    ap (λ (l : List ℕ). f ++ l) (frames_append d t name xs ys) ∙ sym (append_assoc f (frames d t name xs) (frames d (after_all d t (entries xs)) name ys))

not_empty : {A : Type 0} (x : A) (xs : List A) → x ∷ xs ≡ [] → ⊥
not_empty x xs e = cc e

-- entries under other names draw nothing for this one
frames_none : (d : Directory) (s : State) (name : ℕ) (ys : History) → entries_under name ys ≡ [] → frames d s name ys ≡ []
frames_none d s name [] none = refl
frames_none d s name (x ∷ xs) none = grind (arith, common_steps, not_empty, frames_none d (after_entry d s x.1) name xs)

pub frames_one : (d : Directory) (s : State) (name : ℕ) (e : Entry) → frames d s name ((name, e) ∷ []) ≡ frame_of d s e
frames_one d s name e = grind (arith, common_steps, same_name, append-nil)

-- the frames of the desk's own draws over a history that goes on, by entries of others and then by its own
pub frames_behind : (old : Seen) (others : History) (more : List Entry) → entries_under old.name others ≡ []
    → frames old.directory (begun old.start) old.name ((old.history ++ others) ++ under old.name more)
    ≡ own_frames old ++ frames old.directory (state_at old (old.history ++ others)) old.name (under old.name more)
frames_behind old others more strange = grind (arith, common_steps, frames_append, frames_none, append-nil)

module _ (old new : Seen) (more : List Entry) (adds : AddsEntries old more new) where
  -- the desk's own entries get these
  pub own_added : own new ≡ own old ++ more
  own_added =
      ap own adds.is
      ∙ under_append old.name (old.history ++ adds.others) (under old.name more)
      ∙ ap (λ (l : List Entry). entries_under old.name (old.history ++ adds.others) ++ l) (under_all old.name more)
      ∙ ap (λ (l : List Entry). l ++ more)
      (under_append old.name old.history adds.others ∙ ap (λ (l : List Entry). own old ++ l) adds.strange ∙ append-nil (own old))

  pub goes_on : GoesOn old new
  goes_on = record {
    hall = ap (λ (d : Seen). d.hall) adds.is;
    directory = ap (λ (d : Seen). d.directory) adds.is;
    start = ap (λ (d : Seen). d.start) adds.is;
    used = ap (λ (d : Seen). d.used) adds.is;
    makes_room = ap (λ (d : Seen). d.makes_room) adds.is;
    name = ap (λ (d : Seen). d.name) adds.is;
    later = (adds.others ++ under old.name more, ap (λ (d : Seen). d.history) adds.is ∙ append_assoc old.history adds.others (under old.name more));
  }

  -- and the frames of its own draws get those of these
  pub frames_added : own_frames new ≡ own_frames old ++ frames old.directory (state_at old (old.history ++ adds.others)) old.name (under old.name more)
  frames_added = ap own_frames adds.is ∙ frames_behind old adds.others more adds.strange

module _ (old new : Seen) (spent : IsSpent old new) where
  pub own_spent : own new ≡ own old
  own_spent = ap own spent.is

  pub frames_spent : own_frames new ≡ own_frames old
  frames_spent = ap own_frames spent.is

  pub goes_on_spent : GoesOn old new
  goes_on_spent = record {
    hall = ap (λ (d : Seen). d.hall) spent.is;
    directory = ap (λ (d : Seen). d.directory) spent.is;
    start = ap (λ (d : Seen). d.start) spent.is;
    used = ap (λ (d : Seen). d.used) spent.is;
    makes_room = ap (λ (d : Seen). d.makes_room) spent.is;
    name = ap (λ (d : Seen). d.name) spent.is;
    later = ([], ap (λ (d : Seen). d.history) spent.is ∙ sym (append-nil old.history));
  }

starts_later : (a b c : History) → StartsWith b a → StartsWith c b → StartsWith c a
starts_later a b c s t = (s.0 ++ t.0, t.1 ∙ ap (λ (l : History). l ++ t.0) s.1 ∙ append_assoc a s.0 t.0)

pub goes_further : (a b c : Seen) → GoesOn a b → GoesOn b c → GoesOn a c
goes_further a b c s t = grind (arith, common_steps, starts_later)

pub stays : (d : Seen) → GoesOn d d
stays d = record { hall = refl; directory = refl; start = refl; used = refl; makes_room = refl; name = refl; later = ([], sym (append-nil d.history)) }

-- a turn counts
pub turned : (old new : Seen) (more : List Entry) → AddsEntries old more new → new.turns ≡ old.turns + 1
turned old new more adds = ap (λ (d : Seen). d.turns) adds.is

-- ---- entries that were added, or none

pub own_any : (old new : Seen) (more : List Entry) → AddsAny old more new → own new ≡ own old ++ more
own_any old new more (inl adds) = own_added old new more adds
own_any old new more (inr none) = ap own none.1 ∙ sym (append-nil (own old)) ∙ ap (λ (l : List Entry). own old ++ l) (sym none.0)

pub goes_any : (old new : Seen) (more : List Entry) → AddsAny old more new → GoesOn old new
goes_any old new more (inl adds) = goes_on old new more adds
goes_any old new more (inr none) = subst (λ (d : Seen). GoesOn old d) (sym none.1) (stays old)

-- ---- one turn as two

halfway_of : (old new : Seen) (front back : List Entry) → AddsEntries old (front ++ back) new → PassesBetween old front back new
halfway_of old new front back adds =
    let n : ℕ = old.name in
    let before : History = old.history ++ adds.others in
    let mid : Seen = record old { history = before ++ under n front } in
    let split : under n (front ++ back) ≡ under n front ++ under n back = map-append (λ (e : Entry). (n, e)) front back in
    record {
      mid = mid;
      desk = record {
        hall = refl;
        directory = refl;
        start = refl;
        used = refl;
        makes_room = refl;
        name = refl;
        later = (adds.others ++ under n front, append_assoc old.history adds.others (under n front));
      };
      own_is = under_append n before (under n front)
          ∙ ap (λ (l : List Entry). entries_under n before ++ l) (under_all n front)
          ∙ ap (λ (l : List Entry). l ++ front)
          (under_append n old.history adds.others ∙ ap (λ (l : List Entry). own old ++ l) adds.strange ∙ append-nil (own old));
      turns = refl;
      adds = record {
        others = [];
        is = adds.is
            ∙ ap (λ (l : History). record old { turns = old.turns + 1; history = l })
            (ap (λ (l : History). before ++ l) split
            ∙ sym (append_assoc before (under n front) (under n back))
            ∙ ap (λ (l : History). l ++ under n back) (sym (append-nil (before ++ under n front))));
        strange = refl;
        holds = tt;
        caused = adds.caused;
      };
    }

pub halfway : (old new : Seen) (front back : List Entry) (entry : Entry) → AddsAny old (front ++ entry ∷ back) new → PassesBetween old front (entry ∷ back) new
halfway old new front back entry (inl adds) = halfway_of old new front (entry ∷ back) adds
halfway old new [] back entry (inr none) = absurd (cc none.0)
halfway old new (x ∷ front) back entry (inr none) = absurd (cc none.0)
