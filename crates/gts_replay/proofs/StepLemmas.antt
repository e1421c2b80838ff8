-- What a step took, and which entries it added.
use Rattle.gts_replay.proofs.Cited.{◌≡◌, ℕ, ◌+◌, ◌<◌, ◌≤◌, List, [], ◌∷◌, ◌++◌, length, take, min, get_or, set, map, Result, Ok, Err, refl, sym, ap, subst, ◌∙◌, arith, append_assoc, length-append, append-nil, BreaksOff, Compact, CompactHead, Connections, Decode, Decoding, DoesStep, Drain, DrainHead, EndsBehind, Entry, Bad, Feed, FeedHead, Feeds, Head, Held, IsAnswered, IsCompacting, IsFed, IsReopening, IsSameCapture, IsSettling, IsStepOf, MayHaveSettled, Passed, LONGEST_CAPTURE, OpenFault, Outcome, Remains, Reopen, ReopenHead, Restart, RestartHead, Restarted, SettlesFirst, SourceFault, Standing, Stands, StandsFor, Step, StepFault, StopsBehind, StopsInFeed, SwitchFault, Take, TakeHead, Taken, Takes, TakesNoMore, all_done, bytes_of_step, entries_of_step, fresh, held_in, readable_from, restart_of, settled, state_at, takes_of_drain, HasTaken, Went, common_steps}
use Rattle.gts_replay.specs.Cited.{EndsInFeed}
use Rattle.gts_event.specs.declared.fault.SwitchFault.TheVariants as switch
use Rattle.gts_replay.specs.declared.fault.StepFault.TheVariants as step
use Rattle.gts_replay.proofs.GoingLemmas.{stands_same, stands_settled, settles_all, settles_not, one_done, call_breaks}
use Rattle.gts_replay.proofs.FeedingLemmas.{fed_settled, breaks_settling}
use Rattle.gts_replay.proofs.DecoderLemmas.{decode_at, decode_set, decode_reopened}

same_capture : (held : Held) → IsSameCapture held held
same_capture held = record { circuits = refl; kind = refl }

-- ---- a feed's bytes, piece by piece

pub takes_none : (observed : Type 0) (held : Held) (left : List ℕ) → Takes observed [] held held left left
takes_none observed held left = record { told = λ _. refl; feed = omega arith; at = omega arith; within = λ w. w; same = same_capture held }

pub takes_more : (observed : Type 0) (bytes piece : List ℕ) (old now new : Held) (before left after : List ℕ) → Takes observed bytes old now before left
    → (observed → now.ahead ++ left ≡ piece ++ (new.ahead ++ after)) → new.feed + length piece ≡ now.feed → new.at ≡ now.at + length piece → new.at ≤ LONGEST_CAPTURE → IsSameCapture now new
    → Takes observed (bytes ++ piece) old new before after
takes_more observed bytes piece old now new before left after taken told feed place inside same = grind (arith, common_steps)

-- the bytes end in the feed
pub takes_end : (observed : Type 0) (bytes : List ℕ) (old now : Held) (before left : List ℕ) (at : ℕ) → Takes observed bytes old now before left → (observed → EndsInFeed now (readable_from now.at (now.ahead ++ left)) at)
    → EndsBehind observed bytes at old before
takes_end observed bytes old now before left at taken ends = record {
  rest = now.ahead ++ left;
  told = taken.told;
  short = λ t. let more = (ends t).announced in omega (arith, more, taken.feed);
  place = λ t. (ends t).place ∙ taken.at;
  within = λ w. let inside = taken.within w in omega (arith, inside, taken.at);
  nothing = λ t. ap (λ (n : ℕ). readable_from n (now.ahead ++ left)) (sym taken.at) ∙ (ends t).nothing;
}

-- the source failed in the feed
pub takes_stop : (observed : Type 0) (bytes : List ℕ) (old now new : Held) (before left after : List ℕ) → Takes observed bytes old now before left → (observed → StopsInFeed now new left after)
    → 0 < now.feed → StopsBehind observed bytes old before after
takes_stop observed bytes old now new before left after taken stops some = grind (arith, common_steps)

-- no more was taken than these bytes and a piece
pub takes_at_most : (observed : Type 0) (bytes piece : List ℕ) (old now new : Held) (before left after : List ℕ) → Takes observed bytes old now before left
    → (observed → now.ahead ++ left ≡ piece ++ (new.ahead ++ after)) → new.feed + length piece ≡ now.feed → new.at ≡ now.at + length piece → new.at ≤ LONGEST_CAPTURE
    → TakesNoMore observed (bytes ++ piece) old before
takes_at_most observed bytes piece old now new before left after taken told feed place inside = record {
  rest = new.ahead ++ after;
  told = λ t. taken.told t ∙ ap (λ (xs : List ℕ). bytes ++ xs) (told t) ∙ sym (append_assoc bytes piece (new.ahead ++ after));
  most = omega (arith, feed, taken.feed, length-append bytes piece);
  within = λ w. omega (arith, place, inside, taken.at, length-append bytes piece);
}

-- no more was taken than these bytes
takes_only : (observed : Type 0) (bytes : List ℕ) (old now : Held) (before left : List ℕ) → Takes observed bytes old now before left → TakesNoMore observed bytes old before
takes_only observed bytes old now before left taken = record {
  rest = now.ahead ++ left;
  told = taken.told;
  most = omega (arith, taken.feed);
  within = λ w. let inside = taken.within w in omega (arith, inside, taken.at);
}

-- The next bytes of a feed weren't read: what was gathered could not be settled, or it was, and then the bytes were bad or the source
-- failed.
pub feeds_unread : {O W : Type 0} (meanings : Standing O W) (observed : Type 0) (c : ℕ) (fault : StepFault) (bytes : List ℕ) (old now new : Held) (before left after : List ℕ) (decoder decoder_now : Decoding) (begun switch later : W)
    → Takes observed bytes old now before left → IsFed meanings c decoder begun bytes decoder_now switch → 0 < now.feed
    → (observed → (at : ℕ) → fault ≡ step.Capture (Bad at) → EndsInFeed now (readable_from now.at (now.ahead ++ left)) at)
    → (observed → fault ≡ step.Capture SourceFault → StopsInFeed now new left after)
    → SettlesFirst {T = ℕ} meanings (Err fault) switch later
    → Feeds meanings observed c (Err fault) old new before after decoder decoder_now begun later
feeds_unread meanings observed c (step.Capture (Bad at)) bytes old now new before left after decoder decoder_now begun switch later taken fed some bad source settles = record {
  bytes = bytes;
  taken = takes_end observed bytes old now before left at taken (λ t. bad t at refl);
  fed = fed_settled meanings c decoder begun bytes decoder_now switch later fed settles;
}
feeds_unread meanings observed c (step.Capture SourceFault) bytes old now new before left after decoder decoder_now begun switch later taken fed some bad source settles = record {
  bytes = bytes;
  taken = takes_stop observed bytes old now new before left after taken (λ t. source t refl) some;
  fed = fed_settled meanings c decoder begun bytes decoder_now switch later fed settles;
}
feeds_unread meanings observed c (step.Switch fault) bytes old now new before left after decoder decoder_now begun switch later taken fed some bad source settles = record {
  bytes = bytes;
  taken = takes_only observed bytes old now before left taken;
  fed = breaks_settling meanings c decoder begun bytes decoder_now switch later fault fed settles;
}
feeds_unread meanings observed c (step.Reopen fault) bytes old now new before left after decoder decoder_now begun switch later taken fed some bad source settles = absurd settles
feeds_unread meanings observed c (step.Compaction fault) bytes old now new before left after decoder decoder_now begun switch later taken fed some bad source settles = absurd settles

pub all_small : (a b : ℕ) → 0 < a → min a b ≡ 0 → b ≡ 0
all_small a b some least = grind (arith, common_steps)

-- all bytes of a feed were read
pub feeds_all : {O W : Type 0} (meanings : Standing O W) (observed : Type 0) (c : ℕ) (bytes into : List ℕ) (n : ℕ) (old now new : Held) (before left after : List ℕ) (decoder decoder_now : Decoding) (begun switch later : W)
    → n ≡ 0 → now.feed ≡ 0 → Takes observed bytes old now before left → IsFed meanings c decoder begun bytes decoder_now switch → (observed → now.ahead ++ left ≡ take n into ++ (new.ahead ++ after))
    → Passed now new n → IsSameCapture now new → MayHaveSettled meanings switch later
    → Feeds meanings observed c (Ok tt) old new before after decoder decoder_now begun later
feeds_all meanings observed c bytes into n old now new before left after decoder decoder_now begun switch later is_0 none taken fed told passed same settles =
    let empty : take n into ≡ [] = ap (λ (k : ℕ). take k into) is_0 in
    let size : length (take n into) ≡ 0 = ap length empty in
    record {
      bytes = bytes;
      taken = (
        subst (λ (x : List ℕ). Takes observed x old new before after) (ap (λ (x : List ℕ). bytes ++ x) empty ∙ append-nil bytes)
            (takes_more observed bytes (take n into) old now new before left after taken told (omega (arith, size, is_0, passed.feed)) (omega (arith, size, is_0, passed.at)) passed.within same),
        omega (arith, passed.feed, none),
      );
      fed = fed_settled meanings c decoder begun bytes decoder_now switch later fed settles;
    }

-- nothing was taken
nothing_taken : (observed : Type 0) (held : Held) (left : List ℕ) → TakesNoMore observed [] held left
nothing_taken observed held left = record { rest = held.ahead ++ left; told = λ _. refl; most = omega arith; within = λ w. omega (arith, w) }

-- ---- a step of each head

module _ {O W : Type 0} (meanings : Standing O W) (station observed : Type 0) (held : Held) (left : List ℕ) (ds : List Decoding) where
  -- a step that was not done
  fails : (head : Head) (step : Step) (fault : StepFault) (old new : W) → IsStepOf head step → HasTaken observed (bytes_of_step step) (Err fault) held held left left
      → ((bs : Connections) (o : O) (first : ℕ) (h : List Entry) → StandsFor meanings o first h old
      → Went meanings station o first h (entries_of_step (state_at meanings old o h) bs step) step (Err fault) new)
      → DoesStep meanings station observed head (Err fault) held held left left ds ds old new
  fails head step fault old new of taken went = record {
    step = step;
    of_head = of;
    taken = taken;
    went = λ bs o first h decode start. went bs o first h start;
    begins = λ o h. tt;
    decode = λ bs e. tt;
  }

  pub does_take : (c : ℕ) (old new : W) (result : Result Outcome SwitchFault) (answer : Outcome)
      → IsAnswered meanings (Taken c) result old new → result ≡ Ok answer → held.feed ≡ 0 → DoesStep meanings station observed (TakeHead c) (Ok tt) held held left left ds ds old new
  does_take c old new result answer called is none = record {
    step = Take c;
    of_head = refl;
    taken = (takes_none observed held left, none);
    went = λ bs o first h decode start. one_done meanings (Taken c) result answer old new called is o first h start.stands;
    decode = λ bs e. e;
    begins = λ o h. refl;
  }

  pub fails_take : (c : ℕ) (old new : W) (result : Result Outcome SwitchFault) (fault : SwitchFault)
      → IsAnswered meanings (Taken c) result old new → result ≡ Err fault → DoesStep meanings station observed (TakeHead c) (Err (step.Switch fault)) held held left left ds ds old new
  fails_take c old new result fault called is =
      fails (TakeHead c) (Take c) (step.Switch fault) old new refl (nothing_taken observed held left) (λ bs o first h start. call_breaks meanings (Taken c) result fault old new called is o first h start.stands)

  pub does_drain : (c : ℕ) (old new : W)
      → ((o : O) (first : ℕ) (h : List Entry) → StandsFor meanings o first h old → Stands meanings o first (h ++ all_done (takes_of_drain (state_at meanings old o h) c)) new)
      → held.feed ≡ 0 → DoesStep meanings station observed (DrainHead c) (Ok tt) held held left left ds ds old new
  does_drain c old new goes none = record {
    step = Drain c;
    of_head = refl;
    taken = (takes_none observed held left, none);
    went = λ bs o first h decode start. goes o first h start;
    decode = λ bs e. e;
    begins = λ o h. refl;
  }

  pub fails_drain : (c : ℕ) (old new : W) (fault : SwitchFault)
      → ((o : O) (first : ℕ) (h : List Entry) → StandsFor meanings o first h old → BreaksOff meanings (λ _. o) first h (all_done (takes_of_drain (state_at meanings old o h) c)) fault new)
      → DoesStep meanings station observed (DrainHead c) (Err (step.Switch fault)) held held left left ds ds old new
  fails_drain c old new fault goes = fails (DrainHead c) (Drain c) (step.Switch fault) old new refl (nothing_taken observed held left) (λ bs. goes)

  pub does_reopen : (c : ℕ) (next : Decoding) (old : W)
      → next ≡ fresh → held.feed ≡ 0 → DoesStep meanings station observed (ReopenHead c) (Ok tt) held held left left ds (set ds c next) old old
  does_reopen c next old is none = record {
    step = Reopen c;
    of_head = refl;
    taken = (takes_none observed held left, none);
    went = λ bs o first h decode start. stands_same meanings o first h (h ++ []) old (sym (append-nil h)) start.stands;
    decode = λ bs e. decode_set ds bs c next [] e (ap (λ (d : Decoding). d.held) is);
    begins = λ o h. refl;
  }

  -- what was gathered was to be settled before the journal is opened again
  pub unsettled_restart : (old new : W) (result : Result (Unit {0}) SwitchFault) (fault : SwitchFault)
      → IsSettling meanings result old new → result ≡ Err fault → DoesStep meanings station observed RestartHead (Err (step.Switch fault)) held held left left ds ds old new
  unsettled_restart old new result fault settling is =
      fails RestartHead Restart (step.Switch fault) old new refl (nothing_taken observed held left)
      (λ bs o first h start. settles_not meanings o first h (Restarted ∷ []) old new fault start.stands (subst (λ (r : Result (Unit {0}) SwitchFault). IsSettling meanings r old new) is settling))

  pub unsettled_compact : (old new : W) (result : Result (Unit {0}) SwitchFault) (fault : SwitchFault)
      → IsSettling meanings result old new → result ≡ Err fault → DoesStep meanings station observed CompactHead (Err (step.Switch fault)) held held left left ds ds old new
  unsettled_compact old new result fault settling is =
      fails CompactHead Compact (step.Switch fault) old new refl (nothing_taken observed held left)
      (λ bs o first h start. settles_not meanings o first h [] old new fault start.stands (subst (λ (r : Result (Unit {0}) SwitchFault). IsSettling meanings r old new) is settling))

  -- behind what was settled
  module _ (old mid new : W) (answer : Result (Unit {0}) SwitchFault) (v : Unit {0}) (settling : IsSettling meanings answer old mid) (all : answer ≡ Ok v) where
    rests : (o : O) (first : ℕ) (h : List Entry) → Stands meanings o first h old → settled meanings o h mid
    rests o first h stands = settles_all meanings o first h old mid v stands (subst (λ (r : Result (Unit {0}) SwitchFault). IsSettling meanings r old mid) all settling)

    pub does_restart : (ds_now : List Decoding) (result : Result (Unit {0}) OpenFault) (u : Unit {0})
        → IsReopening meanings station result mid new → result ≡ Ok u → ds_now ≡ map (λ _. fresh) ds → length ds ≡ length (meanings.directory old).circuits → held.feed ≡ 0
        → DoesStep meanings station observed RestartHead (Ok tt) held held left left ds ds_now old new
    does_restart ds_now result u reopening is anew each none = grind (arith, common_steps, takes_none, stands_settled, rests, decode_reopened)

    pub fails_restart : (result : Result (Unit {0}) OpenFault) (fault : OpenFault)
        → IsReopening meanings station result mid new → result ≡ Err fault → DoesStep meanings station observed RestartHead (Err (step.Reopen fault)) held held left left ds ds old new
    fails_restart result fault reopening is =
        fails RestartHead Restart (step.Reopen fault) old new refl (nothing_taken observed held left) (λ bs o first h start. (
          refl,
          record {
            front = [];
            behind = [];
            parts = refl;
            stands = subst (λ (r : Result (Unit {0}) OpenFault). settled meanings o (h ++ restart_of r) new) is (reopening.adds o h (rests o first h start.stands));
            fault_is = λ t. reopening.fault t o h (rests o first h start.stands) fault is;
          },
        ))

    pub fails_compact : (result : Result (Unit {0}) SwitchFault) (fault : SwitchFault)
        → IsCompacting meanings result mid new → result ≡ Err fault → DoesStep meanings station observed CompactHead (Err (step.Compaction fault)) held held left left ds ds old new
    fails_compact result fault compacting is =
        fails CompactHead Compact (step.Compaction fault) old new refl (nothing_taken observed held left) (λ bs o first h start.
        let stands : settled meanings o h mid = rests o first h start.stands in
        record { at_step = refl; remains = remains o h stands fault is; cause = compacting.caused o h stands fault is })
      where
        remains : (o : O) (h : List Entry) → settled meanings o h mid → (f : SwitchFault) → result ≡ Err f → Remains meanings o h f new
        remains o h stands switch.DiskFault e = compacting.left o h stands e
        remains o h stands f e = compacting.idle o h stands f e tt

pub does_feed : {O W : Type 0} (meanings : Standing O W) (station observed : Type 0) (c n : ℕ) (result : Result (Unit {0}) StepFault) (held held_now : Held) (left left_now : List ℕ)
    (ds : List Decoding) (x next : Decoding) (old new : W) → c < length ds → Feeds meanings observed c result held held_now left left_now (get_or ds c x) next old new
    → DoesStep meanings station observed (FeedHead c n) result held held_now left left_now ds (set ds c next) old new
does_feed meanings station observed c n result held held_now left left_now ds x next old new within feeds = go result feeds
  where
    holds : (bs : Connections) → Decode ds bs → (get_or ds c x).held ≡ held_in (get_or bs c [])
    holds bs e = decode_at ds bs c x within e

    go : (r : Result (Unit {0}) StepFault) → Feeds meanings observed c r held held_now left left_now (get_or ds c x) next old new
        → DoesStep meanings station observed (FeedHead c n) r held held_now left left_now ds (set ds c next) old new
    go (Ok u) f = record {
      step = Feed c f.bytes;
      of_head = (f.bytes, refl);
      taken = f.taken;
      went = λ bs o first h e start. f.fed.adds (get_or bs c []) o first h (holds bs e) start.stands;
      decode = λ bs e. decode_set ds bs c next (get_or bs c [] ++ f.bytes) e (f.fed.held (get_or bs c []) (holds bs e));
      begins = λ o h. refl;
    }
    go (Err (step.Capture fault)) f = record {
      step = Feed c f.bytes;
      of_head = (f.bytes, refl);
      taken = f.taken;
      went = λ bs o first h e start. f.fed.adds (get_or bs c []) o first h (holds bs e) start.stands;
      decode = λ bs e. tt;
      begins = λ o h. tt;
    }
    go (Err (step.Switch fault)) f = record {
      step = Feed c f.bytes;
      of_head = (f.bytes, refl);
      taken = f.taken;
      went = λ bs o first h e start. f.fed (get_or bs c []) o first h (holds bs e) start.stands;
      decode = λ bs e. tt;
      begins = λ o h. tt;
    }
    go (Err (step.Reopen fault)) f = absurd f.fed
    go (Err (step.Compaction fault)) f = absurd f.fed
