-- Numbers that are added, as the bytes of a connection come.
use Rattle.gts_gap.proofs.Cited.{◌≡◌, ℕ, ◌<◌, List, [], ◌++◌, length, get_or, set, map, Result, Ok, Err, refl, sym, ap, subst, ◌∙◌, append_assoc, flat_map-append, append-nil, length-set, length-map, Adds, Bad, CaptureFault, CompactHead, Decoding, DoesAll, DoesStep, Drain, DrainHead, Event, Feed, FeedHead, Feeds, FeedsAll, FrameStep, Held, IsFed, Numbered, ReadsOn, Reopen, ReopenHead, RestartHead, Rings, SourceFault, StandsAt, Take, TakeHead, events_added, events_of_signs, fresh, held_in, number_of_event, signs_of_step, numbers_of, added-twice, added-signs, takes_none, decode_at, decode_set, decode_reopened, common_steps, arith}

-- ---- what is added

pub adds_none : (rings : Rings) (more : ℕ → List Numbered) → ((c : ℕ) → more c ≡ []) → Adds rings rings more
adds_none rings more none = grind (arith, common_steps, append-nil)

pub adds_more : (a b d : Rings) (x y z : ℕ → List Numbered) → Adds a b x → Adds b d y → ((c : ℕ) → z c ≡ x c ++ y c) → Adds a d z
adds_more a b d x y z first second all = grind (arith, common_steps)

pub adds_same : (a b : Rings) (x y : ℕ → List Numbered) → Adds a b x → ((c : ℕ) → y c ≡ x c) → Adds a b y
adds_same a b x y first same = λ c ns stands. subst (λ (l : List Numbered). StandsAt b c (ns ++ l)) (sym (same c)) (first c ns stands)

nothing_added : (c : ℕ) (before : List ℕ) → events_added c before [] ≡ []
nothing_added c before = grind (arith, common_steps, added-twice, append-nil)

-- ---- piece by piece

pub fed_none : (c : ℕ) (old : Decoding) (first : Rings) → IsFed c old first [] old first
fed_none c old first = grind (arith, common_steps, append-nil, adds_none, nothing_added)

pub fed_piece : (c : ℕ) (old : Decoding) (first : Rings) (bytes piece : List ℕ) (decoder next : Decoding) (now later : Rings) → IsFed c old first bytes decoder now
    → ((before : List ℕ) → decoder.held ≡ held_in before → next.held ≡ held_in (before ++ piece))
    → ((before : List ℕ) → decoder.held ≡ held_in before → Adds now later (numbers_of (events_added c before piece)))
    → IsFed c old first (bytes ++ piece) next later
fed_piece c old first bytes piece decoder next now later fed held adds = record {
  held = λ before is. held (before ++ bytes) (fed.held before is) ∙ ap held_in (append_assoc before bytes piece);
  adds = λ before is.
      let x : List Event = events_added c before bytes in
      let y : List Event = events_added c (before ++ bytes) piece in
      adds_more first now later (numbers_of x) (numbers_of y) (numbers_of (events_added c before (bytes ++ piece))) (fed.adds before is) (adds (before ++ bytes) (fed.held before is))
      (λ e. ap (λ (events : List Event). numbers_of events e) (added-twice c before bytes piece) ∙ flat_map-append (number_of_event e) x y);
}

-- one step of the decoder more
pub fed_step : (c : ℕ) (old : Decoding) (first : Rings) (bytes x : List ℕ) (step : FrameStep) (decoder next : Decoding) (now later : Rings) → IsFed c old first bytes decoder now
    → ((before : List ℕ) → decoder.held ≡ held_in before → ReadsOn before x step next)
    → Adds now later (numbers_of (events_of_signs c (signs_of_step step next.message)))
    → IsFed c old first (bytes ++ x) next later
fed_step c old first bytes x step decoder next now later fed reads adds =
    fed_piece c old first bytes x decoder next now later fed (λ before is. (reads before is).held)
    (λ before is. adds_same now later (numbers_of (events_of_signs c (signs_of_step step next.message))) (numbers_of (events_added c before x)) adds
    (λ e. ap (λ (events : List Event). numbers_of events e) (added-signs c before x step next (reads before is))))

-- ---- a step of each head

pub does_feed : (observed : Type 0) (c n : ℕ) (held held_now : Held) (left left_now : List ℕ) (ds : List Decoding) (x next : Decoding) (old new : Rings) → c < length ds
    → FeedsAll observed c held held_now left left_now (get_or ds c x) next old new → DoesAll observed (FeedHead c n) held held_now left left_now ds (set ds c next) old new
does_feed observed c n held held_now left left_now ds x next old new within f = record {
  step = Feed c f.bytes;
  of_head = (f.bytes, refl);
  taken = f.taken;
  whole = f.whole;
  adds = λ bs e. f.fed.adds (get_or bs c []) (decode_at ds bs c x within e);
  decode = λ d bs each e. decode_set ds bs c next (get_or bs c [] ++ f.bytes) e (f.fed.held (get_or bs c []) (decode_at ds bs c x within e));
  circuits = length-set ds c next;
}

pub does_take : (observed : Type 0) (c : ℕ) (held : Held) (left : List ℕ) (ds : List Decoding) (old : Rings) → held.feed ≡ 0 → DoesAll observed (TakeHead c) held held left left ds ds old old
does_take observed c held left ds old none = record {
  step = Take c;
  of_head = refl;
  taken = takes_none observed held left;
  whole = none;
  adds = λ bs e. adds_none old (λ e. []) (λ e. refl);
  decode = λ d bs each e. e;
  circuits = refl;
}

pub does_drain : (observed : Type 0) (c : ℕ) (held : Held) (left : List ℕ) (ds : List Decoding) (old : Rings) → held.feed ≡ 0 → DoesAll observed (DrainHead c) held held left left ds ds old old
does_drain observed c held left ds old none = record {
  step = Drain c;
  of_head = refl;
  taken = takes_none observed held left;
  whole = none;
  adds = λ bs e. adds_none old (λ e. []) (λ e. refl);
  decode = λ d bs each e. e;
  circuits = refl;
}

pub does_compact : (observed : Type 0) (held : Held) (left : List ℕ) (ds : List Decoding) (old : Rings) → held.feed ≡ 0 → DoesAll observed CompactHead held held left left ds ds old old
does_compact observed held left ds old none = grind (arith, common_steps, takes_none, adds_none)

pub does_reopen : (observed : Type 0) (c : ℕ) (held : Held) (left : List ℕ) (ds : List Decoding) (next : Decoding) (old : Rings) → next ≡ fresh → held.feed ≡ 0
    → DoesAll observed (ReopenHead c) held held left left ds (set ds c next) old old
does_reopen observed c held left ds next old is none = record {
  step = Reopen c;
  of_head = refl;
  taken = takes_none observed held left;
  whole = none;
  adds = λ bs e. adds_none old (λ e. []) (λ e. refl);
  decode = λ d bs each e. decode_set ds bs c next [] e (ap (λ (d : Decoding). d.held) is);
  circuits = length-set ds c next;
}

pub does_restart : (observed : Type 0) (held : Held) (left : List ℕ) (ds ds_now : List Decoding) (old : Rings) → ds_now ≡ map (λ _. fresh) ds → held.feed ≡ 0
    → DoesAll observed RestartHead held held left left ds ds_now old old
does_restart observed held left ds ds_now old anew none = grind (arith, common_steps, takes_none, adds_none, decode_reopened, length-map)

pub feeds_step : (observed : Type 0) (c n : ℕ) (result : Result (Unit {0}) CaptureFault) (held held_now : Held) (left left_now : List ℕ) (ds : List Decoding) (x next : Decoding) (old new : Rings) → c < length ds
    → Feeds observed c result held held_now left left_now (get_or ds c x) next old new → DoesStep observed (FeedHead c n) result held held_now left left_now ds (set ds c next) old new
feeds_step observed c n (Ok u) held held_now left left_now ds x next old new within f = does_feed observed c n held held_now left left_now ds x next old new within f
feeds_step observed c n (Err (Bad at)) held held_now left left_now ds x next old new within f = record { step = Feed c f.0; of_head = (f.0, refl); ends = f.1 }
feeds_step observed c n (Err SourceFault) held held_now left left_now ds x next old new within f = tt
