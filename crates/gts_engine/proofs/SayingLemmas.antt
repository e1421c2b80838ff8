-- Pieces that are held, said one behind the other, over the parts of an engine.
use Rattle.gts_engine.proofs.Cited.{◌≡◌, ◌<◌, ◌≤◌, ◌+◌, ℕ, List, [], ◌∷◌, ◌++◌, length, take, drop, Result, Ok, Err, refl, sym, ap, subst, ◌∙◌, arith, add-one, length-append, OnOk, AsksOutput, BringsAndSays, Call, Directory, DiskFault, EachSince, EngineParts, FailsAt, Gathered, HasBrought, HasRoom, InHand, MOST_TOGETHER, MayBring, OnlyBrought, OnlySaid, OpensAlong, Outside, SaidSince, Saying, Sayings, SaysHeld, StandsFor, StandsUnlessDisk, State, StationMeanings, SwitchFault, TriesPiece, after_records, held_pieces, joined, pieces_of, said_by, slice_index_or, SaidSince-refl}
use Rattle.std.proofs.Common.{take_all}
use Rattle.gts_engine.proofs.PieceLemmas.{piece_stands, piece_moments, failed_part, piece_said, nothing_yet, brought_only, brought_then}

abbrev pub sayings_in : {P : Type 0} → EngineParts P → Sayings
sayings_in p = p.held

abbrev pub journal_in : {P : Type 0} → EngineParts P → InHand
journal_in p = p.journal

abbrev pub batch_in : {P : Type 0} → EngineParts P → Gathered
batch_in p = p.batch

-- one piece for each of them
pub pieces_length : (each : List Saying) (bytes : List ℕ) → length (pieces_of each bytes) ≡ length each
pieces_length [] bytes = refl
pieces_length (s ∷ each) bytes = omega (arith, pieces_length each (drop s.size bytes))

-- few pieces are held where there is room for one more, and with that too
pub few_held : (h : Sayings) (n : ℕ) (held : List Outside) → HasRoom h n → held ≡ held_pieces h → length held ≤ MOST_TOGETHER
few_held h n held room is = omega (arith, room.0, ap length is, pieces_length h.each h.bytes)

pub few_more : (h : Sayings) (n : ℕ) (piece : Outside) (held : List Outside) → HasRoom h n → held ≡ held_pieces h ++ piece ∷ [] → length held ≤ MOST_TOGETHER
few_more h n piece held room is = omega (arith, room.0, ap length is, length-append (held_pieces h) (piece ∷ []), pieces_length h.each h.bytes)

-- the pieces before one of them were said, over the parts
pub record SaysUpTo {P : Type 0} (station : StationMeanings P) (first : EngineParts P) (i : ℕ) (now : EngineParts P) : Type 0 where
  pub rest : OnlySaid first now
  pub going : now.stopped ≡ first.stopped
  pub said : station.observed → SaidSince (station.calls first.station) (station.calls now.station) (joined (take i (held_pieces first.held)))
  pub moments : station.observed → (s : State) → StandsFor first.directory s (station.calls first.station) first.journal
      → EachSince (station.calls first.station) (station.calls now.station) (OpensAlong first.directory s (joined (held_pieces first.held)))
  pub stands : station.observed → (s : State) → StandsFor first.directory s (station.calls first.station) first.journal → StandsFor first.directory s (station.calls now.station) first.journal
  pub still : station.say_faults now.station ≡ station.say_faults first.station
  pub disk_stays : station.disk_faults now.station ≡ station.disk_faults first.station

module _ {P : Type 0} (station : StationMeanings P) (first : EngineParts P) where
  abbrev pieces : List Outside
  pieces = held_pieces first.held

  pub none_so_far : SaysUpTo station first 0 first
  none_so_far = record {
    rest = refl;
    going = refl;
    said = λ tell. SaidSince-refl (station.calls first.station);
    moments = λ tell s stands. nothing_yet first.directory (held_pieces first.held) (station.calls first.station) first.journal s stands;
    stands = λ tell s stands. stands;
    still = refl;
    disk_stays = refl;
  }

  -- all of them
  pub said_all : (n : ℕ) (now : EngineParts P) → n ≡ length first.held.each → SaysUpTo station first n now → station.observed → SaidSince (station.calls first.station) (station.calls now.station) (joined (held_pieces first.held))
  said_all n now is up tell =
      let whole : take n (held_pieces first.held) ≡ held_pieces first.held = take_all n (held_pieces first.held) (omega (arith, is, pieces_length first.held.each first.held.bytes)) in
      subst (λ (ps : List Outside). SaidSince (station.calls first.station) (station.calls now.station) (joined ps)) whole (up.said tell)

  pub holds_all : (n : ℕ) (now : EngineParts P) → SaysUpTo station first n now → station.observed → SaysHeld first.directory (held_pieces first.held) (station.calls first.station) (station.calls now.station) first.journal
  holds_all n now up tell = record { moments = up.moments tell; stands = up.stands tell }

  module _ (i : ℕ) (mid new : EngineParts P) (up : SaysUpTo station first i mid) (within : i < length first.held.each) {T : Type 0} (result : Result T SwitchFault)
      (told : station.observed → TriesPiece (slice_index_or (held_pieces mid.held) i []) result (station.calls mid.station) (station.calls new.station)) (rest : OnlySaid mid new)
      (asks : AsksOutput station result mid.station new.station) where
    within_pieces : i < length (held_pieces first.held)
    within_pieces = omega (arith, within, pieces_length first.held.each first.held.bytes)

    tries : station.observed → TriesPiece (slice_index_or (held_pieces first.held) i []) result (station.calls mid.station) (station.calls new.station)
    tries tell =
        let T : Sayings → Type 0 = λ h. TriesPiece (slice_index_or (held_pieces h) i []) result (station.calls mid.station) (station.calls new.station) in
        subst T (ap sayings_in up.rest) (told tell)

    moments_now : station.observed → (s : State) → StandsFor first.directory s (station.calls first.station) first.journal
        → EachSince (station.calls first.station) (station.calls new.station) (OpensAlong first.directory s (joined (held_pieces first.held)))
    moments_now tell s stands =
        piece_moments first.directory (held_pieces first.held) (station.calls first.station) (station.calls mid.station) first.journal i within_pieces (up.said tell) result (station.calls new.station) (tries tell)
        s (up.stands tell s stands) (up.moments tell s stands)

    stands_now : station.observed → (s : State) → StandsFor first.directory s (station.calls first.station) first.journal → StandsFor first.directory s (station.calls new.station) first.journal
    stands_now tell s stands =
        piece_stands first.directory (held_pieces first.held) (station.calls first.station) (station.calls mid.station) first.journal i within_pieces (up.said tell) result (station.calls new.station) (tries tell)
        s (up.stands tell s stands)

    only : OnlySaid first new
    only =
        let R : EngineParts P → Type 0 = λ p. new ≡ record p { station = new.station; stopped = new.stopped } in
        subst R up.rest rest

    -- one piece more
    pub one_further : (x : T) → result ≡ Ok x → new.stopped ≡ mid.stopped → SaysUpTo station first (i + 1) new
    one_further x ok going = record {
      rest = only;
      going = going ∙ up.going;
      said = λ tell. subst (λ (n : ℕ). SaidSince (station.calls first.station) (station.calls new.station) (joined (take n (held_pieces first.held)))) (sym (add-one i))
          (piece_said (held_pieces first.held) (station.calls first.station) (station.calls mid.station) (station.calls new.station) i within_pieces (up.said tell) result x ok (tries tell));
      moments = moments_now;
      stands = stands_now;
      still = (let S : Result T SwitchFault → Type 0 = λ r. OnOk r (station.say_faults new.station ≡ station.say_faults mid.station) in subst S ok asks.sound) ∙ up.still;
      disk_stays = asks.disk ∙ up.disk_stays;
    }

    -- or saying failed there
    pub holds_failed : station.observed → SaysHeld first.directory (held_pieces first.held) (station.calls first.station) (station.calls new.station) first.journal
    holds_failed tell = record { moments = moments_now tell; stands = stands_now tell }

    pub fails_there : FailsAt station.observed (held_pieces first.held) i (station.calls first.station) (station.calls new.station)
    fails_there = record {
      within = within_pieces;
      said = λ tell. failed_part first.directory (held_pieces first.held) (station.calls first.station) (station.calls mid.station) first.journal i within_pieces (up.said tell) result (station.calls new.station) (tries tell);
    }

    pub only_said : OnlySaid first new
    only_said = only

-- ---- behind what was brought into the journal

module _ {P : Type 0} (station : StationMeanings P) (old mid new : EngineParts P) (rest : OnlyBrought old mid) where
  says_there : SaysHeld mid.directory (held_pieces mid.held) (station.calls mid.station) (station.calls new.station) mid.journal → SaysHeld old.directory (held_pieces old.held) (station.calls mid.station) (station.calls new.station) mid.journal
  says_there says =
      let H : EngineParts P → Type 0 = λ p. SaysHeld p.directory (held_pieces p.held) (station.calls mid.station) (station.calls new.station) mid.journal in
      subst H rest says

  pub only_brought : OnlySaid mid new → OnlyBrought old new
  only_brought said =
      let N : EngineParts P → Type 0 = λ p. new ≡ record p { station = new.station; stopped = new.stopped } in
      let J : InHand → Gathered → EngineParts P = λ j b. record old { station = new.station; journal = j; batch = b; stopped = new.stopped } in
      subst N rest said ∙ ap (λ (j : InHand). J j mid.batch) (sym (ap journal_in said)) ∙ ap (λ (b : Gathered). J new.journal b) (sym (ap batch_in said))

  module _ (silent : station.observed → said_by (station.calls mid.station) ≡ said_by (station.calls old.station)) (moments : station.observed → MayBring old.directory (station.calls old.station) old.journal old.batch (station.calls mid.station)) where
    -- the disk failed
    pub brings_nothing : station.observed → BringsAndSays (Err DiskFault) (station.calls old.station) (station.calls mid.station) old mid.journal
    brings_nothing tell s rs stands next = record {
      moments = brought_only old.directory s (after_records old.directory s rs) (joined (held_pieces old.held)) (station.calls old.station) (station.calls mid.station) (moments tell s rs stands next);
      stands = tt;
    }

    -- or all was brought, and then pieces were said
    module _ (brought : station.observed → HasBrought old.directory (station.calls old.station) old.journal old.batch (station.calls mid.station) mid.journal) (said : OnlySaid mid new)
        (says : station.observed → SaysHeld mid.directory (held_pieces mid.held) (station.calls mid.station) (station.calls new.station) mid.journal) where
      pub brings_all : (r : Result (Unit {0}) SwitchFault) → ((d : Directory) (t : State) (cs : List Call) (j : InHand) → StandsFor d t cs j → StandsUnlessDisk d t r cs j) → station.observed
          → BringsAndSays r (station.calls old.station) (station.calls new.station) old new.journal
      brings_all r unless tell s rs stands next =
          let t : State = after_records old.directory s rs in
          let here = brought tell s rs stands next in
          let h = says_there (says tell) in
          let J : InHand → Type 0 = λ j. StandsFor old.directory t (station.calls new.station) j in
          record {
            moments = brought_then old.directory s t (joined (held_pieces old.held)) (station.calls old.station) (station.calls mid.station) (station.calls new.station) (moments tell s rs stands next) (silent tell) (h.moments t here);
            stands = unless old.directory t (station.calls new.station) new.journal (subst J (sym (ap journal_in said)) (h.stands t here));
          }

      -- what was said
      since_old : (outside : Outside) → station.observed → SaidSince (station.calls mid.station) (station.calls new.station) outside → SaidSince (station.calls old.station) (station.calls new.station) outside
      since_old outside tell since = since ∙ ap (λ (l : Outside). l ++ outside) (silent tell)

      pub said_behind : (station.observed → SaidSince (station.calls mid.station) (station.calls new.station) (joined (held_pieces mid.held))) → station.observed → SaidSince (station.calls old.station) (station.calls new.station) (joined (held_pieces old.held))
      said_behind since tell =
          let H : EngineParts P → Type 0 = λ p. SaidSince (station.calls old.station) (station.calls new.station) (joined (held_pieces p.held)) in
          subst H rest (since_old (joined (held_pieces mid.held)) tell (since tell))

      pub fails_behind : (i : ℕ) → FailsAt station.observed (held_pieces mid.held) i (station.calls mid.station) (station.calls new.station) → FailsAt station.observed (held_pieces old.held) i (station.calls old.station) (station.calls new.station)
      fails_behind i failed =
          let H : EngineParts P → Type 0 = λ p. FailsAt station.observed (held_pieces p.held) i (station.calls old.station) (station.calls new.station) in
          subst H rest (record {
            within = failed.within;
            said = λ tell. let f = failed.said tell in (f.0, f.1, since_old (joined (take i (held_pieces mid.held)) ++ f.0) tell f.2);
          })
