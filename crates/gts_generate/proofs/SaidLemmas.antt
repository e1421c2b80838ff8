-- What was said on the circuits, out of the sayings of a station.
use Rattle.gts_generate.proofs.Cited.{◌≡◌, ℕ, ◌+◌, ◌<◌, ◌≤◌, Bool, true, false, List, [], ◌∷◌, ◌++◌, length, take, get_or, refl, sym, ◌∙◌, ap, arith, flat_map, if◌then◌else◌, nat_lt, slice_get, Some, ltb-false, lt-leb, append-nil, take_more, take_all, flat_map-append, slice_get_within, get_or_from_slice_get, Broken, CHANNELS, Call, Cuts, Did, Doing, Noted, Says, Syncs, Writes, calls_of, fits, frames_said, is_circuit, kept_call, on, said_by, saying_of, sayings, unchanged, common_steps}
use Rattle.gts_generate.proofs.FramesLemmas.{frames-append, frames-where}

-- what of a saying was said on a circuit
abbrev pub on_circuit : ℕ × List ℕ → List ℕ
on_circuit said = if is_circuit said.0 then said.1 else []

abbrev pub on_circuits : List (ℕ × List ℕ) → List ℕ
on_circuits sayings = flat_map on_circuit sayings

frames-on : (channel : ℕ) (bytes : List ℕ) → frames_said (on channel bytes) ≡ on_circuit (channel, bytes)
frames-on channel bytes = frames-where (is_circuit channel) channel bytes refl

-- no channel behind the last one is a circuit's
no-circuit : (channel : ℕ) → nat_lt channel CHANNELS ≡ false → is_circuit channel ≡ false
no-circuit channel past = grind (arith, common_steps, ltb-false, lt-leb)

-- a call that says nothing
after-write : (fit : Bool) (file at : ℕ) (bytes left : List ℕ) (calls : List Call)
    → frames_said (said_by ((if fit then Did (Writes file at bytes) else Broken (Writes file at bytes) left) ∷ calls))
    ≡ frames_said (said_by calls) ++ []
after-write true file at bytes left calls = sym (append-nil (frames_said (said_by calls)))
after-write false file at bytes left calls = sym (append-nil (frames_said (said_by calls)))

after-cut : (fit : Bool) (file size : ℕ) (left : List ℕ) (calls : List Call)
    → frames_said (said_by ((if fit then Did (Cuts file size) else Broken (Cuts file size) left) ∷ calls))
    ≡ frames_said (said_by calls) ++ []
after-cut true file size left calls = sym (append-nil (frames_said (said_by calls)))
after-cut false file size left calls = sym (append-nil (frames_said (said_by calls)))

-- a say that broke says nothing
after-nothing : (channel : ℕ) (calls : List Call) → frames_said (said_by calls ++ on channel []) ≡ frames_said (said_by calls) ++ []
after-nothing channel calls = grind (arith, common_steps, append-nil)

after-say : (fit : Bool) (channel : ℕ) (bytes : List ℕ) (calls : List Call) → nat_lt channel CHANNELS ≡ fit
    → frames_said (said_by ((if fit then Did (Says channel bytes) else Broken (Says channel bytes) []) ∷ calls))
    ≡ frames_said (said_by calls) ++ on_circuits ((channel, bytes) ∷ [])
after-say true channel bytes calls here = grind (arith, common_steps, frames-append, frames-on, append-nil)
after-say false channel bytes calls here = grind (arith, common_steps, no-circuit, after-nothing, append-nil)

-- one call more
call-more : (done : Bool) (doing : Doing) (calls : List Call)
    → frames_said (said_by (kept_call done doing calls ∷ calls)) ≡ frames_said (said_by calls) ++ on_circuits (saying_of done doing)
call-more true (Writes file at bytes) calls = grind (arith, common_steps, after-write)
call-more true (Cuts file size) calls = after-cut (fits (Cuts file size) calls) file size (unchanged (Cuts file size) calls) calls
call-more true Syncs calls = sym (append-nil (frames_said (said_by calls)))
call-more true (Says channel bytes) calls = after-say (nat_lt channel CHANNELS) channel bytes calls refl
call-more false (Writes file at bytes) calls = sym (append-nil (frames_said (said_by calls)))
call-more false (Cuts file size) calls = sym (append-nil (frames_said (said_by calls)))
call-more false Syncs calls = sym (append-nil (frames_said (said_by calls)))
call-more false (Says channel bytes) calls = after-nothing channel calls

-- the bytes of all sayings are what was said
pub circuits-said : (past : List Noted) → frames_said (said_by (calls_of past)) ≡ on_circuits (sayings past)
circuits-said [] = refl
circuits-said (noted ∷ past) = grind (arith, common_steps, call-more, flat_map-append, circuits-said past)

-- one saying more
pub sayings-more : (said : List (ℕ × List ℕ)) (k channel : ℕ) (bytes : List ℕ) → slice_get said k ≡ Some (channel, bytes)
    → on_circuits (take (k + 1) said) ≡ on_circuits (take k said) ++ on_circuit (channel, bytes)
sayings-more said k channel bytes here =
    let inside : k < length said = slice_get_within said k (channel, bytes) here in
    let one : get_or said k (channel, bytes) ≡ (channel, bytes) = get_or_from_slice_get said k (channel, bytes) (channel, bytes) here in
    ap on_circuits (take_more said k (channel, bytes) inside ∙ ap (λ (s : ℕ × List ℕ). take k said ++ s ∷ []) one)
    ∙ flat_map-append on_circuit (take k said) ((channel, bytes) ∷ [])
    ∙ ap (λ (l : List ℕ). on_circuits (take k said) ++ l) (append-nil (on_circuit (channel, bytes)))

-- all sayings
pub sayings-all : (past : List Noted) (k : ℕ) → length (sayings past) ≤ k → on_circuits (take k (sayings past)) ≡ frames_said (said_by (calls_of past))
sayings-all past k all = ap on_circuits (take_all k (sayings past) all) ∙ sym (circuits-said past)
