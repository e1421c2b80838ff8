-- What is said of missing numbers, piece by piece.
use Rattle.gts_gap.proofs.Cited.{◌≡◌, ℕ, zero, suc, ◌+◌, ◌<◌, List, [], ◌∷◌, ◌++◌, length, map, get_or, Some, Result, Ok, Err, inl, inr, refl, sym, ap, subst, ◌∙◌, arith, append_assoc, codes, slice_get, IsErrAnd, err_from_is_err_and, cases_lt, append-nil, length-append, An, Call, Circuit, Directory, EOL, Failed, Moment, Numbered, Outside, Run, SOH, SaysFront, SaysOnly, Tells, ask_frame, ask_heading, asked, dec, frame, gap_lines, heading_text, item_text, message_end, message_of, on, peer_of, run_lines, said_from, said_of, text_of, front_text, length-dec, on-append, said_more, front_behind, front_more, common_steps}
use Rattle.gts_gap.proofs.AskLemmas.{triples, one-line}

-- ---- pieces

pub tells_behind : {T E : Type 0} (result : Result T E) (a b c : List Call) (x y : Outside) → SaysOnly a b x → Tells result y b c → Tells result (x ++ y) a c
tells_behind (Ok u) a b c x y first second = said_more a b c x y first second
tells_behind (Err e) a b c x y first second = front_behind a b c x y first second

-- on one channel
pub tells_on : {T E : Type 0} (result : Result T E) (a b c : List Call) (channel : ℕ) (x y : List ℕ) → SaysOnly a b (on channel x) → Tells result (on channel y) b c
    → Tells result (on channel (x ++ y)) a c
tells_on result a b c channel x y first second = grind (arith, common_steps, on-append, tells_behind)

pub front_on : (a b : List Call) (channel : ℕ) (x y : List ℕ) → SaysFront a b (on channel x) → SaysFront a b (on channel (x ++ y))
front_on a b channel x y first = subst (λ (o : Outside). SaysFront a b o) (sym (on-append channel x y)) (front_more a b (on channel x) (on channel y) first)

-- ---- lines

pub lines_given : (c w : ℕ) (rs : List Run) → run_lines c (triples w rs) ≡ gap_lines c w rs
lines_given c w [] = refl
lines_given c w (run ∷ rs) = ap (λ (l : List ℕ). codes "gap " ++ dec 2 c ++ codes " " ++ item_text w run ++ codes "\n" ++ l) (lines_given c w rs)

-- ---- a request

frame_parts : (heading text : List ℕ) → length heading ≡ 18
    → frame An (message_of (codes "000") (heading ++ EOL ++ text ++ message_end))
    ≡ (dec 8 (35 + length text) ++ codes "AN" ++ SOH ∷ [] ++ EOL ++ codes "000" ++ EOL ++ heading ++ EOL) ++ text ++ message_end
frame_parts heading text long = grind (arith, common_steps, length-append)

heading_is : (peer : List ℕ) (moment : Moment)
    → heading_text (ask_heading peer moment.day moment.hour moment.minute) ≡ codes "BMRR01 " ++ peer ++ codes " " ++ dec 2 moment.day ++ dec 2 moment.hour ++ dec 2 moment.minute
unfolding heading_text dec
heading_is peer moment = append-nil (codes "BMRR01 " ++ peer ++ codes " " ++ dec 2 moment.day ++ dec 2 moment.hour ++ dec 2 moment.minute)

pub frame_text : (peer : List ℕ) (moment : Moment) (text : List ℕ) → length peer ≡ 4
    → ask_frame (ask_heading peer moment.day moment.hour moment.minute) text ≡ (front_text peer moment (35 + length text) ++ text) ++ message_end
frame_text peer moment text four =
    let heading : List ℕ = heading_text (ask_heading peer moment.day moment.hour moment.minute) in
    let spelled : List ℕ = codes "BMRR01 " ++ peer ++ codes " " ++ dec 2 moment.day ++ dec 2 moment.hour ++ dec 2 moment.minute in
    let is : heading ≡ spelled = heading_is peer moment in
    let long : length heading ≡ 18 =
    omega (
      arith,
      ap length is,
      four,
      length-append (codes "BMRR01 " ++ peer ++ codes " " ++ dec 2 moment.day ++ dec 2 moment.hour) (dec 2 moment.minute),
      length-append (codes "BMRR01 " ++ peer ++ codes " " ++ dec 2 moment.day) (dec 2 moment.hour),
      length-append (codes "BMRR01 " ++ peer ++ codes " ") (dec 2 moment.day),
      length-append (codes "BMRR01 " ++ peer) (codes " "),
      length-append (codes "BMRR01 ") peer,
      length-dec 2 moment.day,
      length-dec 2 moment.hour,
      length-dec 2 moment.minute,
    ) in
    frame_parts heading text long
    ∙ ap (λ (h : List ℕ). (dec 8 (35 + length text) ++ codes "AN" ++ SOH ∷ [] ++ EOL ++ codes "000" ++ EOL ++ h ++ EOL) ++ text ++ message_end) is ∙ simp append_assoc

pub peer_is : (circuits : List Circuit) (c : ℕ) (row : Circuit) → slice_get circuits c ≡ Some row → get_or (map (λ r. r.peer) circuits) c [] ≡ row.peer
peer_is [] c row e = absurd (cc)
peer_is (x ∷ circuits) zero row e = let same : x ≡ row = cc in ap (λ (r : Circuit). r.peer) same
peer_is (x ∷ circuits) (suc c) row e = peer_is circuits c row e

-- where numbers are missing, they are asked for
pub asked_none : (d : Directory) (moment : Moment) (c w : ℕ) (rs : List Run) → ((triples w rs ≡ [] → ⊥) → ⊥) → asked d moment c w rs ≡ []
asked_none d moment c w [] none = refl
asked_none d moment c w (run ∷ rs) none = absurd (none (λ e. cc))

pub asked_some : (d : Directory) (moment : Moment) (c w : ℕ) (rs : List Run) → (triples w rs ≡ [] → ⊥)
    → asked d moment c w rs ≡ on (c + 1) (ask_frame (ask_heading (peer_of d c) moment.day moment.hour moment.minute) (text_of d.centre w (triples w rs)))
asked_some d moment c w [] some = absurd (some refl)
asked_some d moment c w (run ∷ rs) some =
    ap (λ (text : List ℕ). on (c + 1) (ask_frame (ask_heading (peer_of d c) moment.day moment.hour moment.minute) text)) (sym (one-line d.centre w (run ∷ rs) (λ e. cc)))

-- ---- all circuits

pub said_more_of : (d : Directory) (moment : Moment) (numbers : ℕ → List Numbered) (c count : ℕ)
    → said_from d moment numbers c (count + 1) ≡ said_from d moment numbers c count ++ said_of d moment (c + count) (numbers (c + count))
said_more_of d moment numbers c zero = grind (arith, common_steps, append-nil)
said_more_of d moment numbers c (suc count) =
    let next : suc count + 1 ≡ suc (count + 1) = omega arith in
    let place : c + 1 + count ≡ c + suc count = omega arith in
    let last : ℕ → Outside = λ k. said_of d moment k (numbers k) in
    ap (said_from d moment numbers c) next
    ∙ ap (λ (o : Outside). last c ++ o) (said_more_of d moment numbers (c + 1) count ∙ ap (λ (k : ℕ). said_from d moment numbers (c + 1) count ++ last k) place)
    ∙ sym (append_assoc (last c) (said_from d moment numbers (c + 1) count) (last (c + suc count)))

-- the report of all circuits begins with that of the first ones, and goes on
pub said_split : (d : Directory) (moment : Moment) (numbers : ℕ → List Numbered) (k count : ℕ) → k < count
    → (rest : Outside) × (said_from d moment numbers 0 count ≡ (said_from d moment numbers 0 k ++ said_of d moment k (numbers k)) ++ rest)
said_split d moment numbers k count within = go count within
  where
    first : said_from d moment numbers 0 (k + 1) ≡ said_from d moment numbers 0 k ++ said_of d moment k (numbers k)
    first =
        let here : 0 + k ≡ k = omega arith in
        said_more_of d moment numbers 0 k ∙ ap (λ (n : ℕ). said_from d moment numbers 0 k ++ said_of d moment n (numbers n)) here

    go : (n : ℕ) → k < n → (rest : Outside) × (said_from d moment numbers 0 n ≡ (said_from d moment numbers 0 k ++ said_of d moment k (numbers k)) ++ rest)
    go zero lt = absurd (omega (arith, lt))
    go (suc n) lt = elim (cases_lt k n) [
      | inl more ↦
          let later = go n more in
          let last : Outside = said_of d moment (0 + n) (numbers (0 + n)) in
          let next : suc n ≡ n + 1 = omega arith in (
            later.0 ++ last,
            ap (said_from d moment numbers 0) next ∙ said_more_of d moment numbers 0 n ∙ ap (λ (o : Outside). o ++ last) later.1
                ∙ append_assoc (said_from d moment numbers 0 k ++ said_of d moment k (numbers k)) later.0 last,
          )
      | inr over ↦
          let same : suc n ≡ k + 1 = omega (arith, lt, over) in
          ([], ap (said_from d moment numbers 0) same ∙ first ∙ sym (append-nil (said_from d moment numbers 0 k ++ said_of d moment k (numbers k))))
    ]

-- what a failure that is passed on tells
pub front_told : (r : Result (Unit {0}) Failed) (f : Failed) (o : Outside) (a b : List Call) → IsErrAnd r (λ e. e ≡ f) → SaysFront a b o → Tells r o a b
front_told r f o a b failed said = let x = err_from_is_err_and r failed in subst (λ (y : Result (Unit {0}) Failed). Tells y o a b) (sym x.1) said
