-- A request's text by its grammar, and as it is read from left to right.
use Rattle.gts_request.proofs.Cited.{◌≡◌, ◌⊎◌, ◌↔◌, inl, inr, ℕ, zero, suc, ◌<◌, ◌&&◌, Bool, true, nat_le, List, [], ◌∷◌, ◌++◌, length, take, drop, map, Option, Some, None, Result, Ok, Err, refl, sym, ap, subst, ◌∙◌, append_assoc, arith, if◌then◌else◌, Ahd, AllByRecursion, AskedLine, Asker, Cccc, EndsBefore, Entry, IsAsker, IsEntry, IsLine, IsRequestFor, Item, Lacks, LacksEnd, LacksEntry, LacksLine, Latest, Line, LineEnd, LineStart, MessageField, One, Place, Range, RequestField, Sqn, StopsAt, StopsAtLine, StopsInLine, are_capitals, asked, behind_asker, behind_item, behind_line, bytes_from, capitals_at, entry_text, item_at, items_at, items_from, line_items, line_start, line_start_at, line_text, lines_items, lines_text, request_at, slashed, step_at, ◌>>=◌, le-leb, leb-true, append-nil, length-append, length-take-le, take_at, drop_at, take-append-drop, bare_again, common_steps}
use Rattle.gts_request.proofs.FieldLemmas.{begins, ItemView, item_view, item_again, item_lacks}
use Rattle.gts_request.proofs.RequestLemmas.{items_after, fault_at, fault_of_first}

-- ---- what is behind an item

-- the start of a line stands here, or it doesn't
abbrev StartView : List ℕ → Result Place RequestField → Type 0
StartView bytes (Ok place) = bytes ≡ line_start place.0 ++ place.1
StartView bytes (Err field) = (field ≡ LineStart) × LacksLine bytes

start_view : (bytes : List ℕ) → StartView bytes (line_start_at bytes)
start_view bytes = grind (arith, common_steps, begins)

start_again : (kind : Line) (rest : List ℕ) → line_start_at (line_start kind ++ rest) ≡ Ok (kind, rest)
start_again Sqn rest = refl
start_again Ahd rest = refl

start_lacks : (bytes : List ℕ) → LacksLine bytes → line_start_at bytes ≡ Err LineStart
start_lacks bytes lacks = rw (lacks.0, lacks.1) refl

abbrev EndView : Line → List ℕ → Result (Option Place) RequestField → Type 0
EndView kind bytes (Ok None) = bytes ≡ 61 ∷ []
EndView kind bytes (Ok (Some place)) = ((place.0 ≡ kind) × (bytes ≡ 47 ∷ place.1)) ⊎ (bytes ≡ 61 ∷ (line_start place.0 ++ place.1))
EndView kind bytes (Err field) =
    ((field ≡ LineStart) × (rest : List ℕ) × (bytes ≡ 61 ∷ rest) × (rest ≡ [] → ⊥) × LacksLine rest)
    ⊎ ((field ≡ LineEnd) × Lacks (47 ∷ []) bytes × Lacks (61 ∷ []) bytes)

abbrev AfterEquals : List ℕ → Result (Option Place) RequestField → Type 0
AfterEquals rest (Ok None) = rest ≡ []
AfterEquals rest (Ok (Some place)) = rest ≡ line_start place.0 ++ place.1
AfterEquals rest (Err field) = (field ≡ LineStart) × (rest ≡ [] → ⊥) × LacksLine rest

nonempty : (x : ℕ) (xs : List ℕ) → x ∷ xs ≡ [] → ⊥
nonempty x xs e = absurd (cc)

equals_view : (rest : List ℕ) → AfterEquals rest (behind_line rest)
equals_view [] = refl
equals_view (x ∷ xs) = grind (arith, common_steps, start_view, nonempty)

end_view : (kind : Line) (bytes : List ℕ) → EndView kind bytes (behind_item kind bytes)
end_view kind bytes = grind (arith, common_steps, begins, equals_view)

-- ---- an entry and what is behind it

-- so a `/` or a `=` ends each entry
ends_at : (kind : Line) (entry : Entry) (rest : List ℕ) (x : ℕ) → IsEntry kind entry → (x ≡ 47) ⊎ (x ≡ 61) → EndsBefore (x ∷ rest) entry
ends_at kind (One w n) rest x is (inl e) = rw e (refl, refl)
ends_at kind (One w n) rest x is (inr e) = rw e (refl, refl)
ends_at kind (Range w first last) rest x is (inl e) = rw e refl
ends_at kind (Range w first last) rest x is (inr e) = rw e refl
ends_at Sqn (Latest heading) rest x is e = absurd is
ends_at Ahd (Latest heading) rest x is (inl e) = bare_again heading (x ∷ rest) is (rw e refl)
ends_at Ahd (Latest heading) rest x is (inr e) = bare_again heading (x ∷ rest) is (rw e refl)

abbrev Behind : Line → Item → Result (Option Place) RequestField → Result (Item × Option Place) RequestField
Behind kind item r = r >>= λ next. Ok (item, next)

abbrev Step : Line → Result (Item × List ℕ) RequestField → Result (Item × Option Place) RequestField
Step kind r = r >>= λ item. Behind kind item.0 (behind_item kind item.1)

step_of : (kind : Line) (entry : Entry) (rest : List ℕ) → IsEntry kind entry → EndsBefore rest entry
    → step_at (kind, entry_text entry ++ rest) ≡ Behind kind (asked entry) (behind_item kind rest)
step_of kind entry rest is ends = ap (Step kind) (item_again kind entry rest is ends)

-- what comes behind a line's end
pub after : List ℕ → Result (List Item) RequestField
after rest = behind_line rest >>= items_from

abbrev Prepend : List Item → Result (List Item) RequestField → Result (List Item) RequestField
Prepend items r = r >>= λ more. Ok (items ++ more)

prepend_twice : (xs ys : List Item) (r : Result (List Item) RequestField) → Prepend xs (Prepend ys r) ≡ Prepend (xs ++ ys) r
prepend_twice xs ys (Ok items) = ap (λ (l : List Item). let r : Result (List Item) RequestField = Ok l in r) (sym (append_assoc xs ys items))
prepend_twice xs ys (Err field) = refl

slash_again : (kind : Line) (before : List Entry) (rest : List ℕ) → AllByRecursion (IsEntry kind) before
    → items_from (Some (kind, slashed before ++ rest)) ≡ Prepend (map asked before) (items_from (Some (kind, rest)))
slash_again kind [] rest all = grind (arith, common_steps)
slash_again kind (entry ∷ more) rest all =
    let bytes : List ℕ = slashed more ++ rest in
    let step : step_at (kind, entry_text entry ++ 47 ∷ bytes) ≡ Ok (asked entry, Some (kind, bytes)) =
    step_of kind entry (47 ∷ bytes) all.0 (ends_at kind entry bytes 47 all.0 (inl refl)) in
    ap (λ (l : List ℕ). items_from (Some (kind, l))) (append_assoc (entry_text entry) (47 ∷ slashed more) rest)
    ∙ items_after (kind, entry_text entry ++ 47 ∷ bytes) (asked entry, Some (kind, bytes)) step
    ∙ ap (Prepend (asked entry ∷ [])) (slash_again kind more rest all.1)
    ∙ prepend_twice (asked entry ∷ []) (map asked more) (items_from (Some (kind, rest)))

last_again : (kind : Line) (entry : Entry) (rest : List ℕ) → IsEntry kind entry
    → items_from (Some (kind, entry_text entry ++ 61 ∷ rest)) ≡ Prepend (asked entry ∷ []) (after rest)
unfolding after
last_again kind entry rest is = go (behind_line rest) refl
  where
    bytes : List ℕ
    bytes = entry_text entry ++ 61 ∷ rest

    go : (r : Result (Option Place) RequestField) → behind_line rest ≡ r → items_from (Some (kind, bytes)) ≡ Prepend (asked entry ∷ []) (r >>= items_from)
    go (Ok next) e =
        let step : step_at (kind, bytes) ≡ Ok (asked entry, next) = step_of kind entry (61 ∷ rest) is (ends_at kind entry rest 61 is (inr refl)) ∙ ap (Behind kind (asked entry)) e in
        items_after (kind, bytes) (asked entry, next) step
    go (Err field) e =
        let step : step_at (kind, bytes) ≡ Err field = step_of kind entry (61 ∷ rest) is (ends_at kind entry rest 61 is (inr refl)) ∙ ap (Behind kind (asked entry)) e in
        fault_at (kind, bytes) field step

-- behind a line's end the start of a line leads to its first entry
after_start : (kind : Line) (rest : List ℕ) → after (line_start kind ++ rest) ≡ items_from (Some (kind, rest))
unfolding after
after_start Sqn rest = refl
after_start Ahd rest = refl

line_again : (line : AskedLine) (rest : List ℕ) → IsLine line → after (line_text line ++ rest) ≡ Prepend (line_items line) (after rest)
line_again line rest is = grind (arith, common_steps, after, after_start, slash_again, last_again, prepend_twice)

pub lines_again : (lines : List AskedLine) (rest : List ℕ) → AllByRecursion IsLine lines → after (lines_text lines ++ rest) ≡ Prepend (lines_items lines) (after rest)
lines_again [] rest all = grind (arith, common_steps, after)
lines_again (line ∷ more) rest all = grind (arith, common_steps, after, line_again, prepend_twice, lines_again more rest all.1)

-- ---- a place, read by the grammar

-- all is read from an entry on
record ReadsOn (kind : Line) (bytes : List ℕ) (items : List Item) : Type 0 where
  before : List Entry
  last : Entry
  lines : List AskedLine
  are_entries : AllByRecursion (IsEntry kind) before
  is_last : IsEntry kind last
  are_lines : AllByRecursion IsLine lines
  spelled : bytes ≡ slashed before ++ (entry_text last ++ 61 ∷ lines_text lines)
  asked_for : items ≡ map asked before ++ (asked last ∷ lines_items lines)

-- from an entry on its line and further ones are whole, and then one stops
record StopsLater (kind : Line) (bytes : List ℕ) (field : RequestField) : Type 0 where
  before : List Entry
  last : Entry
  lines : List AskedLine
  rest : List ℕ
  are_entries : AllByRecursion (IsEntry kind) before
  is_last : IsEntry kind last
  are_lines : AllByRecursion IsLine lines
  spelled : bytes ≡ slashed before ++ (entry_text last ++ 61 ∷ (lines_text lines ++ rest))
  goes_on : rest ≡ [] → ⊥
  stops : StopsAtLine rest field

abbrev PlaceView : Line → List ℕ → Result (List Item) RequestField → Type 0
PlaceView kind bytes (Ok items) = ReadsOn kind bytes items
PlaceView kind bytes (Err field) = StopsInLine kind bytes field ⊎ StopsLater kind bytes field

-- behind an entry and `/` the line goes on
behind_slash : (kind : Line) (entry : Entry) (bytes rest : List ℕ) (r : Result (List Item) RequestField) → IsEntry kind entry → bytes ≡ entry_text entry ++ 47 ∷ rest
    → PlaceView kind rest r → PlaceView kind bytes (r >>= λ items. Ok (asked entry ∷ items))
behind_slash kind entry bytes rest (Ok items) is spelled v = record {
  before = entry ∷ v.before;
  last = v.last;
  lines = v.lines;
  are_entries = (is, v.are_entries);
  is_last = v.is_last;
  are_lines = v.are_lines;
  spelled = spelled ∙ ap (λ (l : List ℕ). entry_text entry ++ 47 ∷ l) v.spelled ∙ sym (append_assoc (entry_text entry) (47 ∷ slashed v.before) (entry_text v.last ++ 61 ∷ lines_text v.lines));
  asked_for = ap (λ (l : List Item). asked entry ∷ l) v.asked_for;
}
behind_slash kind entry bytes rest (Err field) is spelled (inl v) = inl (record {
  before = entry ∷ v.before;
  rest = v.rest;
  are_entries = (is, v.are_entries);
  spelled = spelled ∙ ap (λ (l : List ℕ). entry_text entry ++ 47 ∷ l) v.spelled ∙ sym (append_assoc (entry_text entry) (47 ∷ slashed v.before) v.rest);
  lacks = v.lacks;
})
behind_slash kind entry bytes rest (Err field) is spelled (inr v) = inr (record {
  before = entry ∷ v.before;
  last = v.last;
  lines = v.lines;
  rest = v.rest;
  are_entries = (is, v.are_entries);
  is_last = v.is_last;
  are_lines = v.are_lines;
  spelled = spelled ∙ ap (λ (l : List ℕ). entry_text entry ++ 47 ∷ l) v.spelled ∙ sym (append_assoc (entry_text entry) (47 ∷ slashed v.before) (entry_text v.last ++ 61 ∷ (lines_text v.lines ++ v.rest)));
  goes_on = v.goes_on;
  stops = v.stops;
})

whole : (kind : Line) (before : List Entry) (last : Entry) (more : List ℕ)
    → line_start kind ++ (slashed before ++ (entry_text last ++ 61 ∷ more)) ≡ line_text (record { kind = kind; before = before; last = last }) ++ more
whole kind before last more = sym (let e : (line_start kind ++ slashed before ++ entry_text last ++ 61 ∷ []) ++ more ≡ line_start kind ++ (slashed before ++ (entry_text last ++ 61 ∷ more)) = simp append_assoc in e)

start_is_there : (kind : Line) (rest : List ℕ) → line_start kind ++ rest ≡ [] → ⊥
start_is_there Sqn rest e = nonempty 13 _ e
start_is_there Ahd rest e = nonempty 13 _ e

-- behind an entry and `=` another line begins
behind_equals : (kind : Line) (entry : Entry) (bytes : List ℕ) (next : Line) (rest : List ℕ) (r : Result (List Item) RequestField) → IsEntry kind entry
    → bytes ≡ entry_text entry ++ 61 ∷ (line_start next ++ rest) → PlaceView next rest r → PlaceView kind bytes (r >>= λ items. Ok (asked entry ∷ items))
behind_equals kind entry bytes next rest (Ok items) is spelled v = record {
  before = [];
  last = entry;
  lines = record { kind = next; before = v.before; last = v.last } ∷ v.lines;
  are_entries = tt;
  is_last = is;
  are_lines = ((v.are_entries, v.is_last), v.are_lines);
  spelled = spelled ∙ ap (λ (l : List ℕ). entry_text entry ++ 61 ∷ (line_start next ++ l)) v.spelled ∙ ap (λ (l : List ℕ). entry_text entry ++ 61 ∷ l) (whole next v.before v.last (lines_text v.lines));
  asked_for = ap (λ (l : List Item). asked entry ∷ l) (v.asked_for ∙ sym (append_assoc (map asked v.before) (asked v.last ∷ []) (lines_items v.lines)));
}
behind_equals kind entry bytes next rest (Err field) is spelled (inl v) = inr (record {
  before = [];
  last = entry;
  lines = [];
  rest = line_start next ++ rest;
  are_entries = tt;
  is_last = is;
  are_lines = tt;
  spelled = spelled;
  goes_on = start_is_there next rest;
  stops = inr (next, rest, refl, v);
})
behind_equals kind entry bytes next rest (Err field) is spelled (inr v) = inr (record {
  before = [];
  last = entry;
  lines = record { kind = next; before = v.before; last = v.last } ∷ v.lines;
  rest = v.rest;
  are_entries = tt;
  is_last = is;
  are_lines = ((v.are_entries, v.is_last), v.are_lines);
  spelled = spelled ∙ ap (λ (l : List ℕ). entry_text entry ++ 61 ∷ (line_start next ++ l)) v.spelled ∙ ap (λ (l : List ℕ). entry_text entry ++ 61 ∷ l) (whole next v.before v.last (lines_text v.lines ++ v.rest) ∙ sym (append_assoc (line_text (record { kind = next; before = v.before; last = v.last })) (lines_text v.lines) v.rest));
  goes_on = v.goes_on;
  stops = v.stops;
})

none_at : (n : ℕ) → items_at n None ≡ Ok []
none_at zero = refl
none_at (suc n) = refl

nearer : (front : List ℕ) (x : ℕ) (rest bytes : List ℕ) (n : ℕ) → bytes ≡ front ++ x ∷ rest → length bytes < suc n → length rest < n
nearer front x rest bytes n spelled h = let e : length bytes ≡ length (front ++ x ∷ rest) = ap length spelled in omega (arith, e, h, length-append front (x ∷ rest))

abbrev Placed : ℕ → Place → Type 0
Placed n place = PlaceView place.0 place.1 (items_at n (Some place))

abbrev With : ℕ → Result (Item × Option Place) RequestField → Result (List Item) RequestField
With n r = r >>= λ step. items_at n step.1 >>= λ items. Ok (step.0 ∷ items)

-- an entry that was read, and what is behind it
entry_view : (n : ℕ) (kind : Line) (bytes : List ℕ) (entry : Entry) (rest : List ℕ) → IsEntry kind entry → EndsBefore rest entry → bytes ≡ entry_text entry ++ rest
    → length bytes < suc n → ((place : Place) → length place.1 < n → Placed n place) → (r : Result (Option Place) RequestField) → EndView kind rest r
    → PlaceView kind bytes (With n (Behind kind (asked entry) r))
entry_view n kind bytes entry rest is ends spelled h again (Ok None) v =
    let P : Result (List Item) RequestField → Type 0 = λ r. PlaceView kind bytes (r >>= λ items. Ok (asked entry ∷ items)) in
    subst P (sym (none_at n)) (record {
      before = [];
      last = entry;
      lines = [];
      are_entries = tt;
      is_last = is;
      are_lines = tt;
      spelled = spelled ∙ ap (λ (l : List ℕ). entry_text entry ++ l) v;
      asked_for = refl;
    })
entry_view n kind bytes entry rest is ends spelled h again (Ok (Some place)) (inl v) =
    let here : bytes ≡ entry_text entry ++ 47 ∷ place.1 = spelled ∙ ap (λ (l : List ℕ). entry_text entry ++ l) v.1 in
    let there : PlaceView place.0 place.1 (items_at n (Some place)) = again place (nearer (entry_text entry) 47 place.1 bytes n here h) in
    let P : Line → Type 0 = λ k. PlaceView k place.1 (items_at n (Some place)) in
    behind_slash kind entry bytes place.1 (items_at n (Some place)) is here (subst P v.0 there)
entry_view n kind bytes entry rest is ends spelled h again (Ok (Some place)) (inr v) =
    let here : bytes ≡ entry_text entry ++ 61 ∷ (line_start place.0 ++ place.1) = spelled ∙ ap (λ (l : List ℕ). entry_text entry ++ l) v in
    let near : length (line_start place.0 ++ place.1) < n = nearer (entry_text entry) 61 (line_start place.0 ++ place.1) bytes n here h in
    behind_equals kind entry bytes place.0 place.1 (items_at n (Some place)) is here (again place (omega (arith, near, length-append (line_start place.0) place.1)))
entry_view n kind bytes entry rest is ends spelled h again (Err field) (inl v) = inr (record {
  before = [];
  last = entry;
  lines = [];
  rest = v.1;
  are_entries = tt;
  is_last = is;
  are_lines = tt;
  spelled = spelled ∙ ap (λ (l : List ℕ). entry_text entry ++ l) v.2;
  goes_on = v.3;
  stops = inl (v.0, v.4);
})
entry_view n kind bytes entry rest is ends spelled h again (Err field) (inr v) = grind (arith, common_steps)

place_view : (n : ℕ) (place : Place) → length place.1 < n → Placed n place
place_view zero place h = absurd (omega arith)
place_view (suc n) place h = go (λ next k. place_view n next k) (item_at place.0 place.1) (item_view place.0 place.1)
  where
    go : ((next : Place) → length next.1 < n → Placed n next) → (r : Result (Item × List ℕ) RequestField) → ItemView place.0 place.1 r
        → PlaceView place.0 place.1 (With n (Step place.0 r))
    go again (Ok read) (entry, is, ends, spelled, same) =
        let P : Item → Type 0 = λ item. PlaceView place.0 place.1 (With n (Behind place.0 item (behind_item place.0 read.1))) in
        subst P (sym same) (entry_view n place.0 place.1 entry read.1 is ends spelled h again (behind_item place.0 read.1) (end_view place.0 read.1))
    go again (Err field) v = inl (record { before = []; rest = place.1; are_entries = tt; spelled = refl; lacks = inl v })

-- ---- the whole text, as it is read

abbrev CapitalsView : List ℕ → Result (List ℕ × List ℕ) MessageField → Type 0
CapitalsView text (Ok read) = IsAsker read.0 × (text ≡ read.0 ++ read.1)
CapitalsView text (Err field) = (asker rest : List ℕ) → IsAsker asker → text ≡ asker ++ rest → ⊥

abbrev found : List ℕ → List ℕ → Result (List ℕ × List ℕ) MessageField
found front back = Ok (front, back)

asker_again : (asker rest : List ℕ) → IsAsker asker → capitals_at 4 Cccc (asker ++ rest) ≡ Ok (asker, rest)
asker_again asker rest is =
    let long : nat_le 4 (length (asker ++ rest)) ≡ true = le-leb 4 (length (asker ++ rest)) (omega (arith, is.0, length-append asker rest)) in
    let front : take 4 (asker ++ rest) ≡ asker = take_at asker rest 4 is.0 in
    let back : drop 4 (asker ++ rest) ≡ rest = drop_at asker rest 4 is.0 in
    let passes : (nat_le 4 (length (asker ++ rest)) && are_capitals (take 4 (asker ++ rest))) ≡ true = rw (long, front) is.1 in
    ap (λ (t : Bool). if t then found (take 4 (asker ++ rest)) (drop 4 (asker ++ rest)) else Err Cccc) passes
    ∙ ap (λ (l : List ℕ). found l (drop 4 (asker ++ rest))) front ∙ ap (found asker) back

capitals_view : (text : List ℕ) → CapitalsView text (capitals_at 4 Cccc text)
capitals_view text = grind (arith, common_steps, asker_again, length-take-le, leb-true, take-append-drop)

abbrev TextView : List ℕ → Result (List Item) RequestField → Type 0
TextView text (Ok items) = IsRequestFor text items
TextView text (Err field) = StopsAt text field

abbrev pub opened : Result Place RequestField → Result (List Item) RequestField
opened r = r >>= λ place. items_at (bytes_from (Some place)) (Some place)

lines_view : (asker rest : List ℕ) (kind : Line) (bytes : List ℕ) (r : Result (List Item) RequestField) → IsAsker asker → rest ≡ line_start kind ++ bytes
    → PlaceView kind bytes r → TextView (asker ++ rest) r
lines_view asker rest kind bytes (Ok items) is spelled v = record {
  asker = asker;
  line = record { kind = kind; before = v.before; last = v.last };
  more = v.lines;
  is_asker = is;
  are_lines = ((v.are_entries, v.is_last), v.are_lines);
  spelled = ap (λ (l : List ℕ). asker ++ l) (spelled ∙ ap (λ (l : List ℕ). line_start kind ++ l) v.spelled ∙ whole kind v.before v.last (lines_text v.lines));
  asked_for = v.asked_for ∙ sym (append_assoc (map asked v.before) (asked v.last ∷ []) (lines_items v.lines));
}
lines_view asker rest kind bytes (Err field) is spelled (inl v) = inr (record {
  asker = asker;
  lines = [];
  rest = rest;
  is_asker = is;
  are_lines = tt;
  spelled = refl;
  goes_on = λ e. refl;
  stops = inr (kind, bytes, spelled, v);
})
lines_view asker rest kind bytes (Err field) is spelled (inr v) = inr (record {
  asker = asker;
  lines = record { kind = kind; before = v.before; last = v.last } ∷ v.lines;
  rest = v.rest;
  is_asker = is;
  are_lines = ((v.are_entries, v.is_last), v.are_lines);
  spelled = ap (λ (l : List ℕ). asker ++ l) (spelled ∙ ap (λ (l : List ℕ). line_start kind ++ l) v.spelled ∙ whole kind v.before v.last (lines_text v.lines ++ v.rest) ∙ sym (append_assoc (line_text (record { kind = kind; before = v.before; last = v.last })) (lines_text v.lines) v.rest));
  goes_on = λ e. absurd (v.goes_on e);
  stops = v.stops;
})

start_leads : (asker rest : List ℕ) (r : Result Place RequestField) → IsAsker asker → StartView rest r → TextView (asker ++ rest) (opened r)
start_leads asker rest (Ok place) is v =
    lines_view asker rest place.0 place.1 (items_at (bytes_from (Some place)) (Some place)) is v (place_view (suc (length place.1)) place (omega arith))
start_leads asker rest (Err field) is v = inr (record {
  asker = asker;
  lines = [];
  rest = rest;
  is_asker = is;
  are_lines = tt;
  spelled = refl;
  goes_on = λ e. refl;
  stops = inl v;
})

text_view : (text : List ℕ) → TextView text (request_at text)
unfolding request_at
text_view text = go (capitals_at 4 Cccc text) (capitals_view text)
  where
    go : (r : Result (List ℕ × List ℕ) MessageField) → CapitalsView text r → TextView text (opened (behind_asker r))
    go (Ok read) v =
        let P : List ℕ → Type 0 = λ bytes. TextView bytes (opened (line_start_at read.1)) in
        subst P (sym v.1) (start_leads read.0 read.1 (line_start_at read.1) v.0 (start_view read.1))
    go (Err field) v = inl (refl, v)

-- ---- and the whole text again

behind_of : (asker rest : List ℕ) → IsAsker asker → request_at (asker ++ rest) ≡ opened (line_start_at rest)
unfolding request_at
behind_of asker rest is = ap (λ (r : Result (List ℕ × List ℕ) MessageField). opened (behind_asker r)) (asker_again asker rest is)

after_opens : (rest : List ℕ) → (rest ≡ [] → ⊥) → after rest ≡ opened (line_start_at rest)
unfolding after items_from
after_opens [] some = absurd (some refl)
after_opens (x ∷ xs) some = grind (arith, common_steps)

text_starts : (line : AskedLine) (more : List ℕ) → line_text line ++ more ≡ [] → ⊥
text_starts line more e = start_is_there line.kind ((slashed line.before ++ entry_text line.last ++ 61 ∷ []) ++ more) (let s : line_start line.kind ++ ((slashed line.before ++ entry_text line.last ++ 61 ∷ []) ++ more) ≡ line_text line ++ more = simp append_assoc in s ∙ e)

opened_lines : (line : AskedLine) (more : List AskedLine) (rest : List ℕ) → AllByRecursion IsLine (line ∷ more)
    → opened (line_start_at (lines_text (line ∷ more) ++ rest)) ≡ Prepend (lines_items (line ∷ more)) (after rest)
opened_lines line more rest all =
    let text : List ℕ = lines_text (line ∷ more) ++ rest in
    let some : text ≡ [] → ⊥ = λ e. text_starts line (lines_text more ++ rest) (sym (append_assoc (line_text line) (lines_text more) rest) ∙ e) in
    sym (after_opens text some) ∙ lines_again (line ∷ more) rest all

pub items_again : (text : List ℕ) (items : List Item) → IsRequestFor text items → request_at text ≡ Ok items
unfolding after items_from
items_again text items is =
    let lines : List AskedLine = is.line ∷ is.more in
    ap request_at is.spelled ∙ behind_of is.asker (lines_text lines) is.is_asker
    ∙ ap (λ (l : List ℕ). opened (line_start_at l)) (sym (append-nil (lines_text lines)))
    ∙ opened_lines is.line is.more [] is.are_lines
    ∙ ap (λ (l : List Item). let r : Result (List Item) RequestField = Ok l in r) (append-nil (lines_items lines) ∙ sym is.asked_for)

-- no entry, or no end behind it
lacks_again : (kind : Line) (bytes : List ℕ) (field : RequestField) → LacksEntry kind bytes field ⊎ ((field ≡ LineEnd) × LacksEnd kind bytes) → items_from (Some (kind, bytes)) ≡ Err field
lacks_again kind bytes field (inl lacks) = fault_at (kind, bytes) field (ap (Step kind) (item_lacks kind bytes field lacks))
lacks_again kind bytes field (inr lacks) =
    let end = lacks.1 in
    let none : behind_item kind end.rest ≡ Err LineEnd = rw (end.no_slash, end.no_equals) refl in
    let step : step_at (kind, entry_text end.entry ++ end.rest) ≡ Err LineEnd = step_of kind end.entry end.rest end.is_entry end.ends ∙ ap (Behind kind (asked end.entry)) none in
    ap (λ (l : List ℕ). items_from (Some (kind, l))) end.spelled ∙ fault_at (kind, entry_text end.entry ++ end.rest) LineEnd step
    ∙ ap (λ (f : RequestField). let r : Result (List Item) RequestField = Err f in r) (sym lacks.0)

line_stops : (kind : Line) (bytes : List ℕ) (field : RequestField) → StopsInLine kind bytes field → items_from (Some (kind, bytes)) ≡ Err field
line_stops kind bytes field s =
    ap (λ (l : List ℕ). items_from (Some (kind, l))) s.spelled ∙ slash_again kind s.before s.rest s.are_entries
    ∙ ap (Prepend (map asked s.before)) (lacks_again kind s.rest field s.lacks)

start_stops : (rest : List ℕ) (field : RequestField) → StopsAtLine rest field → opened (line_start_at rest) ≡ Err field
unfolding items_from
start_stops rest field (inl s) = ap opened (start_lacks rest s.1) ∙ ap (λ (f : RequestField). let r : Result (List Item) RequestField = Err f in r) (sym s.0)
start_stops rest field (inr (kind, bytes, spelled, s)) =
    ap (λ (l : List ℕ). opened (line_start_at l)) spelled ∙ ap opened (start_again kind bytes) ∙ line_stops kind bytes field s

stops_again : (asker : List ℕ) (lines : List AskedLine) (rest : List ℕ) (field : RequestField) → IsAsker asker → AllByRecursion IsLine lines → (rest ≡ [] → lines ≡ []) → StopsAtLine rest field
    → request_at (asker ++ (lines_text lines ++ rest)) ≡ Err field
stops_again asker [] rest field is all goes s = behind_of asker rest is ∙ start_stops rest field s
stops_again asker (line ∷ more) rest field is all goes s =
    let some : rest ≡ [] → ⊥ = λ e. absurd (let no : line ∷ more ≡ [] = goes e in cc) in
    behind_of asker (lines_text (line ∷ more) ++ rest) is ∙ opened_lines line more rest all
    ∙ ap (Prepend (lines_items (line ∷ more))) (after_opens rest some ∙ start_stops rest field s)

pub fault_again : (text : List ℕ) (field : RequestField) → StopsAt text field → request_at text ≡ Err field
fault_again text field (inl (same, none)) = go (capitals_at 4 Cccc text) refl (capitals_view text)
  where
    go : (r : Result (List ℕ × List ℕ) MessageField) → capitals_at 4 Cccc text ≡ r → CapitalsView text r → request_at text ≡ Err field
    go (Ok read) is v = absurd (none read.0 read.1 v.0 v.1)
    go (Err f) is v = fault_of_first text Asker (ap behind_asker is) ∙ ap (λ (e : RequestField). let r : Result (List Item) RequestField = Err e in r) (sym same)
fault_again text field (inr s) = ap request_at s.spelled ∙ stops_again s.asker s.lines s.rest field s.is_asker s.are_lines s.goes_on s.stops

-- ---- both ways

pub items_both : (text : List ℕ) (items : List Item) → (request_at text ≡ Ok items) ↔ IsRequestFor text items
items_both text items = (λ e. let P : Result (List Item) RequestField → Type 0 = λ r. TextView text r in subst P e (text_view text), items_again text items)

pub fault_both : (text : List ℕ) (field : RequestField) → (request_at text ≡ Err field) ↔ StopsAt text field
fault_both text field = (λ e. let P : Result (List Item) RequestField → Type 0 = λ r. TextView text r in subst P e (text_view text), fault_again text field)
