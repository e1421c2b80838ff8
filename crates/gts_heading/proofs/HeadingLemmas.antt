-- Headings as a whole: what was read is spelled so, and what is spelled so is read.
use Rattle.gts_heading.proofs.Cited.{◌≡◌, ℕ, suc, ◌-◌, ◌<◌, ◌≤◌, List, [], ◌∷◌, ◌++◌, length, take, drop, Option, None, Result, Ok, Err, IsTrue, refl, sym, ap, subst, ◌∙◌, append_assoc, arith, IfOk, IsOkAnd, append-nil, drop_at, take-append-drop, append_cancel_right, length-append, length-drop, Aa, Cccc, Day, EOL, Heading, HeadingEnd, HeadingFields, Hour, Ii, IsGap, IsHeading, IsHeadingLine, MessageField, Minute, NoBlank, Reads, Tt, after_gap, after_word, bare_group_at, bare_heading_at, capitals_at, dec, fields_of, group_text, heading_at, heading_text, is_group, message_group_at, plain_heading_at, two_digits_at, with_group, ◌>>=◌, common_steps}
use Rattle.gts_heading.proofs.FieldLemmas.{bind_ok, step_ok, and_part, ok_is, word_takes, capitals_take, capitals_again, digits_take, digits_again, bare_group_takes, bare_group_again, message_group_takes, message_group_again, gap_takes, gap_again}

-- ---- a heading without its group

-- the bytes of a heading but for its group
abbrev plain_text : HeadingFields → List ℕ
plain_text h = h.tt ++ h.aa ++ dec 2 h.ii ++ 32 ∷ [] ++ h.cccc ++ 32 ∷ [] ++ dec 2 h.day ++ dec 2 h.hour ++ dec 2 h.minute

abbrev plain_of : List ℕ → List ℕ → ℕ → List ℕ → ℕ → ℕ → ℕ → HeadingFields
plain_of tt aa ii cccc day hour minute =
    record { tt = tt; aa = aa; ii = ii; cccc = cccc; day = day; hour = hour; minute = minute; bbb = None }

abbrev Read : Type 0
Read = Result (HeadingFields × List ℕ) MessageField

-- the reading from each field on
abbrev from_minute : List ℕ → List ℕ → ℕ → List ℕ → ℕ → ℕ → List ℕ → Read
from_minute tt aa ii cccc day hour bytes = two_digits_at 0 59 Minute bytes >>= λ minute. Ok (plain_of tt aa ii cccc day hour minute.0, minute.1)

abbrev from_hour : List ℕ → List ℕ → ℕ → List ℕ → ℕ → List ℕ → Read
from_hour tt aa ii cccc day bytes = two_digits_at 0 23 Hour bytes >>= λ hour. from_minute tt aa ii cccc day hour.0 hour.1

abbrev from_day : List ℕ → List ℕ → ℕ → List ℕ → List ℕ → Read
from_day tt aa ii cccc bytes = two_digits_at 1 31 Day bytes >>= λ day. from_hour tt aa ii cccc day.0 day.1

abbrev before_day : List ℕ → List ℕ → ℕ → List ℕ → List ℕ → Read
before_day tt aa ii cccc bytes = after_word (32 ∷ []) Day bytes >>= λ rest. from_day tt aa ii cccc rest

abbrev from_cccc : List ℕ → List ℕ → ℕ → List ℕ → Read
from_cccc tt aa ii bytes = capitals_at 4 Cccc bytes >>= λ cccc. before_day tt aa ii cccc.0 cccc.1

abbrev before_cccc : List ℕ → List ℕ → ℕ → List ℕ → Read
before_cccc tt aa ii bytes = after_word (32 ∷ []) Cccc bytes >>= λ rest. from_cccc tt aa ii rest

abbrev from_ii : List ℕ → List ℕ → List ℕ → Read
from_ii tt aa bytes = two_digits_at 0 99 Ii bytes >>= λ ii. before_cccc tt aa ii.0 ii.1

abbrev from_aa : List ℕ → List ℕ → Read
from_aa tt bytes = capitals_at 2 Aa bytes >>= λ aa. from_ii tt aa.0 aa.1

at_most_below : (n m : ℕ) → n ≤ m → n < suc m
at_most_below n m h = omega arith

-- nine parts, one behind the other
joined : (bytes a ra b rb c rc d rd e re f rf g rg h rh i ri : List ℕ)
    → bytes ≡ a ++ ra → ra ≡ b ++ rb → rb ≡ c ++ rc → rc ≡ d ++ rd → rd ≡ e ++ re → re ≡ f ++ rf → rf ≡ g ++ rg → rg ≡ h ++ rh → rh ≡ i ++ ri
    → bytes ≡ a ++ b ++ c ++ d ++ e ++ f ++ g ++ h ++ i ++ ri
joined bytes a ra b rb c rc d rd e re f rf g rg h rh i ri is_a is_b is_c is_d is_e is_f is_g is_h is_i =
    let to_b = and_part bytes a ra b rb is_a is_b in
    let to_c = and_part bytes (a ++ b) rb c rc to_b is_c in
    let to_d = and_part bytes (a ++ b ++ c) rc d rd to_c is_d in
    let to_e = and_part bytes (a ++ b ++ c ++ d) rd e re to_d is_e in
    let to_f = and_part bytes (a ++ b ++ c ++ d ++ e) re f rf to_e is_f in
    let to_g = and_part bytes (a ++ b ++ c ++ d ++ e ++ f) rf g rg to_f is_g in
    let to_h = and_part bytes (a ++ b ++ c ++ d ++ e ++ f ++ g) rg h rh to_g is_h in
    and_part bytes (a ++ b ++ c ++ d ++ e ++ f ++ g ++ h) rh i ri to_h is_i

-- what was taken from the front: a heading without a group, and these bytes of it
record IsPlainAt (bytes : List ℕ) (h : HeadingFields) (rest : List ℕ) : Type 0 where
  pub heading : (group : Option (List ℕ)) → IsTrue (is_group group) → IsHeading (with_group h group)
  pub spelled : bytes ≡ plain_text h ++ rest

plain_takes : (bytes : List ℕ) (x : HeadingFields × List ℕ) → plain_heading_at bytes ≡ Ok x → IsPlainAt bytes x.0 x.1
unfolding plain_heading_at
plain_takes bytes x e =
    step_ok (capitals_at 2 Tt bytes) (λ tt. from_aa tt.0 tt.1) x (IsPlainAt bytes x.0 x.1) e (λ tt tt_read e1.
    step_ok (capitals_at 2 Aa tt.1) (λ aa. from_ii tt.0 aa.0 aa.1) x (IsPlainAt bytes x.0 x.1) e1 (λ aa aa_read e2.
    step_ok (two_digits_at 0 99 Ii aa.1) (λ ii. before_cccc tt.0 aa.0 ii.0 ii.1) x (IsPlainAt bytes x.0 x.1) e2 (λ ii ii_read e3.
    step_ok (after_word (32 ∷ []) Cccc ii.1) (λ rest. from_cccc tt.0 aa.0 ii.0 rest) x (IsPlainAt bytes x.0 x.1) e3 (λ at_cccc blank_read e4.
    step_ok (capitals_at 4 Cccc at_cccc) (λ cccc. before_day tt.0 aa.0 ii.0 cccc.0 cccc.1) x (IsPlainAt bytes x.0 x.1) e4 (λ cccc cccc_read e5.
    step_ok (after_word (32 ∷ []) Day cccc.1) (λ rest. from_day tt.0 aa.0 ii.0 cccc.0 rest) x (IsPlainAt bytes x.0 x.1) e5 (λ at_day gap_read e6.
    step_ok (two_digits_at 1 31 Day at_day) (λ day. from_hour tt.0 aa.0 ii.0 cccc.0 day.0 day.1) x (IsPlainAt bytes x.0 x.1) e6 (λ day day_read e7.
    step_ok (two_digits_at 0 23 Hour day.1) (λ hour. from_minute tt.0 aa.0 ii.0 cccc.0 day.0 hour.0 hour.1) x (IsPlainAt bytes x.0 x.1) e7 (λ hour hour_read e8.
    step_ok (two_digits_at 0 59 Minute hour.1) (λ minute. Ok (plain_of tt.0 aa.0 ii.0 cccc.0 day.0 hour.0 minute.0, minute.1)) x (IsPlainAt bytes x.0 x.1) e8 (λ minute minute_read e9.
    let made : HeadingFields × List ℕ = (plain_of tt.0 aa.0 ii.0 cccc.0 day.0 hour.0 minute.0, minute.1) in
    let tt_is = capitals_take 2 Tt bytes tt tt_read in
    let aa_is = capitals_take 2 Aa tt.1 aa aa_read in
    let ii_is = digits_take 0 99 Ii aa.1 ii ii_read in
    let blank_is = word_takes (32 ∷ []) Cccc ii.1 at_cccc blank_read in
    let cccc_is = capitals_take 4 Cccc at_cccc cccc cccc_read in
    let gap_is = word_takes (32 ∷ []) Day cccc.1 at_day gap_read in
    let day_is = digits_take 1 31 Day at_day day day_read in
    let hour_is = digits_take 0 23 Hour day.1 hour hour_read in
    let minute_is = digits_take 0 59 Minute hour.1 minute minute_read in
    subst (λ (y : HeadingFields × List ℕ). IsPlainAt bytes y.0 y.1) {x = made} (ok_is made x e9) (record {
      heading = λ group is. record {
        tt = (tt_is.1, tt_is.2);
        aa = (aa_is.1, aa_is.2);
        ii = at_most_below ii.0 99 ii_is.2;
        cccc = (cccc_is.1, cccc_is.2);
        day = (day_is.1, day_is.2);
        hour = at_most_below hour.0 23 hour_is.2;
        minute = at_most_below minute.0 59 minute_is.2;
        bbb = is;
      };
      spelled = joined bytes tt.0 tt.1 aa.0 aa.1 (dec 2 ii.0) ii.1 (32 ∷ []) at_cccc cccc.0 cccc.1 (32 ∷ []) at_day
          (dec 2 day.0) day.1 (dec 2 hour.0) hour.1 (dec 2 minute.0) minute.1
          tt_is.0 aa_is.0 ii_is.0 blank_is cccc_is.0 gap_is day_is.0 hour_is.0 minute_is.0;
    }))))))))))

plain_again : (h : HeadingFields) (rest : List ℕ) → IsHeading h → plain_heading_at (plain_text h ++ rest) ≡ Ok (with_group h None, rest)
unfolding plain_heading_at
plain_again h rest is =
    let regrouped : plain_text h ++ rest
    ≡ h.tt ++ (h.aa ++ (dec 2 h.ii ++ (32 ∷ [] ++ (h.cccc ++ (32 ∷ [] ++ (dec 2 h.day ++ (dec 2 h.hour ++ (dec 2 h.minute ++ rest)))))))) = simp append_assoc in
    let minute = digits_again 0 59 Minute h.minute rest (omega arith) (omega (arith, is.minute)) (omega (arith, is.minute)) in
    let hour = digits_again 0 23 Hour h.hour (dec 2 h.minute ++ rest) (omega arith) (omega (arith, is.hour)) (omega (arith, is.hour)) in
    let day = digits_again 1 31 Day h.day (dec 2 h.hour ++ (dec 2 h.minute ++ rest)) is.day.0 is.day.1 (omega (arith, is.day.1)) in
    let after_cccc = 32 ∷ [] ++ (dec 2 h.day ++ (dec 2 h.hour ++ (dec 2 h.minute ++ rest))) in
    let cccc = capitals_again 4 Cccc h.cccc after_cccc is.cccc.0 is.cccc.1 in
    let after_ii = 32 ∷ [] ++ (h.cccc ++ after_cccc) in
    let ii = digits_again 0 99 Ii h.ii after_ii (omega arith) (omega (arith, is.ii)) is.ii in
    let aa = capitals_again 2 Aa h.aa (dec 2 h.ii ++ after_ii) is.aa.0 is.aa.1 in
    let tt = capitals_again 2 Tt h.tt (h.aa ++ (dec 2 h.ii ++ after_ii)) is.tt.0 is.tt.1 in
    ap plain_heading_at regrouped ∙ rw (tt, aa, ii, cccc, day, hour, minute) refl

-- ---- a heading alone

-- what was taken from the front
pub record Takes (bytes : List ℕ) (h : HeadingFields) (rest : List ℕ) : Type 0 where
  pub heading : IsHeading h
  pub spelled : bytes ≡ heading_text h ++ rest

pub bare_takes : (bytes : List ℕ) (x : HeadingFields × List ℕ) → bare_heading_at bytes ≡ Ok x → Takes bytes x.0 x.1
unfolding bare_heading_at heading_text
bare_takes bytes x e =
    let plain_step = bind_ok (plain_heading_at bytes) (λ plain. bare_group_at plain.1 >>= λ group. Ok (with_group plain.0 group.0, group.1)) x e in
    let plain = plain_step.0 in
    let group_step = bind_ok (bare_group_at plain.1) (λ group. Ok (with_group plain.0 group.0, group.1)) x plain_step.2 in
    let group = group_step.0 in
    let plain_is = plain_takes bytes plain plain_step.1 in
    let group_is = bare_group_takes plain.1 group group_step.1 in
    let made : HeadingFields × List ℕ = (with_group plain.0 group.0, group.1) in
    let spelled : bytes ≡ (plain_text plain.0 ++ group_text group.0) ++ group.1 =
    plain_is.spelled ∙ ap (λ (r : List ℕ). plain_text plain.0 ++ r) group_is.0 ∙ sym (append_assoc (plain_text plain.0) (group_text group.0) group.1) in
    subst (λ (y : HeadingFields × List ℕ). Takes bytes y.0 y.1) (ok_is made x group_step.2)
    (record { heading = plain_is.heading group.0 group_is.1; spelled = spelled })

pub bare_again : (h : HeadingFields) (rest : List ℕ) → IsHeading h → NoBlank rest → bare_heading_at (heading_text h ++ rest) ≡ Ok (h, rest)
unfolding bare_heading_at heading_text
bare_again h rest is none =
    ap bare_heading_at (append_assoc (plain_text h) (group_text h.bbb) rest)
    ∙ rw (plain_again h (group_text h.bbb ++ rest) is, bare_group_again h.bbb rest is.bbb none) refl

-- ---- a heading and the end of its line

-- what was taken from the front
pub record TakesLine (bytes : List ℕ) (h : HeadingFields) (rest : List ℕ) : Type 0 where
  pub heading : IsHeading h
  pub spelled : (gap : List ℕ) × IsGap gap × (bytes ≡ heading_text h ++ gap ++ EOL ++ rest)

line_parts : (bytes a ra b rb gap rc rest : List ℕ) → bytes ≡ a ++ ra → ra ≡ b ++ rb → rb ≡ gap ++ rc → rc ≡ EOL ++ rest → bytes ≡ a ++ b ++ gap ++ EOL ++ rest
line_parts bytes a ra b rb gap rc rest is_a is_b is_gap is_end = grind (arith, common_steps, and_part)

pub line_takes : (bytes : List ℕ) (x : HeadingFields × List ℕ) → heading_at bytes ≡ Ok x → TakesLine bytes x.0 x.1
unfolding heading_at heading_text
line_takes bytes x e =
    let plain_step = bind_ok (plain_heading_at bytes) (λ plain. message_group_at plain.1 >>= λ group. after_word EOL HeadingEnd (after_gap group.1) >>= λ rest. Ok (with_group plain.0 group.0, rest)) x e in
    let plain = plain_step.0 in
    let group_step = bind_ok (message_group_at plain.1) (λ group. after_word EOL HeadingEnd (after_gap group.1) >>= λ rest. Ok (with_group plain.0 group.0, rest)) x plain_step.2 in
    let group = group_step.0 in
    let end_step = bind_ok (after_word EOL HeadingEnd (after_gap group.1)) (λ rest. Ok (with_group plain.0 group.0, rest)) x group_step.2 in
    let rest = end_step.0 in
    let plain_is = plain_takes bytes plain plain_step.1 in
    let group_is = message_group_takes plain.1 group group_step.1 in
    let gap_is = gap_takes group.1 in
    let gap = gap_is.0 in
    let end_is : after_gap group.1 ≡ EOL ++ rest = word_takes EOL HeadingEnd (after_gap group.1) rest end_step.1 in
    let made : HeadingFields × List ℕ = (with_group plain.0 group.0, rest) in
    let spelled = line_parts bytes (plain_text plain.0) plain.1 (group_text group.0) group.1 gap (after_gap group.1) rest plain_is.spelled group_is.0 gap_is.2 end_is in
    subst (λ (y : HeadingFields × List ℕ). TakesLine bytes y.0 y.1) {x = made} (ok_is made x end_step.2)
    (record { heading = plain_is.heading group.0 group_is.1; spelled = (gap, gap_is.1, spelled) })

pub line_again : (h : HeadingFields) (gap rest : List ℕ) → IsHeading h → IsGap gap → heading_at (heading_text h ++ gap ++ EOL ++ rest) ≡ Ok (h, rest)
unfolding heading_at heading_text
line_again h gap rest is is_gap =
    let regrouped : plain_text h ++ group_text h.bbb ++ gap ++ EOL ++ rest ≡ plain_text h ++ (group_text h.bbb ++ (gap ++ (EOL ++ rest))) =
    append_assoc (plain_text h ++ group_text h.bbb ++ gap) EOL rest
    ∙ append_assoc (plain_text h ++ group_text h.bbb) gap (EOL ++ rest)
    ∙ append_assoc (plain_text h) (group_text h.bbb) (gap ++ (EOL ++ rest)) in
    ap heading_at regrouped
    ∙ rw (plain_again h (group_text h.bbb ++ (gap ++ (EOL ++ rest))) is, message_group_again h.bbb gap rest is.bbb is_gap, gap_again gap rest is_gap) refl

-- ---- the length of what was read

pub rest_fits : (bytes text rest : List ℕ) → bytes ≡ text ++ rest → length rest ≤ length bytes
rest_fits bytes text rest e = omega (arith, ap length e, length-append text rest)

-- dropping all but the rest leaves the rest
pub drop_to_rest : (bytes text rest : List ℕ) → bytes ≡ text ++ rest → drop (length bytes - length rest) bytes ≡ rest
drop_to_rest bytes text rest e = grind (arith, common_steps, length-append, drop_at)

-- so much is left behind a heading
pub bare_rest : (bytes : List ℕ) (h : HeadingFields) (rest : List ℕ) → bare_heading_at bytes ≡ Ok (h, rest)
    → (length rest ≤ length bytes) × (bare_heading_at bytes ≡ Ok (h, drop (length bytes - length rest) bytes))
bare_rest bytes h rest e =
    let spelled = (bare_takes bytes (h, rest) e).spelled in
    (rest_fits bytes (heading_text h) rest spelled, e ∙ ap (λ (r : List ℕ). Ok (h, r)) (sym (drop_to_rest bytes (heading_text h) rest spelled)))

-- so much is left behind its line
pub line_rest : (bytes : List ℕ) (h : HeadingFields) (rest : List ℕ) → heading_at bytes ≡ Ok (h, rest)
    → (length rest ≤ length bytes) × (heading_at bytes ≡ Ok (h, drop (length bytes - length rest) bytes))
line_rest bytes h rest e =
    let spelled = (line_takes bytes (h, rest) e).spelled in
    let text = heading_text h ++ spelled.0 ++ EOL in
    (rest_fits bytes text rest spelled.2, e ∙ ap (λ (r : List ℕ). Ok (h, r)) (sym (drop_to_rest bytes text rest spelled.2)))

-- what stands before the rest
pub front_is : (bytes text : List ℕ) (n : ℕ) → bytes ≡ text ++ drop n bytes → take n bytes ≡ text
front_is bytes text n e = append_cancel_right (take n bytes) text (drop n bytes) (take-append-drop n bytes ∙ e)

-- as many bytes as the front has
pub front_length : (bytes text rest : List ℕ) (n : ℕ) → n ≤ length bytes → bytes ≡ text ++ rest → drop n bytes ≡ rest → n ≡ length text
front_length bytes text rest n fits e dropped = omega (arith, ap length e, length-append text rest, ap length dropped, length-drop n bytes)

-- ---- what the calls answer

-- the heading that was read, and the bytes behind it
abbrev read_from : List ℕ → Heading × ℕ → HeadingFields × List ℕ
read_from bytes found = (fields_of found.0, drop found.1 bytes)

pub bare_heading : (bytes : List ℕ) (r : Result (Heading × ℕ) MessageField) → Reads (read_from bytes) r (bare_heading_at bytes)
    → IfOk r (λ found. IsHeading (fields_of found.0))
bare_heading bytes (Ok found) e = (bare_takes bytes (read_from bytes found) e).heading
bare_heading bytes (Err field) e = tt

pub bare_spelled : (bytes : List ℕ) (r : Result (Heading × ℕ) MessageField) → Reads (read_from bytes) r (bare_heading_at bytes)
    → IfOk r (λ found. take found.1 bytes ≡ heading_text (fields_of found.0))
bare_spelled bytes (Ok found) e =
    front_is bytes (heading_text (fields_of found.0)) found.1 (bare_takes bytes (read_from bytes found) e).spelled
bare_spelled bytes (Err field) e = tt

pub bare_only : (bytes : List ℕ) (r : Result (Heading × ℕ) MessageField)
    → IfOk r (λ found. found.1 ≤ length bytes) → Reads (read_from bytes) r (bare_heading_at bytes)
    → (h : HeadingFields) (rest : List ℕ) → IsHeading h → NoBlank rest → bytes ≡ heading_text h ++ rest
    → IsOkAnd r (λ found. (fields_of found.0 ≡ h) × (found.1 ≡ length (heading_text h)))
bare_only bytes (Ok found) fits e h rest is none spelled = grind (arith, common_steps, ok_is, bare_again, front_length)
bare_only bytes (Err field) fits e h rest is none spelled = grind (arith, common_steps, bare_again)

pub line_heading : (bytes : List ℕ) (r : Result (Heading × ℕ) MessageField) → Reads (read_from bytes) r (heading_at bytes)
    → IfOk r (λ found. IsHeading (fields_of found.0))
line_heading bytes (Ok found) e = (line_takes bytes (read_from bytes found) e).heading
line_heading bytes (Err field) e = tt

pub line_spelled : (bytes : List ℕ) (r : Result (Heading × ℕ) MessageField) → Reads (read_from bytes) r (heading_at bytes)
    → IfOk r (λ found. IsHeadingLine (take found.1 bytes) (fields_of found.0))
line_spelled bytes (Ok found) e =
    let taken = line_takes bytes (read_from bytes found) e in
    let gap = taken.spelled.0 in
    (gap, taken.spelled.1, front_is bytes (heading_text (fields_of found.0) ++ gap ++ EOL) found.1 taken.spelled.2)
line_spelled bytes (Err field) e = tt

pub line_only : (bytes : List ℕ) (r : Result (Heading × ℕ) MessageField)
    → IfOk r (λ found. found.1 ≤ length bytes) → Reads (read_from bytes) r (heading_at bytes)
    → (h : HeadingFields) (line rest : List ℕ) → IsHeading h → IsHeadingLine line h → bytes ≡ line ++ rest
    → IsOkAnd r (λ found. (fields_of found.0 ≡ h) × (found.1 ≡ length line))
line_only bytes (Ok found) fits e h line rest is is_line spelled = grind (arith, common_steps, line_again, ok_is, front_length)
line_only bytes (Err field) fits e h line rest is is_line spelled = grind (arith, common_steps, line_again)

-- ---- headings and their texts

read_alone : (h : HeadingFields) → IsHeading h → bare_heading_at (heading_text h) ≡ Ok (h, [])
read_alone h is = ap bare_heading_at (sym (append-nil (heading_text h))) ∙ bare_again h [] is refl

pub same_heading : (g h : HeadingFields) → IsHeading g → IsHeading h → heading_text g ≡ heading_text h → g ≡ h
same_heading g h is_g is_h e =
    let nothing : List ℕ = [] in
    let same = ok_is (g, nothing) (h, nothing) (sym (read_alone g is_g) ∙ ap bare_heading_at e ∙ read_alone h is_h) in
    ap (λ (x : HeadingFields × List ℕ). x.0) same
