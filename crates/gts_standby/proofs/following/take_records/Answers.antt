use Rattle.gts_standby.proofs.Cited.{rules, ◌≡◌, ℕ, true, false, ◌≤◌, ◌<◌, ◌-◌, length, sym, subst, ◌∙◌, arith, Rose, is_other}
use Rattle.gts_standby.proofs.AddLemmas.{gate_so}
use Rattle.gts_standby.proofs.TakeLemmas.{opened_kept, holds_kept, first_there, first_taken, ends_compared, goes_compared, other_compared}
use Rattle.gts_standby.proofs.WholeLemmas.{whole_read}
use Rattle.gts_standby.proofs.OtherLemmas.{other_end}
use Rattle.gts_standby.proofs.following.take_records.Goals as goal

pub returns-then-end-clause-taken : goal.returns-then-end-clause-taken
returns-then-end-clause-taken g c = λ observed told s fed h read.
    let d = c.args.directory.now in
    let j = c.args.standby.journal in
    let f = h.stands observed in
    let gate = gate_so c.used-end.result j c.used-end.ensures h.ended in
    let here : c.used-end.result - 1 ≤ 40 = search rules in
    let low : j.gate ≤ 40 = omega (arith, gate, here) in
    first_taken c.take_first.result d s _ _ j fed _ f low (c.take_first.ensures.taken observed told s fed h (first_there d s _ j f low) read)

pub add_all-requires-clause-opened : goal.add_all-requires-clause-opened
add_all-requires-clause-opened g c = opened_kept _ c.args.directory.now _ _ c.args.standby.core c.args.standby.journal (λ tell. c.compare.ensures.told tell) c.requires

pub returns-in-Ok-clause-taken : goal.returns-in-Ok-clause-taken
returns-in-Ok-clause-taken g c = λ observed told s fed h read.
    let d = c.args.directory.now in
    let j = c.args.standby.journal in
    let f = h.stands observed in
    let gate = gate_so c.used-end.result j c.used-end.ensures h.ended in
    let here : 40 < c.used-end.result - 1 = search rules in
    let low : 40 < j.gate = omega (arith, gate, here) in
    let compared = c.in-Ok.ensures.compared observed told s j fed f (sym gate) read in
    let holds = holds_kept _ d s _ _ c.args.standby.core j (λ tell. c.compare.ensures.told tell) h in
    goes_compared d s _ _ j fed f (c.compare.ensures.told observed) low c.add_all.result _ c.in-Ok.at compared.0 _ compared.1 c.add_all.ensures.kind
    (c.add_all.ensures.added observed told s compared.0 (length compared.0) holds compared.2 (omega arith))

pub returns-then-not-is_other-clause-taken : goal.returns-then-not-is_other-clause-taken
returns-then-not-is_other-clause-taken g c = λ observed told s fed h read.
    let d = c.args.directory.now in
    let j = c.args.standby.journal in
    let f = h.stands observed in
    let gate = gate_so c.used-end.result j c.used-end.ensures h.ended in
    let here : 40 < c.used-end.result - 1 = search rules in
    let low : 40 < j.gate = omega (arith, gate, here) in
    let same : is_other c.in-Err.end ≡ false = search rules in
    ends_compared d s _ _ j fed f (c.compare.ensures.told observed) low c.in-Err.end _ same (c.in-Err.ensures.compared observed told s j fed f (sym gate) read)

pub take_other-requires-clause-opened : goal.take_other-requires-clause-opened
take_other-requires-clause-opened g c = opened_kept _ c.args.directory.now _ _ c.args.standby.core c.args.standby.journal (λ tell. c.compare.ensures.told tell) c.requires

pub returns-else-not-is_other-clause-taken : goal.returns-else-not-is_other-clause-taken
returns-else-not-is_other-clause-taken g c = λ observed told s fed h read.
    let d = c.args.directory.now in
    let j = c.args.standby.journal in
    let f = h.stands observed in
    let gate = gate_so c.used-end.result j c.used-end.ensures h.ended in
    let here : 40 < c.used-end.result - 1 = search rules in
    let low : 40 < j.gate = omega (arith, gate, here) in
    let other : is_other c.in-Err.end ≡ true = search rules in
    let holds = holds_kept _ d s _ _ c.args.standby.core j (λ tell. c.compare.ensures.told tell) h in
    other_compared d s _ _ j fed f (c.compare.ensures.told observed) low c.in-Err.end c.take_other.result _ _ _ other (c.in-Err.ensures.compared observed told s j fed f (sym gate) read)
    (λ end is. c.take_other.ensures.taken observed told s fed end holds (c.in-Err.ensures.kept told fed read other) is)

pub returns-then-end-clause-whole : goal.returns-then-end-clause-whole
returns-then-end-clause-whole g c = λ told w. c.take_first.ensures.whole told w

pub returns-in-Ok-clause-whole : goal.returns-in-Ok-clause-whole
returns-in-Ok-clause-whole g c = λ told w. c.add_all.ensures.whole told (c.in-Ok.ensures.whole told w)

pub returns-then-not-is_other-clause-whole : goal.returns-then-not-is_other-clause-whole
returns-then-not-is_other-clause-whole g c = λ told w. c.in-Err.ensures.whole told w

pub returns-else-not-is_other-clause-whole : goal.returns-else-not-is_other-clause-whole
returns-else-not-is_other-clause-whole g c = λ told w.
    let other : is_other c.in-Err.end ≡ true = search rules in
    c.take_other.ensures.whole told (c.in-Err.ensures.kept told _ (whole_read c.args.ahead.now _ w) other).all

pub returns-else-not-is_other-clause-counts : goal.returns-else-not-is_other-clause-counts
returns-else-not-is_other-clause-counts g c =
    let other : is_other c.in-Err.end ≡ true = search rules in
    let before = c.in-Err.ensures.cause in
    let same = before.sound (other_end c.in-Err.end other) in
    let took = c.take_other.ensures.counts in
    record {
      disk_fault = λ is. subst (λ (k : ℕ). Rose k (g.P.Station.disk_faults c.take_other.new.station)) same.0 (took.disk_fault is);
      source_fault = λ is. subst (λ (k : ℕ). Rose k (g.S.Source.faults c.take_other.new.source)) same.1 (took.source_fault is);
      later = omega (arith, before.later, took.later);
      sound = λ is. ((took.sound is).0 ∙ same.0, (took.sound is).1 ∙ same.1);
      say = took.say ∙ before.say;
      source_later = omega (arith, before.source_later, took.source_later);
    }
