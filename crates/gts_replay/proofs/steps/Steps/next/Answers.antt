use Rattle.gts_replay.proofs.Cited.{◌≡◌, ℕ, ◌+◌, ◌-◌, ◌≤◌, ◌++◌, [], List, length, ap, subst, ◌∙◌, arith, Held, IsStop, LONGEST_CAPTURE, readable_from}
use Rattle.gts_replay.proofs.HeldLemmas.{part_is_short, stop_is_bad, end_is_bad, bad_since, same_readable}
use Rattle.gts_replay.proofs.steps.Steps.next.Goals as goal

pub returns-in-Err-Bad-clause-bad : goal.returns-in-Err-Bad-clause-bad
returns-in-Err-Bad-clause-bad g c = λ observed at e.
    let old = c.args.self.now in
    let held = c.loop-head.self in
    let unchanged = c.in-Err-Bad.ensures.unchanged in
    let behind : ℕ = c.in-Err-Bad.left in
    let is = c.bad.ensures in
    let place : at ≡ c.held_head.new.self.at + (length c.held_head.new.self.ahead - behind) = cc in
    let there : at ≡ held.at + (length held.ahead - behind) = place ∙ ap (λ (h : Held). h.at + (length h.ahead - behind)) unchanged in
    let stop = subst (IsStop held.circuits held.kind held.ahead) c.in-Err-Bad.field-0-is c.in-Err-Bad.ensures.stop in
    let W : Held → Type 0 = λ h. h.at + length h.ahead ≤ LONGEST_CAPTURE in
    let within : held.at + length held.ahead ≤ LONGEST_CAPTURE = subst W unchanged c.in-Err-Bad.ensures.within in
    let left : List ℕ = readable_from (held.at + length held.ahead) (g.S.Source.left c.loop-head.source) in
    bad_since old held (readable_from old.at (old.ahead ++ g.S.Source.left c.args.source.now)) (held.ahead ++ left) at
    c.loop-head.invariant.others
    (same_readable old held (g.S.Source.left c.args.source.now) (g.S.Source.left c.loop-head.source) within c.loop-head.invariant.others (c.loop-head.invariant.told observed))
    (stop_is_bad held left behind at stop there)

pub returns-then-branch-eq0-clause-bad : goal.returns-then-branch-eq0-clause-bad
returns-then-branch-eq0-clause-bad g c = λ observed at e.
    let old = c.args.self.now in
    let held = c.loop-head.self in
    let mid = c.held_head.new.self in
    let now = c.fill.new.self in
    let unchanged : mid ≡ held = c.in-Err-More.ensures.unchanged in
    let before : List ℕ = g.S.Source.left c.loop-head.source in
    let W : Held → Type 0 = λ h. h.at + length h.ahead ≤ LONGEST_CAPTURE in
    let within : held.at + length held.ahead ≤ LONGEST_CAPTURE = subst W unchanged c.in-Err-More.ensures.within in
    let N : Held → Type 0 = λ h. readable_from (h.at + length h.ahead) before ≡ [] in
    let nothing : readable_from (held.at + length held.ahead) before ≡ [] = subst N unchanged (c.in_ok-fill.ensures.end observed c.if-branch-eq0.true) in
    let is = c.bad-then-branch-eq0.ensures in
    let place : at ≡ now.at + (length now.ahead - 0) = cc in
    let at_now : now.at ≡ mid.at = ap (λ (h : Held). h.at) c.fill.ensures.others in
    let at_mid : mid.at ≡ held.at = ap (λ (h : Held). h.at) unchanged in
    let size : length mid.ahead ≡ length held.ahead = ap (λ (h : Held). length h.ahead) unchanged in
    let there : at ≡ held.at + (length held.ahead - 0) = omega (arith, place, at_now, at_mid, size, c.in_ok-fill.ensures.count, c.if-branch-eq0.true) in
    let part = subst (IsStop held.circuits held.kind held.ahead) c.in-Err-More.field-0-is c.in-Err-More.ensures.stop in
    let left : List ℕ = readable_from (held.at + length held.ahead) before in
    bad_since old held (readable_from old.at (old.ahead ++ g.S.Source.left c.args.source.now)) (held.ahead ++ left) at
    c.loop-head.invariant.others
    (same_readable old held (g.S.Source.left c.args.source.now) before within c.loop-head.invariant.others (c.loop-head.invariant.told observed))
    (end_is_bad held left at part nothing there)

pub fill-requires : goal.fill-requires
fill-requires g c =
    let held = c.loop-head.self in
    let same : length c.held_head.new.self.ahead ≡ length held.ahead = ap (λ (h : Held). length h.ahead) c.in-Err-More.ensures.unchanged in
    let stop = subst (IsStop held.circuits held.kind held.ahead) c.in-Err-More.field-0-is c.in-Err-More.ensures.stop in
    omega (arith, same, part_is_short held.circuits held.kind held.ahead stop)

pub loop-head-smaller : goal.loop-head-smaller
loop-head-smaller g c =
    let held = c.loop-head.self in
    let same : length c.held_head.new.self.ahead ≡ length held.ahead = ap (λ (h : Held). length h.ahead) c.in-Err-More.ensures.unchanged in
    let stop = subst (IsStop held.circuits held.kind held.ahead) c.in-Err-More.field-0-is c.in-Err-More.ensures.stop in
    omega (arith, same, part_is_short held.circuits held.kind held.ahead stop, c.in_ok-fill.ensures.count)
