use Rattle.std.proofs.Common.{◌≡◌, ◌+◌, ◌<◌, List, [], length, drop, refl, ap, sym, subst, ◌∙◌, Some, option_copied, arith, slice_get}
use Rattle.gts_dup.specs.Cited.{Buffer, IsSound, buffer, recent_pairs}
use Rattle.gts_dup.proofs.WindowLemmas.{Pair, none_there, oldest_left, oldest_stays}
use Rattle.gts_dup.proofs.table.forget_oldest.Goals as goal
use Rattle.gts_dup.proofs.table.forget_oldest.Goals.{In_default, After-pop_front, Else-saturating_sub-capacity}

-- there is no oldest pair
none : (c : In_default) → c.args.ring.now.items ≡ []
none c = none_there c.args.ring.now.items (sym (ap option_copied c.in_default.is) ∙ c.front.ensures)

pub returns-in_default-clause-left : goal.returns-in_default-clause-left
returns-in_default-clause-left c =
    let ring = c.args.ring.now in
    ap (λ (ps : List Pair). buffer ps ring.capacity) (none c)
    ∙ ap (λ (ps : List Pair). buffer (recent_pairs ring.capacity (c.args.position + 1) ps) ring.capacity) (sym (none c))

pub returns-in_default-clause-room : goal.returns-in_default-clause-room
returns-in_default-clause-room c = subst (λ (ps : List Pair). length ps < c.args.ring.now.capacity) (sym (none c)) c.requires.sound.room

left : (c : After-pop_front) → (recent_pairs c.args.ring.now.capacity (c.args.position + 1) c.args.ring.now.items ≡ drop 1 c.args.ring.now.items)
    × IsSound (buffer (drop 1 c.args.ring.now.items) c.args.ring.now.capacity) c.take_out_oldest.new.index × (length (drop 1 c.args.ring.now.items) < c.args.ring.now.capacity)
left c =
    let ring = c.args.ring.now in
    let first : Some c.in-Some.oldest.now ≡ slice_get ring.items 0 = sym (ap option_copied c.in-Some.is) ∙ c.front.ensures in
    oldest_left ring.items ring c.args.index.now c.take_out_oldest.new.index c.in-Some.oldest.now c.args.position refl first c.requires.sound c.requires.above c.requires.recent (omega arith) c.take_out_oldest.ensures.forgets

pub returns-then-saturating_sub-capacity-clause-left : goal.returns-then-saturating_sub-capacity-clause-left
returns-then-saturating_sub-capacity-clause-left c =
    c.pop_front.ensures.items ∙ ap (λ (ps : List Pair). buffer ps c.args.ring.now.capacity) (sym (left c).0)

pub returns-then-saturating_sub-capacity-clause-sound : goal.returns-then-saturating_sub-capacity-clause-sound
returns-then-saturating_sub-capacity-clause-sound c =
    subst (λ (b : Buffer Pair). IsSound b c.take_out_oldest.new.index) (sym c.pop_front.ensures.items) (left c).1

pub returns-then-saturating_sub-capacity-clause-room : goal.returns-then-saturating_sub-capacity-clause-room
returns-then-saturating_sub-capacity-clause-room c =
    subst (λ (b : Buffer Pair). length b.items < b.capacity) (sym c.pop_front.ensures.items) (left c).2

stays : (c : Else-saturating_sub-capacity) → (recent_pairs c.args.ring.now.capacity (c.args.position + 1) c.args.ring.now.items ≡ c.args.ring.now.items) × (length c.args.ring.now.items < c.args.ring.now.capacity)
stays c =
    let ring = c.args.ring.now in
    let first : Some c.in-Some.oldest.now ≡ slice_get ring.items 0 = sym (ap option_copied c.in-Some.is) ∙ c.front.ensures in
    oldest_stays ring.items c.in-Some.oldest.now ring.capacity c.args.position first c.requires.sound.room c.requires.sound.order c.requires.above (omega arith)

pub returns-else-saturating_sub-capacity-clause-left : goal.returns-else-saturating_sub-capacity-clause-left
returns-else-saturating_sub-capacity-clause-left c = ap (λ (ps : List Pair). buffer ps c.args.ring.now.capacity) (sym (stays c).0)

pub returns-else-saturating_sub-capacity-clause-room : goal.returns-else-saturating_sub-capacity-clause-room
returns-else-saturating_sub-capacity-clause-room c = (stays c).1
