use Rattle.gts_count.proofs.Cited.{◌≡◌, ◌<◌, ◌++◌, [], ◌∷◌, ℕ, ◌+◌, ◌-◌, List, length, drop, get_or, subst, sym, ap, ◌∙◌, arith, Buffer, IsRing, IsSound, buffer, keep_last, no_ring, with_item, get_or_default, length-append, length-map, common_steps}
use Rattle.gts_count.proofs.CountLemmas.{joins_draw}
use Rattle.gts_count.proofs.SoundLemmas.{keys_in, ring_keys, few_draws, draws_sound}
use Rattle.gts_count.proofs.numbers.Numbers.push_draw.Goals as goal

pub join_draw-requires-clause-few : goal.join_draw-requires-clause-few
join_draw-requires-clause-few c = grind (arith, common_steps, few_draws)

pub returns-clause-sound : goal.returns-clause-sound
returns-clause-sound c =
    let n = c.args.self.now in
    let drawn : List (List (List ℕ)) = keys_in n.drawn.items in
    let was : Buffer (List ℕ) = c.index_mut.result.now in
    let inside : c.args.c < length n.drawn.items = c.requires.circuit in
    let among : c.args.c < length drawn = omega (arith, inside, length-map n.drawn.items (λ (q : Buffer (List ℕ)). q.items)) in
    let here : get_or n.drawn.items c.args.c no_ring ≡ was = get_or_default n.drawn.items c.args.c no_ring was inside ∙ sym c.index_mut.ensures.value in
    let keys : get_or drawn c.args.c [] ≡ was.items = ring_keys n.drawn.items c.args.c was inside here in
    let fits : IsRing was = subst (λ (q : Buffer (List ℕ)). IsRing q) here (c.requires.sound.kept c.args.c no_ring inside) in
    let room : length was.items < was.capacity = subst (λ (q : Buffer (List ℕ)). length q.items < q.capacity) here c.requires.room in
    let k : List ℕ = c.args.key in
    let long : length (was.items ++ k ∷ []) ≡ length was.items + 1 = length-append was.items (k ∷ []) in
    let none : length (was.items ++ k ∷ []) - was.capacity ≡ 0 = omega (arith, long, room) in
    let kept : keep_last was.capacity (was.items ++ k ∷ []) ≡ was.items ++ k ∷ [] = ap (λ (j : ℕ). drop j (was.items ++ k ∷ [])) none in
    let ring : c.push_back.new.self ≡ buffer (was.items ++ k ∷ []) was.capacity = c.push_back.ensures.items ∙ ap (λ (xs : List (List ℕ)). buffer xs was.capacity) kept in
    subst (λ (b : Buffer (List ℕ)). IsSound (record { recent = n.recent; drawn = with_item n.drawn c.args.c b; rows = c.join_draw.new.rows; came = n.came })) (sym ring)
    (draws_sound n c.args.c (buffer (was.items ++ k ∷ []) was.capacity) c.join_draw.new.rows c.requires.sound (omega (arith, long, room), fits.1, fits.2)
    (joins_draw k was.items n.recent.items drawn c.args.c n.rows c.join_draw.new.rows among keys c.requires.sound.rows c.join_draw.ensures))
