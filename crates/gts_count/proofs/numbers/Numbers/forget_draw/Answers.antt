use Rattle.gts_count.proofs.Cited.{◌≡◌, ◌<◌, [], ◌∷◌, ℕ, List, length, drop, get_or, subst, sym, ◌∙◌, arith, Buffer, IsRing, IsSound, buffer, no_ring, with_item, get_or_default, length-drop, length-map}
use Rattle.gts_count.proofs.CountLemmas.{leaves_draw}
use Rattle.gts_count.proofs.SoundLemmas.{first, keys_in, ring_keys, has_draw, oldest_counted, draws_sound}
use Rattle.gts_count.proofs.numbers.Numbers.forget_draw.Goals as goal

pub leave_draw-requires-clause-row : goal.leave_draw-requires-clause-row
leave_draw-requires-clause-row c =
    let n = c.args.self.now in
    let drawn : List (List (List ℕ)) = keys_in n.drawn.items in
    let was : Buffer (List ℕ) = c.index_mut.result.now in
    let inside : c.args.c < length n.drawn.items = c.requires.circuit in
    let among : c.args.c < length drawn = omega (arith, inside, length-map n.drawn.items (λ (q : Buffer (List ℕ)). q.items)) in
    let here : get_or n.drawn.items c.args.c no_ring ≡ was = get_or_default n.drawn.items c.args.c no_ring was inside ∙ sym c.index_mut.ensures.value in
    let keys : get_or drawn c.args.c [] ≡ was.items = ring_keys n.drawn.items c.args.c was inside here in
    let k : List ℕ = c.in-Some.oldest in
    let rest : List (List ℕ) = drop 1 was.items in
    let front : get_or drawn c.args.c [] ≡ k ∷ rest = keys ∙ first was.items k (sym c.pop_front.ensures.value ∙ c.in-Some.is) in
    has_draw n.rows k (oldest_counted k rest n.recent.items drawn c.args.c n.rows among front c.requires.sound.rows)

pub leave_draw-requires-clause-counted : goal.leave_draw-requires-clause-counted
leave_draw-requires-clause-counted c =
    let n = c.args.self.now in
    let drawn : List (List (List ℕ)) = keys_in n.drawn.items in
    let was : Buffer (List ℕ) = c.index_mut.result.now in
    let inside : c.args.c < length n.drawn.items = c.requires.circuit in
    let among : c.args.c < length drawn = omega (arith, inside, length-map n.drawn.items (λ (q : Buffer (List ℕ)). q.items)) in
    let here : get_or n.drawn.items c.args.c no_ring ≡ was = get_or_default n.drawn.items c.args.c no_ring was inside ∙ sym c.index_mut.ensures.value in
    let keys : get_or drawn c.args.c [] ≡ was.items = ring_keys n.drawn.items c.args.c was inside here in
    let k : List ℕ = c.in-Some.oldest in
    let rest : List (List ℕ) = drop 1 was.items in
    let front : get_or drawn c.args.c [] ≡ k ∷ rest = keys ∙ first was.items k (sym c.pop_front.ensures.value ∙ c.in-Some.is) in
    oldest_counted k rest n.recent.items drawn c.args.c n.rows among front c.requires.sound.rows

pub returns-in-Some-clause-sound : goal.returns-in-Some-clause-sound
returns-in-Some-clause-sound c =
    let n = c.args.self.now in
    let drawn : List (List (List ℕ)) = keys_in n.drawn.items in
    let was : Buffer (List ℕ) = c.index_mut.result.now in
    let inside : c.args.c < length n.drawn.items = c.requires.circuit in
    let among : c.args.c < length drawn = omega (arith, inside, length-map n.drawn.items (λ (q : Buffer (List ℕ)). q.items)) in
    let here : get_or n.drawn.items c.args.c no_ring ≡ was = get_or_default n.drawn.items c.args.c no_ring was inside ∙ sym c.index_mut.ensures.value in
    let keys : get_or drawn c.args.c [] ≡ was.items = ring_keys n.drawn.items c.args.c was inside here in
    let k : List ℕ = c.in-Some.oldest in
    let rest : List (List ℕ) = drop 1 was.items in
    let front : get_or drawn c.args.c [] ≡ k ∷ rest = keys ∙ first was.items k (sym c.pop_front.ensures.value ∙ c.in-Some.is) in
    let fits : IsRing was = subst (λ (q : Buffer (List ℕ)). IsRing q) here (c.requires.sound.kept c.args.c no_ring inside) in
    let new : Buffer (List ℕ) = buffer rest was.capacity in
    subst (λ (b : Buffer (List ℕ)). IsSound (record { recent = n.recent; drawn = with_item n.drawn c.args.c b; rows = c.leave_draw.new.rows; came = n.came })) (sym c.pop_front.ensures.items)
    (draws_sound n c.args.c new c.leave_draw.new.rows c.requires.sound (omega (arith, length-drop 1 was.items, fits.0), fits.1, fits.2)
    (leaves_draw k rest n.recent.items drawn c.args.c n.rows c.leave_draw.new.rows among front c.requires.sound.rows c.leave_draw.ensures))
