use Rattle.gts_sender.proofs.Cited.{◌≡◌, ℕ, ◌-◌, ◌++◌, List, length, take, drop, sym, ap, ◌∙◌, append_assoc, take-append-drop, arith, length-drop, take_all}
use Rattle.gts_sender.proofs.writing.write_all.Goals as goal

cut : (n : ℕ) (xs : List ℕ) → xs ≡ take n xs ++ take (length xs - n) (drop n xs)
cut n xs = sym (take-append-drop n xs) ∙ ap (λ (l : List ℕ). take n xs ++ l) (sym (take_all (length xs - n) (drop n xs) (omega (arith, length-drop n xs))))

pub loop-rest-preserved : goal.loop-rest-preserved
loop-rest-preserved g c =
    let i = c.loop-rest.invariant in
    let n = c.in_ok-count.count in
    record {
      written = (
        i.written.0 ++ take n c.loop-rest.rest.now,
        i.written.1 ∙ ap (λ (l : List ℕ). i.written.0 ++ l) (cut n c.loop-rest.rest.now) ∙ sym (append_assoc i.written.0 (take n c.loop-rest.rest.now) _),
        λ observed. c.in_ok-count.ensures.bytes observed ∙ ap (λ (l : List ℕ). l ++ take n c.loop-rest.rest.now) (i.written.2 observed) ∙ append_assoc (g.K.Sink.written c.args.sink.now) i.written.0 (take n c.loop-rest.rest.now),
      );
      sound = c.in_ok-count.ensures.cause.sound ∙ i.sound;
    }
