use Rattle.gts_memory.proofs.Cited.{rules, ◌≡◌, ℕ, ◌+◌, ◌||◌, nat_lt, Bool, List, ◌∷◌, length, sym, ap, ◌∙◌, Doing, Writes, doing_of, kept_call, stable, touched}
use Rattle.gts_memory.proofs.LeftLemmas.{end_of_write}
use Rattle.gts_memory.proofs.crash.go_on.Goals as goal

pub returns-in_ok-write-in-Write : goal.returns-in_ok-write-in-Write
returns-in_ok-write-in-Write c = λ calls s.
    let file : ℕ = c.args.file in
    let done : Bool = c.args.done in
    let at : ℕ = c.in-Write.at in
    let bytes : List ℕ = c.in-Write.bytes.items in
    let old = c.args.left.now in
    let new = c.write.new.self in
    let doing : doing_of c.args.deed.now ≡ Writes file at bytes = search rules in
    let stable_is : new.stable.items ≡ stable calls file = search rules in
    let old_is : old.stable.items ≡ stable calls file = s.stable in
    let tail_is : new.tail ≡ (old.tail || nat_lt (length old.stable.items) (at + length bytes)) = search rules in
    let end : touched calls file (length (stable calls file)) ≡ old.tail = ap (λ (l : List ℕ). touched calls file (length l)) (sym old_is) ∙ s.end in
    record {
      stable = search rules;
      written = search rules;
      places = search rules;
      marks = search rules;
      tail = search rules;
      end = ap (λ (d : Doing). touched (kept_call done d calls ∷ calls) file (length new.stable.items)) doing
          ∙ ap (λ (l : List ℕ). touched (kept_call done (Writes file at bytes) calls ∷ calls) file (length l)) stable_is
          ∙ end_of_write done file at bytes calls old.tail end
          ∙ ap (λ (l : List ℕ). old.tail || nat_lt (length l) (at + length bytes)) (sym old_is) ∙ sym tail_is;
    }
