use Rattle.gts_count.proofs.Cited.{◌≡◌, ℕ, ◌+◌, List, Some, None, is_some, get_or, take, sym, ap, subst, ◌∙◌, NotesKept, Numbers, nat_cmp, option_copied, true≢false, get_or_default}
use Rattle.gts_count.specs.Cited.{get}
use Rattle.gts_count.proofs.StartingLemmas.{plain_more, kept_more}
use Rattle.gts_count.proofs.start.note_kept.Goals as goal
use Rattle.gts_count.proofs.start.note_kept.Goals.{in-Some, in_default}

pub loop-position-preserved : goal.loop-position-preserved
loop-position-preserved c =
    let kept : List ℕ = c.args.kept.now in
    let i : ℕ = c.loop-position.position-index in
    let p : ℕ = get_or kept i 0 in
    elim c.match-get.branch [
      | in-Some w ↦
          let known : get nat_cmp c.args.keys.now p ≡ Some w.in-Some.key.now = sym c.get.ensures.value ∙ ap option_copied w.in-Some.is in
          let e = w.note_drawn.ensures in
          let more : NotesKept c.args.keys.now c.args.c (take (i + 1) kept) c.args.numbers.now w.note_drawn.new.self =
          subst (λ (l : List ℕ). NotesKept c.args.keys.now c.args.c l c.args.numbers.now w.note_drawn.new.self)
          (sym (plain_more kept i p c.loop-position-test.true (get_or_default kept i 0 p c.loop-position-test.true)))
          (kept_more c.args.keys.now c.args.c (take i kept) p w.in-Some.key.now c.args.numbers.now c.loop-position.numbers w.note_drawn.new.self c.requires.circuit known c.loop-position.invariant
          (record { sound = e.sound; drawn = e.drawn; recent = e.recent; rows = e.rows; came = e.came })) in
          subst (λ (n : Numbers). NotesKept c.args.keys.now c.args.c (take (i + 1) kept) c.args.numbers.now n) (sym w.numbers-is) more
      | in_default w ↦
          let none : get nat_cmp c.args.keys.now p ≡ None = sym c.get.ensures.value ∙ ap option_copied w.in_default.is in
          absurd (true≢false (sym (c.requires.known i 0 c.loop-position-test.true) ∙ ap is_some none))
    ]
