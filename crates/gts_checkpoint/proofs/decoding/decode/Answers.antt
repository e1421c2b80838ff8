use Rattle.gts_checkpoint.proofs.Cited.{◌≡◌, ◌+◌, ◌*◌, ◌^◌, ◌<◌, ◌≤◌, ℕ, List, Option, length, sym, ap, subst, ◌∙◌, arith, IfSome, IfNone, FindsText, checkpoint_text, draw_size, first_of, need_of, seal_size, unowed, written, Need}
use Rattle.gts_checkpoint.proofs.ReadLemmas.{stands_there, counts_there, can_begin}
use Rattle.gts_checkpoint.proofs.DecodeLemmas.{bytes_there, no_text, not_whole, no_limit, no_history, is_checkpoint}
use Rattle.gts_checkpoint.proofs.decoding.decode.Goals as goal

pub returns-in_default-found-clause-none : goal.returns-in_default-found-clause-none
returns-in_default-found-clause-none c =
    let bytes = c.args.bytes.now in
    let low : c.args.directory.now.limit < 256 ^ 4 = omega (arith, c.limit-limit.ensures.value, c.limit-limit.ensures.range.1) in
    let F : List ℕ → Type 0 = λ l. FindsText l c.circuits.result (first_of c.in-Ok.found) in
    let finds = subst F (bytes_there c.new-checkpoint_bytes.result.bytes.now bytes c.new-checkpoint_bytes.ensures) (c.in-Ok.ensures.found tt) in
    no_text written c.args.directory.now bytes c.circuits.result c.in-Ok.found c.circuits.ensures.value low c.in_default-found.is finds

pub returns-then-at-bytes-clause-none : goal.returns-then-at-bytes-clause-none
returns-then-at-bytes-clause-none c =
    let d = c.args.directory.now in
    let bytes = c.args.bytes.now in
    let n : Need = c.in-Some.need in
    let low : d.limit < 256 ^ 4 = omega (arith, c.limit-limit.ensures.value, c.limit-limit.ensures.range.1) in
    let F : List ℕ → Type 0 = λ l. FindsText l c.circuits.result (first_of c.in-Ok.found) in
    let finds = subst F (bytes_there c.new-checkpoint_bytes.result.bytes.now bytes c.new-checkpoint_bytes.ensures) (c.in-Ok.ensures.found tt) in
    let stands = stands_there bytes c.circuits.result c.in-Ok.found n c.in-Some.at c.in-Some.is finds c.in-Ok.ensures.fits c.in-Ok.ensures.unowed in
    let P : Option (Need × ℕ) → Type 0 = λ o. IfSome o (λ f. f.1 ≡ 41 + length (checkpoint_text (need_of f.0))) in
    not_whole written d bytes (need_of n) c.in-Some.at low stands (subst P c.in-Some.is c.in-Ok.ensures.place) c.if-at-bytes.true

pub returns-in_default-gate_behind-clause-none : goal.returns-in_default-gate_behind-clause-none
returns-in_default-gate_behind-clause-none c =
    let d = c.args.directory.now in
    let bytes = c.args.bytes.now in
    let n : Need = c.in-Some.need in
    let F : List ℕ → Type 0 = λ l. FindsText l c.circuits.result (first_of c.in-Ok.found) in
    let finds = subst F (bytes_there c.new-checkpoint_bytes.result.bytes.now bytes c.new-checkpoint_bytes.ensures) (c.in-Ok.ensures.found tt) in
    let stands = stands_there bytes c.circuits.result c.in-Ok.found n c.in-Some.at c.in-Some.is finds c.in-Ok.ensures.fits c.in-Ok.ensures.unowed in
    let counts = counts_there d c.in-Ok.found n c.in-Some.at c.waiting-due.result c.limit-limit.result c.as_slice.result.now c.in-Some.is c.in-Ok.ensures.place c.waiting-due.ensures c.as_slice.ensures
    c.limit-limit.ensures.value c.limit-limit.ensures.range.1 in
    let G : Option ℕ → Type 0 = λ o. IfNone o (c.limit-limit.result < c.in-Some.at + seal_size c.written.result + 1 + draw_size c.written.result * c.waiting-due.result) in
    let over = subst G c.in_default-gate_behind.is c.gate_behind.ensures.none in
    no_limit written d bytes n c.in-Some.at c.waiting-due.result c.limit-limit.result stands counts
    (subst (λ v. c.limit-limit.result < c.in-Some.at + seal_size v + 1 + draw_size v * c.waiting-due.result) c.written.ensures over)

pub returns-then-not-branch-clause-none : goal.returns-then-not-branch-clause-none
returns-then-not-branch-clause-none c =
    let bytes = c.args.bytes.now in
    let n : Need = c.in-Some.need in
    let low : c.args.directory.now.limit < 256 ^ 4 = omega (arith, c.limit-limit.ensures.value, c.limit-limit.ensures.range.1) in
    let F : List ℕ → Type 0 = λ l. FindsText l c.circuits.result (first_of c.in-Ok.found) in
    let finds = subst F (bytes_there c.new-checkpoint_bytes.result.bytes.now bytes c.new-checkpoint_bytes.ensures) (c.in-Ok.ensures.found tt) in
    let stands = stands_there bytes c.circuits.result c.in-Ok.found n c.in-Some.at c.in-Some.is finds c.in-Ok.ensures.fits c.in-Ok.ensures.unowed in
    no_history written c.args.directory.now bytes (need_of n) low stands (sym c.in_ok-is_sound.ensures ∙ c.if-not-branch.true)

pub returns-clause-found : goal.returns-clause-found
returns-clause-found c =
    let d = c.args.directory.now in
    let bytes = c.args.bytes.now in
    let n : Need = c.in-Some.need in
    let at : ℕ = c.in-Some.at in
    let F : List ℕ → Type 0 = λ l. FindsText l c.circuits.result (first_of c.in-Ok.found) in
    let finds = subst F (bytes_there c.new-checkpoint_bytes.result.bytes.now bytes c.new-checkpoint_bytes.ensures) (c.in-Ok.ensures.found tt) in
    let stands = stands_there bytes c.circuits.result c.in-Ok.found n at c.in-Some.is finds c.in-Ok.ensures.fits c.in-Ok.ensures.unowed in
    let counts = counts_there d c.in-Ok.found n at c.waiting-due.result c.limit-limit.result c.as_slice.result.now c.in-Some.is c.in-Ok.ensures.place c.waiting-due.ensures c.as_slice.ensures
    c.limit-limit.ensures.value c.limit-limit.ensures.range.1 in
    let U : Option (Need × ℕ) → Type 0 = λ o. IfSome o (λ f. unowed (need_of f.0) ≡ need_of f.0) in
    let P : Option ℕ → Type 0 = λ o. IfSome o (λ gate. gate ≡ at + seal_size c.written.result) in
    let R : Option ℕ → Type 0 = λ o. IfSome o (λ gate. gate + 1 + draw_size c.written.result * c.waiting-due.result ≤ c.limit-limit.result) in
    let L : Option (Need × ℕ) → Type 0 = λ o. IfSome o (λ f. f.1 ≡ 41 + length (checkpoint_text (need_of f.0))) in
    let gate : ℕ = c.in-Some-gate_behind._gate in
    let at_gate = subst P c.in-Some-gate_behind.is c.gate_behind.ensures.place in
    let has_room = subst R c.in-Some-gate_behind.is c.gate_behind.ensures.room in
    let can = can_begin written d n at c.waiting-due.result c.limit-limit.result gate counts (subst U c.in-Some.is c.in-Ok.ensures.unowed) (sym c.in_ok-is_sound.ensures ∙ c.if-not-branch.false)
    (at_gate ∙ ap (λ v. at + seal_size v) c.written.ensures) (subst (λ v. gate + 1 + draw_size v * c.waiting-due.result ≤ c.limit-limit.result) c.written.ensures has_room) in
    is_checkpoint written d bytes (need_of n) at gate stands (subst L c.in-Some.is c.in-Ok.ensures.place) c.if-at-bytes.false can
