use Rattle.gts_count.proofs.Cited.{◌≡◌, ◌≤◌, ℕ, List, length, take, sym, ap, ◌∙◌, subst, Notes, bulletin_of}
use Rattle.gts_count.proofs.StartLemmas.{start_key, start_passed, start_joined}
use Rattle.gts_count.proofs.start.note_bulletin.Goals as goal

-- the bytes of a body are those that were read
read_of : (body bytes key : List ℕ) → bytes ≡ body → (11 ≤ length bytes → key ≡ take 11 bytes) → 11 ≤ length body → key ≡ take 11 body
read_of body bytes key same = subst (λ (b : List ℕ). (11 ≤ length b → key ≡ take 11 b) → 11 ≤ length body → key ≡ take 11 body) (sym same) (λ read. read)

pub returns-then-is_recent : goal.returns-then-is_recent
returns-then-is_recent c =
    let b = bulletin_of c.args.bulletin.now in
    let key = start_key c.args.directory.now c.args.accepted b c.key_in-key.result c.requires.bulletin (read_of c.args.bulletin.now.body c.as_slice-body.result.now c.key_in-key.result c.as_slice-body.ensures c.key_in-key.ensures) in
    record {
      notes = start_joined c.args.directory.now c.args.accepted b c.key_in-key.result c.args.numbers.now c.prepare.new.self c.note_accepted.new.self key (sym c.is_recent.ensures ∙ c.if-is_recent.true)
          (record { sound = c.in_ok-prepare.ensures.sound; recent = c.in_ok-prepare.ensures.recent; drawn = c.in_ok-prepare.ensures.drawn; came = c.in_ok-prepare.ensures.came; rows = c.in_ok-prepare.ensures.rows })
          c.in_ok-prepare.ensures.row
          (subst (λ (n : ℕ). Notes c.prepare.new.self c.note_accepted.new.self (record { position = c.args.bulletin.now.position; key = c.key_in-key.result; from = c.args.bulletin.now.from; bytes = n })) (ap length c.as_slice-body.ensures)
          (record { sound = c.note_accepted.ensures.sound; recent = c.note_accepted.ensures.recent; window = c.note_accepted.ensures.window; drawn = c.note_accepted.ensures.drawn; rows = c.note_accepted.ensures.rows; circuits = c.note_accepted.ensures.circuits }));
    }

pub returns-else-is_recent : goal.returns-else-is_recent
returns-else-is_recent c =
    let b = bulletin_of c.args.bulletin.now in
    let key = start_key c.args.directory.now c.args.accepted b c.key_in-key.result c.requires.bulletin (read_of c.args.bulletin.now.body c.as_slice-body.result.now c.key_in-key.result c.as_slice-body.ensures c.key_in-key.ensures) in
    record {
      notes = start_passed c.args.directory.now c.args.accepted b c.key_in-key.result c.args.numbers.now c.prepare.new.self key (sym c.is_recent.ensures ∙ c.if-is_recent.false)
          (record { sound = c.in_ok-prepare.ensures.sound; recent = c.in_ok-prepare.ensures.recent; drawn = c.in_ok-prepare.ensures.drawn; came = c.in_ok-prepare.ensures.came; rows = c.in_ok-prepare.ensures.rows })
          c.in_ok-prepare.ensures.row;
    }
