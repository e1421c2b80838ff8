use Rattle.gts_count.proofs.Cited.{◌≡◌, ◌≤◌, ℕ, List, length, take, sym, subst, ◌∙◌}
use Rattle.gts_event.specs.Items.{bulletin_of}
use Rattle.gts_count.proofs.KeyLemmas.{key_body}
use Rattle.gts_count.proofs.StartingLemmas.{key_kept, key_new}
use Rattle.gts_count.proofs.start.add_key.Goals as goal

-- the bytes of a body are those that were read
read_of : (body bytes key : List ℕ) → bytes ≡ body → (11 ≤ length bytes → key ≡ take 11 bytes) → 11 ≤ length body → key ≡ take 11 body
read_of body bytes key same = subst (λ (b : List ℕ). (11 ≤ length b → key ≡ take 11 b) → 11 ≤ length body → key ≡ take 11 body) (sym same) (λ read. read)

pub returns-then-contains_key : goal.returns-then-contains_key
returns-then-contains_key c = λ bulletins has. key_kept bulletins (bulletin_of c.args.bulletin.now) c.args.keys.now has (sym c.contains_key.ensures ∙ c.if-contains_key.true)

pub returns : goal.returns
returns c = λ bulletins has.
    let body = c.args.bulletin.now.body in
    let k = key_body body c.requires in
    let key = read_of body c.as_slice.result.now c.key_in.result c.as_slice.ensures c.key_in.ensures k.0 ∙ k.1 in
    key_new bulletins (bulletin_of c.args.bulletin.now) c.key_in.result c.args.keys.now c.insert.new.self has (sym c.contains_key.ensures ∙ c.if-contains_key.false) key c.in_ok-insert.ensures.updates.0
