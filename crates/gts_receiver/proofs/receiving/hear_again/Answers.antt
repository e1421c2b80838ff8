use Rattle.gts_receiver.proofs.Cited.{◌≡◌, true, sym, ◌∙◌, subst, Answers, Heard, SaysNoMore, Seen, is_wanting}
use Rattle.gts_receiver.proofs.SettledLemmas.{again, answers_go, one_more}
use Rattle.gts_receiver.proofs.receiving.hear_again.Goals as goal

pub loop-answer-preserved : goal.loop-answer-preserved
loop-answer-preserved g c =
    let now : Seen = g.D.Desk.seen c.loop-answer.desk in
    let later : Seen = g.D.Desk.seen c.hear-answer.new.self in
    let wants : is_wanting c.loop-answer.answer ≡ true = sym c.is_wanting.ensures ∙ c.loop-answer-test.true in
    let A : Seen → Type 0 = λ d. Answers d (Heard c.args.c c.args.kind c.args.message.now) SaysNoMore c.hear-answer.result later in
    let answers : A now = subst A c.rest.ensures c.hear-answer.ensures in
    record {
      directory = (answers_go (Heard c.args.c c.args.kind c.args.message.now) c.hear-answer.result now later answers).directory ∙ c.loop-answer.invariant.directory;
      tired = λ is. one_more c.args.c c.args.kind c.args.message.now c.hear-answer.result now later c.loop-answer.tries is answers (c.loop-answer.invariant.tired wants);
      heard = λ old h. again c.args.c c.args.kind c.args.message.now c.loop-answer.answer old now wants (c.loop-answer.invariant.heard old h) c.hear-answer.result later answers;
    }
