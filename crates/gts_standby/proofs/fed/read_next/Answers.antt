use Rattle.gts_standby.proofs.Cited.{rules, ◌≡◌, true, false, sym, ap, ◌∙◌, InFeed, tells_next}
use Rattle.gts_standby.proofs.fed.read_next.Goals as goal

pub loop-version-preserved : goal.loop-version-preserved
loop-version-preserved g c =
    let inv = c.loop-version.invariant in
    let no : tells_next c.args.version c.loop-version.ahead ≡ false = search rules in
    record {
      kept = λ told fed read. c.in_ok-read_on.ensures.kept told fed (inv.kept told fed read);
      still = λ tells. absurd (let both : false ≡ true = sym no ∙ ap (λ (a : InFeed). tells_next c.args.version a) (inv.still tells).0 ∙ tells in cc both);
      sound = c.in_ok-read_on.ensures.cause.sound tt ∙ inv.sound;
    }
