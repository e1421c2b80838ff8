use Rattle.gts_report.proofs.Cited.{◌≡◌, ℕ, ◌-◌, List, length, map, sym, ap, ◌∙◌, Bulletin, behind, bulletin_of, known, need_of, recent_among}
use Rattle.gts_event.specs.declared.values.Bulletin as values
use Rattle.gts_report.proofs.DuplicateLemmas.{known_behind}
use Rattle.gts_report.proofs.duplicates.forgotten_duplicates.Goals as goal

pub returns : goal.returns
returns c =
    let old = c.args.old.now in
    let new = c.args.new.now in
    let n = need_of c.args.need.now in
    let before : c.count_recent-before.result ≡ length (known old n) =
    c.count_recent-before.ensures
    ∙ ap (λ (bs : List values.Bulletin). length (recent_among old n.accepted (map bulletin_of bs))) c.as_slice-bulletins.ensures in
    let after : c.count_recent-after.result ≡ length (known new (behind new old n)) =
    c.count_recent-after.ensures
    ∙ ap (λ (bs : List values.Bulletin). length (recent_among new n.accepted (map bulletin_of bs))) c.as_slice-bulletins.ensures
    ∙ ap (λ (bs : List Bulletin). length bs) (sym (known_behind new old n)) in
    c.saturating_sub.ensures ∙ ap (λ (k : ℕ). k - c.count_recent-after.result) before ∙ ap (λ (k : ℕ). length (known old n) - k) after
