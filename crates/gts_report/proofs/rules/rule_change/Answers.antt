use Rattle.gts_report.proofs.Cited.{◌≡◌, ℕ, Bool, true, false, cond, List, [], length, Result, Ok, Err, sym, ap, ◌∙◌, IfOk, AreRulesOf, Directory as DirectoryOf, rule_of_row}
use Rattle.gts_report.specs.Changes as changes
use Rattle.gts_report.proofs.RuleLemmas.{among_is}
use Rattle.gts_report.proofs.rules.rule_change.Goals as goal

if_ok : {A E : Type 0} (P Q : A → Type 0) (r : Result A E) → ((x : A) → P x → Q x) → IfOk r P → IfOk r Q
if_ok P Q (Ok x) more h = more x h
if_ok P Q (Err e) more h = tt

pub returns-then-is_among : goal.returns-then-is_among
returns-then-is_among c = λ other are.
    let d = c.args.directory.now in
    let n : ℕ = length d.circuits in
    let row = c.args.rule.now in
    let has : changes.has_rule other.rules (rule_of_row n row) ≡ true =
    sym (among_is c.a_mask_is_told_by_its_bits.ensures n row c.args.others.now other c.requires are) ∙ sym c.is_among.ensures ∙ c.if-is_among.true in
    c.new.ensures ∙ ap (λ (b : Bool). cond b [] (changes.rule_line c.args.word.now d (rule_of_row n row))) (sym has)

pub returns : goal.returns
returns c =
    let d = c.args.directory.now in
    let n : ℕ = length d.circuits in
    let row = c.args.rule.now in
    let line : List ℕ = changes.rule_line c.args.word.now d (rule_of_row n row) in
    if_ok (λ (text : List ℕ). text ≡ line)
    (λ (text : List ℕ). (other : DirectoryOf) → AreRulesOf c.args.others.now other
    → text ≡ changes.rule_change c.args.word.now d other.rules (rule_of_row n row))
    c.rule_line.result
    (λ text made other are.
    let hasnt : changes.has_rule other.rules (rule_of_row n row) ≡ false =
    sym (among_is c.a_mask_is_told_by_its_bits.ensures n row c.args.others.now other c.requires are) ∙ sym c.is_among.ensures ∙ c.if-is_among.false in
    made ∙ ap (λ (b : Bool). cond b [] line) (sym hasnt))
    c.rule_line.ensures
