-- A word of six letters or seven is told by its length and each of its bytes.
use Rattle.gts_words.proofs.Cited.{◌≡◌, ℕ, List, Option, Some, refl, sym, ap, ◌∙◌, arith, text_from_reads, alone}
use Rattle.std.specs.Prelude.{codes}
use Rattle.gts_words.specs.declared.command.Command.{Command}
use Rattle.gts_words.specs.declared.command.Command.TheVariants.{Compact, Follow, Migrate, Replay}
use Rattle.gts_words.proofs.reading.alone.Goals as goal

-- the command of a word whose bytes are those of this one
spelled : (name bytes word : List ℕ) (command : Option Command) → bytes ≡ name → bytes ≡ word → alone word ≡ command → command ≡ alone name
spelled name bytes word command read same is = sym (ap alone (sym read ∙ same) ∙ is)

pub returns-in-replay : goal.returns-in-replay
returns-in-replay c =
    let same = text_from_reads c.as_bytes.result.now (codes "replay") (omega arith)
    (omega arith, (omega arith, (omega arith, (omega arith, (omega arith, (omega arith, tt)))))) in
    spelled c.args.name.now c.as_bytes.result.now (codes "replay") (Some Replay) c.as_bytes.ensures.value same refl

pub returns-in-follow : goal.returns-in-follow
returns-in-follow c =
    let same = text_from_reads c.as_bytes.result.now (codes "follow") (omega arith)
    (omega arith, (omega arith, (omega arith, (omega arith, (omega arith, (omega arith, tt)))))) in
    spelled c.args.name.now c.as_bytes.result.now (codes "follow") (Some Follow) c.as_bytes.ensures.value same refl

pub returns-in-compact : goal.returns-in-compact
returns-in-compact c =
    let same = text_from_reads c.as_bytes.result.now (codes "compact") (omega arith)
    (omega arith, (omega arith, (omega arith, (omega arith, (omega arith, (omega arith, (omega arith, tt))))))) in
    spelled c.args.name.now c.as_bytes.result.now (codes "compact") (Some Compact) c.as_bytes.ensures.value same refl

pub returns-in-migrate : goal.returns-in-migrate
returns-in-migrate c =
    let same = text_from_reads c.as_bytes.result.now (codes "migrate") (omega arith)
    (omega arith, (omega arith, (omega arith, (omega arith, (omega arith, (omega arith, (omega arith, tt))))))) in
    spelled c.args.name.now c.as_bytes.result.now (codes "migrate") (Some Migrate) c.as_bytes.ensures.value same refl
