use Rattle.gts_directory.proofs.Cited.{◌≡◌, ℕ, ◌+◌, ◌<◌, List, length, take, drop, arith, length-drop, get_or-drop, take_all, common_steps}
use Rattle.std.specs.List.{All}
use Rattle.gts_directory.proofs.TableLemmas.{fitting-two, meet-none}
use Rattle.gts_directory.proofs.table.fitting.Goals as goal

others : (cells : List ℕ) → length cells ≡ 10 → take 8 (drop 2 cells) ≡ drop 2 cells
others cells ten = take_all 8 (drop 2 cells) (omega (arith, length-drop 2 cells))

inside_others : (cells : List ℕ) → length cells ≡ 10 → All (λ cell. cell < 473) cells → All (λ cell. cell < 473) (take 8 (drop 2 cells))
inside_others cells ten inside =
    rw (others cells ten) (λ k d within. rw (get_or-drop 2 cells k d) (inside (2 + k) d (omega (arith, length-drop 2 cells))))

pub returns-then-of_type-eq0 : goal.returns-then-of_type-eq0
returns-then-of_type-eq0 c = grind (arith, common_steps, fitting-two, meet-none)

pub meet-requires : goal.meet-requires
meet-requires c = inside_others c.args.cells.now (omega arith) c.requires

pub returns : goal.returns
returns c = grind (arith, common_steps, others, fitting-two)
