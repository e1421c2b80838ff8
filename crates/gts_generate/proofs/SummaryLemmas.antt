-- Lines counted one byte after another.
use Rattle.gts_generate.proofs.Cited.{◌≡◌, ℕ, List, ◌++◌, ◌∙◌, ap, append_assoc, common_steps, arith}

-- a text that was written in two pieces behind a first one
extended : (t₀ t y x t' : List ℕ) → t' ≡ t ++ x → t ≡ t₀ ++ y → t' ≡ t₀ ++ (y ++ x)
extended t₀ t y x t' last before = last ∙ ap (λ (l : List ℕ). l ++ x) before ∙ append_assoc t₀ y x

-- a text that was written line by line; the third and the fourth line, and the three parts of the end, come together
pub all-lines : (t₀ t₁ t₂ t₃ t₄ t₅ t₆ t₇ t₈ a b c d e f g h i j k : List ℕ) → t₁ ≡ t₀ ++ a → t₂ ≡ t₁ ++ b → t₃ ≡ t₂ ++ c ++ d → t₄ ≡ t₃ ++ e
    → t₅ ≡ t₄ ++ f → t₆ ≡ t₅ ++ g → t₇ ≡ t₆ ++ h → t₈ ≡ t₇ ++ i ++ j ++ k
    → t₈ ≡ t₀ ++ (a ++ b ++ c ++ d ++ e ++ f ++ g ++ h ++ i ++ j ++ k)
all-lines t₀ t₁ t₂ t₃ t₄ t₅ t₆ t₇ t₈ a b c d e f g h i j k e₁ e₂ e₃ e₄ e₅ e₆ e₇ e₈ = grind (arith, common_steps, extended)
