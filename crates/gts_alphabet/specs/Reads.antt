-- What a reader answers.
use Rattle.std.specs.Prelude.{◌≡◌, Result, Ok, Err}

-- A reader gives what a definition computes: as a value, of which contracts see the view, or as a refusal.
abbrev pub Reads : {A B E : Type 0} → (A → B) → Result A E → Result B E → Type 0
Reads view (Ok x) computed = computed ≡ Ok (view x)
Reads view (Err e) computed = computed ≡ Err e
