-- A root that SHAPE and ROOT are asked of.
use Prim.Native.Nat.{ℕ}
use mathlib.Core.Path.{◌≡◌, ap, ◌∙◌}
use mathlib.Core.List.{[], ◌∷◌}
use Rattle.std.specs.Prelude.{Result, ⊤}
use Rattle.model.specs.declared.Refusal.{Refusal}
use Rattle.model.specs.Words.{State}
use Rattle.words.specs.Admits.{admits}

-- the root that was asked for is the one that is named, as numbers
pub asked : {x : Result ⊤ Refusal} {q : ℕ} (r : ℕ) (s : State) → x ≡ admits (q ∷ []) s → q ≡ r → x ≡ admits (r ∷ []) s
asked r s e f = e ∙ ap (λ (q : ℕ). admits (q ∷ []) s) f
