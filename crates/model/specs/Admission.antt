-- What every call but fresh tests before what is its own: SHAPE, then ROOT of the root numbers that it names.
-- Document 01, "Refusals and their order".
use Rattle.std.specs.Prelude.{ℕ, Bool, false, ◌||◌, List, [], ◌∷◌, leb, length}
use Rattle.model.specs.declared.Refusal.{Refusal}
use Rattle.model.specs.declared.Refusal.TheVariants as Why
use Rattle.model.specs.Words.{State}
use Rattle.model.specs.Shape.{bad_shape}
use Rattle.model.specs.Answers.{Outcome, refuse}

-- of the root numbers named, one is not below the number n of roots
abbrev pub no_roots : ℕ → List ℕ → Bool
no_roots n [] = false
no_roots n (r ∷ []) = leb n r
no_roots n (r ∷ q ∷ rs) = leb n r || no_roots n (q ∷ rs)

-- the two tests, then what is the call's own; `refusing` is how it refuses where a test holds
abbrev pub admitted : {A : Type 0} → (Bool → Refusal → A → A) → List ℕ → State → A → A
admitted refusing named s own = refusing (bad_shape s) Why.Shape (refusing (no_roots (length s.roots) named) Why.Root own)

-- a call that answers, and changes nothing where it refuses
abbrev pub on_roots : List ℕ → State → Outcome State → Outcome State
on_roots named s own = admitted (λ b k next. refuse b k s next) named s own
