-- `words::admission::admit` meets its contract: a root named twice is asked for as one named once.
use Rattle.std.proofs.Common.{◌≡◌, ℕ, ap, ◌∙◌, arith, [], ◌∷◌}
use Rattle.std.specs.Prelude.{Bool, cond, length, Ok, Err, leb, Result, ⊤}
use mathlib.Core.Bool.{or_self}
use Rattle.model.specs.declared.Refusal.{Refusal}
use Rattle.model.specs.declared.Refusal.TheVariants as Why
use Rattle.model.specs.Shape.{bad_shape_of}
use Rattle.model.specs.Words.{State, state_of}
use Rattle.words.specs.Admits.{admits}
use Rattle.words.proofs.admission.admit.Goals as goal

-- both roots that were asked for are the one that is named, as numbers
asked : {x : Result ⊤ Refusal} {p q : ℕ} (r : ℕ) (s : State) → x ≡ admits (p ∷ q ∷ []) s → p ≡ r → q ≡ r
    → x ≡ admits (r ∷ r ∷ []) s
asked {p = p} r s e f g = e ∙ ap (λ (q : ℕ). admits (p ∷ q ∷ []) s) g ∙ ap (λ (p : ℕ). admits (p ∷ r ∷ []) s) f

pub returns-clause-is : goal.returns-clause-is
unfolding admits
returns-clause-is c =
    let a = c.args in
    asked a.root (state_of a.heap.now a.roots.now a.«record») c.admit_both.ensures.is (omega arith) (omega arith)
    ∙ ap (λ (b : Bool). cond (bad_shape_of (length a.heap.now) (length a.roots.now) a.«record») (Err Why.Shape) (cond b (Err Why.Root) (Ok tt)))
    (or_self (leb (length a.roots.now) a.root))
