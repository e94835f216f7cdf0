-- Answers that are no refusal, and refusals told apart.
use Prim.Native.Nat.{ℕ}
use native.Mathlib.Omega.{arith}
use mathlib.Core.Path.{◌≡◌, refl, sym, ◌∙◌, ap}
use mathlib.Core.Bool.{false}
use Rattle.std.specs.Prelude.{Result, Ok, Err}
use lib.Dec.{eqb}
use Rattle.model.specs.declared.Refusal.{Refusal}
use Rattle.model.specs.declared.Refusal.TheVariants as Why
use Rattle.model.specs.declared.Answer.{Answer}
use Rattle.model.specs.declared.Answer.TheVariants as Says
use Rattle.model.specs.Answers.{number}
use Rattle.theory.proofs.Tests.{never}

pub refused-same : (j k : Refusal) → ◌≡◌ {A = Result Answer Refusal} (Err j) (Err k) → j ≡ k
refused-same j k e = cc

-- ROOM told from the others by its number
pub not-room : (k : Refusal) → eqb (number k) 9 ≡ false → k ≡ Why.Room → ⊥
not-room k e q = never refl (sym (ap (λ z. eqb (number z) 9) q) ∙ e)

pub no_yes : Says.No ≡ Says.Yes → ⊥
no_yes e = let z : ◌≡◌ {A = ℕ} 0 1 = cc in omega arith

-- no refusal has the number 0
pub no_zero : (k : Refusal) → number k ≡ 0 → ⊥
no_zero Why.Shape e = omega arith
no_zero Why.Root e = omega arith
no_zero Why.Count e = omega arith
no_zero Why.Range e = omega arith
no_zero Why.Object e = omega arith
no_zero Why.Kind e = omega arith
no_zero Why.Field e = omega arith
no_zero Why.Damaged e = omega arith
no_zero Why.Room e = omega arith
no_zero Why.Value e = omega arith
no_zero Why.Deep e = omega arith
no_zero Why.Text e = omega arith

-- what a call answers is no refusal
abbrev pub Plainly : Result Answer Refusal → Type 0
Plainly r = (k : Refusal) → r ≡ Err k → ⊥

pub plainly : (a : Answer) → Plainly (Ok a)
plainly a k e = let z : ◌≡◌ {A = ℕ} 0 1 = cc in omega arith
