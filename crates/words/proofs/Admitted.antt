-- What a call comes to by the two tests of Admission: refused as they say, or what is its own.
use native.Mathlib.Omega.{arith}
use Rattle.std.specs.Prelude.{ℕ, ◌≡◌, Bool, true, false, cond, List, length, Result, Ok, Err, ⊤}
use Rattle.std.proofs.Common.{refl, sym, ap, ◌∙◌}
use Rattle.std.specs.Result.{IsErrAnd}
use Rattle.std.proofs.lemmas.Result.{err_from_is_err_and}
use Rattle.model.specs.declared.Refusal.{Refusal}
use Rattle.model.specs.declared.Refusal.TheVariants as Why
use Rattle.model.specs.Words.{State}
use Rattle.model.specs.Shape.{bad_shape}
use Rattle.model.specs.Answers.{Outcome, refused, refuse}
use Rattle.model.specs.Admission.{no_roots, admitted, on_roots}
use Rattle.words.specs.Admits.{admits}

abbrev tested : Bool → Bool → Result ⊤ Refusal
tested b d = cond b (Err Why.Shape) (cond d (Err Why.Root) (Ok tt))

same : (j k : Refusal) → ◌≡◌ {A = Result ⊤ Refusal} (Err j) (Err k) → j ≡ k
same j k e = cc

refused_by : (b d : Bool) (k : Refusal) (s : State) (own : Outcome State) → tested b d ≡ Err k
    → refused k s ≡ refuse b Why.Shape s (refuse d Why.Root s own)
unfolding refuse
refused_by true d k s own e = ap (λ (j : Refusal). refused j s) (sym (same Why.Shape k e))
refused_by false true k s own e = ap (λ (j : Refusal). refused j s) (sym (same Why.Root k e))
refused_by false false k s own e = absurd (let z : ◌≡◌ {A = ℕ} 0 1 = cc in omega arith)

passed_by : (b d : Bool) (u : ⊤) → tested b d ≡ Ok u → (b ≡ false) × (d ≡ false)
passed_by true d u e = absurd (let z : ◌≡◌ {A = ℕ} 0 1 = cc in omega arith)
passed_by false true u e = absurd (let z : ◌≡◌ {A = ℕ} 0 1 = cc in omega arith)
passed_by false false u e = (refl, refl)

-- x is what `admit` or `admit_both` answered of the roots that the call names
module _ (named : List ℕ) (s : State) {x : Result ⊤ Refusal} (e : x ≡ admits named s) where
  tested-is : x ≡ tested (bad_shape s) (no_roots (length s.roots) named)
  unfolding admits
  tested-is = e

  pub not_admitted : {k : Refusal} (own : Outcome State) → x ≡ Err k → refused k s ≡ on_roots named s own
  not_admitted {k} own h = refused_by (bad_shape s) (no_roots (length s.roots) named) k s own (sym tested-is ∙ h)

  -- both tests fail, and what follows is the call's own
  pub admitted_tests : {u : ⊤} → x ≡ Ok u → (bad_shape s ≡ false) × (no_roots (length s.roots) named ≡ false)
  admitted_tests {u} h = passed_by _ _ u (sym tested-is ∙ h)

  pub admitted_own : {u : ⊤} {o own : Outcome State} → x ≡ Ok u → o ≡ own → o ≡ on_roots named s own
  unfolding refuse
  admitted_own h f = let t = admitted_tests h in rw (t.0, t.1) f

-- the refusal that `?` passes on, where it is the call's own
pub passed_on : {T : Type 0} {k : Refusal} (r : Result T Refusal) → IsErrAnd r (λ y. y ≡ k) → r ≡ Err k
passed_on r h = let z = err_from_is_err_and r h in z.1 ∙ ap Err z.2

-- the two tests before an answer of another kind
before_own : {T : Type 0} (b d : Bool) (k : Refusal) (own : Result T Refusal) → tested b d ≡ Err k
    → Err k ≡ cond b (Err Why.Shape) (cond d (Err Why.Root) own)
before_own true d k own e = ap Err (sym (same Why.Shape k e))
before_own false true k own e = ap Err (sym (same Why.Root k e))
before_own false false k own e = absurd (let z : ◌≡◌ {A = ℕ} 0 1 = cc in omega arith)

pub refused_first : {T : Type 0} (named : List ℕ) (s : State) {x : Result ⊤ Refusal} {k : Refusal} (own : Result T Refusal)
    → x ≡ admits named s → x ≡ Err k → Err k ≡ admitted (λ b k next. cond b (Err k) next) named s own
refused_first named s {k = k} own e h = before_own (bad_shape s) (no_roots (length s.roots) named) k own (sym (tested-is named s e) ∙ h)
