-- Tests: case splits by a test's result, and the laws of `||`, `&&` and `all`.
use Prim.Native.Nat.{ℕ, zero, suc, ◌≤◌, ◌<◌}
use native.Mathlib.Omega.{arith}
use mathlib.Core.Path.{◌≡◌, refl, sym, ◌∙◌}
use mathlib.Core.Logic.{◌⊎◌, inl, inr, ⊎_elim}
use mathlib.Core.Bool.{Bool, true, false, cond, ◌||◌, ◌&&◌, true≢false}
use mathlib.Core.List.{List, [], ◌∷◌}
use lib.Dec.{ltb, eqb}
use lib.ListN.{length, get_or}
use borrow.Author.Tests.{ltb-true, ltb-false, eqb-true, eqb-false}
use Rattle.model.specs.Soundness.{all}

-- a test is true or false: for `⊎_elim`
pub by_test : (b : Bool) → (b ≡ true) ⊎ (b ≡ false)
by_test true = inl refl
by_test false = inr refl

-- what holds of either choice of a `cond`, each where the test says so, holds of it
pub cond-holds : {A : Type 0} (P : A → Type 0) (b : Bool) (x y : A) → (b ≡ true → P x) → (b ≡ false → P y) → P (cond b x y)
cond-holds P true x y f g = f refl
cond-holds P false x y f g = g refl

pub never {ℓ} : {A : Type ℓ} {b : Bool} → b ≡ true → b ≡ false → A
never {b = b} t f = absurd (true≢false (sym t ∙ f))

pub decide : (a b : ℕ) → (a < b) ⊎ (b ≤ a)
decide a b =
    ⊎_elim (λ (e : ltb a b ≡ true). inl (ltb-true a b e))
    (λ (e : ltb a b ≡ false). inr (ltb-false a b e)) (by_test (ltb a b))

pub same? : (a b : ℕ) → (a ≡ b) ⊎ (a ≡ b → ⊥)
same? a b =
    ⊎_elim (λ (e : eqb a b ≡ true). inl (eqb-true a b e))
    (λ (e : eqb a b ≡ false). inr (eqb-false a b e)) (by_test (eqb a b))

-- ---- or

pub or_cases : (a b : Bool) → (a || b) ≡ true → (a ≡ true) ⊎ (b ≡ true)
or_cases true b h = inl refl
or_cases false b h = inr h

pub or_left : (a b : Bool) → a ≡ true → (a || b) ≡ true
or_left a b e = rw e

pub or_right : (a b : Bool) → b ≡ true → (a || b) ≡ true
or_right true b e = refl
or_right false b e = e

pub or-none : (a b : Bool) → (a || b) ≡ false → (a ≡ false) × (b ≡ false)
or-none true b h = never refl h
or-none false b h = (refl, h)

-- ---- and

pub and_both : (a b : Bool) → (a && b) ≡ true → (a ≡ true) × (b ≡ true)
and_both true b h = (refl, h)
and_both false b h = never h refl

pub both_and : (a b : Bool) → a ≡ true → b ≡ true → (a && b) ≡ true
both_and a b h g = rw (h, g)

-- ---- all

pub all-at : {A : Type 0} (p : A → Bool) (xs : List A) (d : A) (k : ℕ) → all p xs ≡ true → k < length xs
    → p (get_or xs k d) ≡ true
all-at p [] d k h l = absurd (omega arith)
all-at p (x ∷ xs) d zero h l = (and_both (p x) (all p xs) h).0
all-at p (x ∷ xs) d (suc k) h l = all-at p xs d k (and_both (p x) (all p xs) h).1 (omega arith)

pub at_all : {A : Type 0} (p : A → Bool) (xs : List A) (d : A) → ((k : ℕ) → k < length xs → p (get_or xs k d) ≡ true)
    → all p xs ≡ true
at_all p [] d f = refl
at_all p (x ∷ xs) d f = both_and (p x) (all p xs) (f zero (omega arith)) (at_all p xs d (λ k l. f (suc k) (omega arith)))
