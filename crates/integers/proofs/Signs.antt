-- A signed number that was tested against 0: the natural number that it is made of, and what the code computes of it.
use Prim.Native.Nat.{ℕ, zero, suc, ◌<◌, ◌^◌}
use native.Mathlib.Nat.{zero-add}
use native.Mathlib.Omega.{arith}
use mathlib.Core.Path.{◌≡◌, refl, ap, ◌∙◌}
use mathlib.Core.Bool.{true, false}
use lib.IntN.{ℤ, pos, negsuc, ◌-ℤ◌}
use lib.Signed.{lt_z}
use mir.Syntax.{w64}
use mir.Val.{SFits, to_z, of_z}
use mir.ValLaws.{to_z-of_z, to_z_pos}
use borrow.Author.Tests.{ltb-true, le-ltb}

-- -1 - m, and -1 - -(n + 1)
pub below : (m : ℕ) → negsuc 0 -ℤ pos m ≡ negsuc m
below zero = refl
below (suc k) = ap (λ (n : ℕ). negsuc (suc n)) (zero-add k)

above : (n : ℕ) → negsuc 0 -ℤ negsuc n ≡ pos n
above n = simp (le-ltb (suc n) 1 (omega arith)) (ap pos (omega arith))

pub record Below (v : ℤ) : Type 0 where
  pub n : ℕ
  pub is : v ≡ negsuc n
  pub small : n < 2 ^ 63

pub record AtLeast (v : ℤ) : Type 0 where
  pub n : ℕ
  pub is : v ≡ pos n
  pub small : n < 2 ^ 63

below-zero : (v : ℤ) → SFits w64 v → lt_z v (pos 0) ≡ true → Below v
below-zero (pos n) f t = absurd (let h = ltb-true n 0 t in omega arith)
below-zero (negsuc n) f t = record { n = n; is = refl; small = f.sfits }

at-least-zero : (v : ℤ) → SFits w64 v → lt_z v (pos 0) ≡ false → AtLeast v
at-least-zero (pos n) f t = record { n = n; is = refl; small = f.sfits }
at-least-zero (negsuc n) f t = absurd (let z : ◌≡◌ {A = ℕ} 0 1 = cc in omega arith)

pub negative : (v : ℤ) → SFits w64 v → lt_z (to_z w64 (of_z w64 v)) (to_z w64 0) ≡ true → Below v
negative v f t = below-zero v f (rw (to_z-of_z w64 v f) at t)

pub natural : (v : ℤ) → SFits w64 v → lt_z (to_z w64 (of_z w64 v)) (to_z w64 0) ≡ false → AtLeast v
natural v f t = at-least-zero v f (rw (to_z-of_z w64 v f) at t)

-- -1 - v of a negative v, as it stands and in 64 bits; and v of one that is not
pub down : (v : ℤ) → SFits w64 v → (b : Below v) → negsuc 0 -ℤ to_z w64 (of_z w64 v) ≡ pos b.n
down v f b = ap (λ (z : ℤ). negsuc 0 -ℤ z) (to_z-of_z w64 v f ∙ b.is) ∙ above b.n

pub below-is : (v : ℤ) → SFits w64 v → (b : Below v) → to_z w64 (of_z w64 (negsuc 0 -ℤ to_z w64 (of_z w64 v))) ≡ pos b.n
below-is v f b = ap (λ (z : ℤ). to_z w64 (of_z w64 z)) (down v f b) ∙ to_z_pos w64 b.n b.small

pub magnitude_is : (v : ℤ) → SFits w64 v → (b : AtLeast v) → to_z w64 (of_z w64 v) ≡ pos b.n
magnitude_is v f b = to_z-of_z w64 v f ∙ b.is
