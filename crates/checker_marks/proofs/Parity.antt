-- The lowest bit of numbers that are joined by `|` and `&`.
use Prim.Native.Nat.{ℕ, zero, suc, ◌%◌, ◌<◌}
use native.Mathlib.Omega.{arith}
use mathlib.Core.Path.{◌≡◌, refl, ap, ◌∙◌}
use mathlib.Core.Bool.{◌&&◌, ◌||◌}
use lib.Bits.{bit_or, bit_and, or_mod, and_mod}
use lib.Dec.{eqb}
use Rattle.model.specs.Values.{is_odd}

or-bits : (x y : ℕ) → x < 2 → y < 2 → eqb (bit_or x y) 1 ≡ (eqb x 1 || eqb y 1)
or-bits zero zero a b = refl
or-bits zero (suc zero) a b = refl
or-bits (suc zero) zero a b = refl
or-bits (suc zero) (suc zero) a b = refl
or-bits (suc (suc x)) y a b = absurd (omega arith)
or-bits zero (suc (suc y)) a b = absurd (omega arith)
or-bits (suc zero) (suc (suc y)) a b = absurd (omega arith)

and-bits : (x y : ℕ) → x < 2 → y < 2 → eqb (bit_and x y) 1 ≡ (eqb x 1 && eqb y 1)
and-bits zero zero a b = refl
and-bits zero (suc zero) a b = refl
and-bits (suc zero) zero a b = refl
and-bits (suc zero) (suc zero) a b = refl
and-bits (suc (suc x)) y a b = absurd (omega arith)
and-bits zero (suc (suc y)) a b = absurd (omega arith)
and-bits (suc zero) (suc (suc y)) a b = absurd (omega arith)

pub or-odd : (a b : ℕ) → is_odd (bit_or a b) ≡ (is_odd a || is_odd b)
or-odd a b = ap (λ (n : ℕ). eqb n 1) (or_mod a b 1) ∙ or-bits (a % 2) (b % 2) (omega arith) (omega arith)

pub and-odd : (a b : ℕ) → is_odd (bit_and a b) ≡ (is_odd a && is_odd b)
and-odd a b = ap (λ (n : ℕ). eqb n 1) (and_mod a b 1) ∙ and-bits (a % 2) (b % 2) (omega arith) (omega arith)
