-- `integers::untag` meets its contract, sign by sign.
use Prim.Native.Nat.{◌-◌, ◌/◌}
use native.Mathlib.Omega.{arith}
use mathlib.Core.Path.{◌≡◌, ◌∙◌, ap}
use lib.IntN.{ℤ, negsuc, ◌-ℤ◌}
use mir.Syntax.{w32}
use mir.Val.{to_z, of_z}
use mir.ValLaws.{to_z-of_z, to_z_pos}
use borrow.Author.Tests.{lt-ltb, le-ltb}
use Rattle.model.specs.Values.{untag}
use Rattle.integers.proofs.Signs.{below}
use Rattle.integers.proofs.untag.Goals as goal
use Rattle.integers.proofs.untag.Goals.{Else-upper_bits-le-MAX_INTEGER}

-- -1 - m, where m is below 2 ^ 31
is : (c : Else-upper_bits-le-MAX_INTEGER) → let m = (4294967295 - c.args.word) / 2 in negsuc 0 -ℤ to_z w32 m ≡ negsuc m
is c =
    let m = (4294967295 - c.args.word) / 2 in
    ap (λ (z : ℤ). negsuc 0 -ℤ z) (to_z_pos w32 m (omega arith)) ∙ below _

pub returns-then-upper_bits-le-MAX_INTEGER : goal.returns-then-upper_bits-le-MAX_INTEGER
unfolding untag
returns-then-upper_bits-le-MAX_INTEGER c = simp (lt-ltb c.args.word 2147483648 (omega arith)) (to_z_pos w32 _ (omega arith))

pub returns : goal.returns
unfolding untag
returns c =
    simp (le-ltb c.args.word 2147483648 (omega arith))
    (ap (λ (z : ℤ). to_z w32 (of_z w32 z)) (is c) ∙ to_z-of_z w32 _ (record { sfits = omega arith }))
