-- Tagged integers: the word of an integer, and back.
use Prim.Native.Nat.{ℕ, suc, ◌+◌, ◌*◌, ◌-◌, ◌/◌, ◌%◌, ◌≤◌, ◌<◌}
use native.Mathlib.Omega.{arith}
use mathlib.Core.Path.{◌≡◌, ap}
use mathlib.Core.Logic.{⊎_elim}
use mathlib.Core.Bool.{true, false}
use lib.Dec.{ltb}
use lib.IntN.{ℤ, pos, negsuc, ◌+ℤ◌, ◌*ℤ◌}
use borrow.Author.Tests.{ltb-false, leb-true, eq-eqb, lt-ltb, le-ltb}
use Rattle.model.specs.Limits.{max_integer}
use Rattle.model.specs.Values.{is_odd, is_address, in_range, tag, untag}
use Rattle.theory.proofs.Tests.{by_test}
use Rattle.theory.proofs.WordSorts.{odd_no_address}

pub tag-odd : (v : ℤ) → in_range v ≡ true → tag v % 2 ≡ 1
tag-odd (pos n) h = omega arith
tag-odd (negsuc n) h = let l = leb-true n max_integer h in omega arith

pub tag-is-odd : (v : ℤ) → in_range v ≡ true → is_odd (tag v) ≡ true
tag-is-odd v h = eq-eqb (tag v % 2) 1 (tag-odd v h)

pub tag_no_address : (v : ℤ) → in_range v ≡ true → is_address (tag v) ≡ false
tag_no_address v h = odd_no_address (tag v) (tag-odd v h)

pub tag_word : (v : ℤ) → in_range v ≡ true → tag v < 4294967296
tag_word (pos n) h = let l = leb-true n max_integer h in omega arith
tag_word (negsuc n) h = omega arith

-- an integer in range is read back from its word
pub untag-tag : (v : ℤ) → in_range v ≡ true → untag (tag v) ≡ v
unfolding untag
untag-tag (pos n) h =
    let l = leb-true n max_integer h in
    let d : (2 * n + 1) / 2 ≡ n = omega arith in
    rw (lt-ltb (2 * n + 1) 2147483648 (omega arith), d)
untag-tag (negsuc n) h =
    let l = leb-true n max_integer h in
    let d : (4294967295 - (4294967295 - 2 * n)) / 2 ≡ n = omega arith in
    rw (le-ltb (4294967295 - 2 * n) 2147483648 (omega arith), d)

-- and an odd word is that of what it holds
pub tag-untag : (w : ℕ) → w < 4294967296 → w % 2 ≡ 1 → tag (untag w) ≡ w
unfolding untag
tag-untag w l o =
    ⊎_elim
    (λ (e : ltb w 2147483648 ≡ true). rw e (omega arith))
    (λ (e : ltb w 2147483648 ≡ false). let g : 2147483648 ≤ w = ltb-false w 2147483648 e in rw e (omega arith))
    (by_test (ltb w 2147483648))

-- the word is 2v + 1 modulo 2 ^ 32
pub tag-modulo : (v : ℤ) → in_range v ≡ true → (m : ℕ) × (pos (tag v) ≡ pos 2 *ℤ v +ℤ pos 1 +ℤ pos (4294967296 * m))
tag-modulo (pos n) h = (0, ap pos (omega arith))
tag-modulo (negsuc n) h =
    let l = leb-true n max_integer h in
    let e : 2 * suc n ≡ suc (2 * n + 1) = omega arith in (
      1,
      rw (e, lt-ltb 1 (suc (2 * n + 1)) (omega arith), le-ltb 4294967296 (suc (suc (2 * n + 1) - 2)) (omega arith)) (ap pos (omega arith)),
    )
