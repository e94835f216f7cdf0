-- Headers of the tuple layout, written and read.
use Prim.Native.Nat.{ℕ, ◌+◌, ◌*◌, ◌%◌, ◌≤◌}
use native.Mathlib.Omega.{arith}
use mathlib.Core.Path.{◌≡◌}
use mathlib.Core.Bool.{true, false}
use borrow.Author.Tests.{eq-eqb, ne_eqb, lt-ltb, le-ltb}
use Rattle.model.specs.declared.Kind.{Kind}
use Rattle.model.specs.declared.Kind.TheVariants.{Traced, Untraced}
use Rattle.model.specs.Headers.{Lawful, Adjacent, tuple}
use Rattle.model.specs.Limits.{max_fields}
use Rattle.model.specs.Words.{address_of}

tuple-clear : (k : Kind) (n : ℕ) → n ≤ max_fields → tuple.is_header (tuple.header k n) ≡ true
unfolding tuple
tuple-clear Traced n l = eq-eqb ((0 + 2 * n) % 2) 0 (omega arith)
tuple-clear Untraced n l = eq-eqb ((2147483648 + 2 * n) % 2) 0 (omega arith)

tuple-counts : (k : Kind) (n : ℕ) → n ≤ max_fields → tuple.count_of (tuple.header k n) ≡ n
unfolding tuple
tuple-counts Traced n l = omega arith
tuple-counts Untraced n l = omega arith

tuple-kinds : (k : Kind) (n : ℕ) → n ≤ max_fields → tuple.kind_of (tuple.header k n) ≡ k
unfolding tuple
tuple-kinds Traced n l = rw (lt-ltb (0 + 2 * n) 2147483648 (omega arith))
tuple-kinds Untraced n l = rw (le-ltb (2147483648 + 2 * n) 2147483648 (omega arith))

tuple-marks : (i : ℕ) → tuple.is_header (tuple.mark (address_of i)) ≡ false
unfolding tuple
tuple-marks i = ne_eqb ((4 * i + 1) % 2) 0 (λ e. omega arith)

tuple-unmarks : (i : ℕ) → tuple.unmark (tuple.mark (address_of i)) ≡ address_of i
unfolding tuple
tuple-unmarks i = omega arith

pub tuple_lawful : Lawful tuple
tuple_lawful = record {
  writes = λ k. record { clear = tuple-clear k; counts = tuple-counts k; kinds = tuple-kinds k };
  forwards = record { marks = tuple-marks; unmarks = tuple-unmarks };
}

pub tuple_adjacent : Adjacent tuple
unfolding tuple
tuple_adjacent = omega arith
