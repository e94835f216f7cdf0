-- A new object placed, and an allocation that is done at once: what each asks and leaves.
use Prim.Native.Nat.{ℕ, ◌+◌, ◌≤◌, ◌<◌}
use native.Mathlib.Numerals.{add-one}
use native.Mathlib.Omega.{arith}
use mathlib.Core.Path.{◌≡◌}
use mathlib.Core.Bool.{true, false}
use mathlib.Core.List.{List}
use lib.ListN.{length, set}
use borrow.Author.Tests.{le-ltb, le-leb, lt-leb}
use Rattle.model.specs.declared.Kind.{Kind}
use Rattle.model.specs.declared.Answer.TheVariants as Says
use Rattle.model.specs.declared.Record.{Record}
use Rattle.model.specs.Limits.{max_fields}
use Rattle.model.specs.Words.{State, with_heap, with_roots, with_free, free}
use Rattle.model.specs.Headers.{Layout}
use Rattle.model.specs.Shape.{bad_length, bad_shape_of, bad_shape}
use Rattle.model.specs.Objects.{address}
use Rattle.model.specs.Answers.{says, refuse}
use Rattle.model.specs.Changes.{spare, placed}
use Rattle.model.specs.Calls as Calls
use Rattle.theory.proofs.Shape.{Shaped, shaped, good_length, first_in}
use Rattle.runs.specs.Runs.{cleared}
use Rattle.runs.proofs.RunLaws.{cleared-sets}
use Rattle.std.proofs.lemmas.Bool.Decides.{nat_tests}
use Rattle.placing.specs.Placing.{MayPlace, MaySpare, spare_of, at_once}

-- ---- a new object

module _ (Y : Layout) (s : State) (k : Kind) (n r : ℕ) where
  -- the same with these words and roots, and the free index past the object
  abbrev with_object : List ℕ → List ℕ → State
  with_object H R = with_free s.«record».half (free s + (n + 1)) (with_roots R (with_heap H s))

  placed-is : placed Y k n r s
      ≡ with_object (cleared (set s.heap (free s) (Y.header k n)) (free s + 1) n) (set s.roots r (address Y (free s)))
  unfolding placed
  placed-is = rw (cleared-sets, add-one (free s))

  -- from what each call answers
  pub placed_by : (header a : ℕ) (h₁ : List ℕ) → header ≡ Y.header k n
      → h₁ ≡ cleared (set s.heap (free s) header) (free s + 1) n
      → a ≡ address Y (free s)
      → with_object h₁ (set s.roots r a) ≡ placed Y k n r s
  placed_by header a h₁ e f g = rw (placed-is, f, e, g)

-- what its callers have: a shape that is not refused, and room
pub may_spare : (s : State) → Shaped s → MaySpare (length s.heap) s.«record»
may_spare s h = record { some = omega (arith, h.odd); few = omega (arith, h.odd, h.small); high = h.high }

pub may_place : (s : State) (n r : ℕ) → Shaped s → r < length s.roots → n ≤ max_fields
    → n < spare_of (length s.heap) s.«record» → MayPlace s n r
may_place s n r h l c f =
    let b = first_in s h in
    record { room = omega (arith, b.1); words = omega (arith, h.odd, h.small); root = l; count = c }

-- ---- an allocation that fits

pub allocate_now : (Y : Layout) (k : Kind) (n r : ℕ) (s : State) → bad_shape s ≡ false → r < length s.roots
    → n ≤ max_fields → n < spare s
    → Calls.allocate Y k n r s ≡ says Says.Done (placed Y k n r s)
unfolding Calls.allocate refuse
allocate_now Y k n r s b l c f =
    rw (b, lt-leb (length s.roots) r l, le-ltb max_fields n c, le-leb (n + 1) (spare s) (omega arith))

-- ---- at once

-- of the numbers alone
pub numbers_spare : (n roots : ℕ) (q : Record) → bad_shape_of n roots q ≡ false → MaySpare n q
unfolding bad_shape_of
numbers_spare n roots q h =
    let good : bad_length n ≡ false = grind (arith, nat_tests) in
    let g = good_length n good in
    record { some = omega (arith, g.odd); few = omega (arith, g.odd, g.most); high = grind (arith, nat_tests) }

module _ (Y : Layout) (k : Kind) (n r : ℕ) (s : State)
    (e : at_once (length s.heap) (length s.roots) s.«record» n r ≡ true) where
  pub at-once_shaped : bad_shape s ≡ false
  at-once_shaped = grind (arith, nat_tests)

  root : r < length s.roots
  root = grind (arith, nat_tests)

  room : n < spare_of (length s.heap) s.«record»
  room = grind (arith, nat_tests)

  count : n ≤ max_fields
  count = let h = shaped s at-once_shaped in omega (arith, h.small, h.low, room)

  pub at-once-place : MayPlace s n r
  at-once-place = may_place s n r (shaped s at-once_shaped) root count room

  pub at-once-done : Calls.allocate Y k n r s ≡ says Says.Done (placed Y k n r s)
  at-once-done = allocate_now Y k n r s at-once_shaped root count room
