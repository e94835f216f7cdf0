-- A tuple's text planted: what that asks, and what it leaves.
use Prim.Native.Nat.{ℕ, ◌+◌, ◌≤◌, ◌<◌}
use native.Mathlib.Omega.{arith}
use mathlib.Core.Path.{◌≡◌, refl}
use mathlib.Core.List.{List}
use lib.ListN.{length, set}
use Rattle.model.specs.Limits.{max_words}
use Rattle.model.specs.Words.{State, with_heap, with_roots, with_free, free}
use Rattle.model.specs.Headers.{tuple}
use Rattle.model.specs.Objects.{address}
use Rattle.model.specs.Trees.{Forest, node}
use Rattle.model.specs.Changes.{placed, planted}
use Rattle.theory.proofs.Shape.{Shaped, first_in}
use Rattle.theory.proofs.ReadJudged.{parsed-text}
use Rattle.placing.specs.Placing.{spare_of}
use Rattle.reader_placing.specs.Laying.{LaysOut, LaidFrom}
use Rattle.reader.specs.Planting.{Stands, MayPlant}

-- a shape that is not refused, and room
pub may_plant : (s : State) (to words : ℕ) → Shaped s → to < length s.roots
    → words ≤ spare_of (length s.heap) s.«record» → MayPlant s to words
may_plant s to words h l f =
    let b = first_in s h in
    record { root = l; room = omega (arith, b.1, h.high); most = omega (arith, h.odd, h.small) }

module _ (s : State) (T : List ℕ) (words : ℕ) (g : Forest) (stands : Stands T words g) where
  pub lays_out : free s + words ≤ length s.heap → length s.heap ≤ max_words → LaysOut s.heap T (free s) words g
  lays_out r m =
      let t = parsed-text T (node g) stands.read in
      record { spelt = t.spelled; fits = t.fits; filled = stands.filled; room = r; most = m }

-- the layout is that of any state with the heap and the free index: here of one whose root is set
pub planted_by : (s : State) (to words : ℕ) (g : Forest) (H' : List ℕ) (a : ℕ) → LaidFrom s.heap (free s) words g H'
    → a ≡ address tuple (free s)
    → with_free s.«record».half (free s + words) (with_roots (set s.roots to a) (with_heap H' s)) ≡ planted tuple (node g) to s
unfolding planted placed
planted_by s to words g H' a laid e =
    rw e (laid (with_roots (set s.roots to (address tuple (free s))) s) refl refl)
