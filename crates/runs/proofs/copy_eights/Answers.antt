-- `runs::copy_eights` meets its contract. Invariant: the list is `copied_run` of what it was, at the words passed.
use mathlib.Core.Path.{◌≡◌, refl, ◌∙◌}
use mathlib.Core.List.{List}
use Prim.Native.Nat.{ℕ, ◌+◌, ◌≤◌}
use native.Mathlib.Omega.{arith}
use lib.ListN.{length}
use Rattle.runs.specs.Runs.{copied_run, Apart}
use Rattle.runs.proofs.RunLaws.{apart_less, copied_parts}
use Rattle.runs.proofs.copy_eights.Goals as goal
use Rattle.runs.proofs.copy_eights.Goals.{else-loop-i-test, then-loop-i-test+else-last-i-gt8}

-- eight words more
eight_more : (h h₁ h₂ : List ℕ) (from to i n : ℕ) → h₁ ≡ copied_run h from to i → h₂ ≡ copied_run h₁ (from + i) (to + i) 8
    → Apart from to n → to + n ≤ length h → i + 8 ≤ n → h₂ ≡ copied_run h from to (i + 8)
eight_more h h₁ h₂ from to i n was is apart within most =
    copied_parts h h₁ h₂ from to i i 8 (i + 8) was is (apart_less from to (i + 8) n most apart)
    (omega arith) (omega arith) (omega arith) (omega arith)

pub loop-i-init : goal.loop-i-init
unfolding copied_run
loop-i-init c = (omega arith, refl)

pub loop-i-preserved : goal.loop-i-preserved
loop-i-preserved c =
    let a = c.args in (
      omega arith,
      eight_more a.heap.now _ _ a.from a.to c.loop-i.i a.n c.loop-i.invariant.1 c.copy_eight.ensures
          c.requires.2 (omega arith) (omega arith),
    )

pub returns : goal.returns
returns c =
    let a = c.args in
    let l = c.loop-i in
    let passed : (i : ℕ) × ((a.n ≤ i + 8) × ((i ≤ a.n) × (c.loop-i-test.heap ≡ copied_run a.heap.now a.from a.to i))) =
    elim c.loop-i-test.branch [
      | else-loop-i-test w ↦ (l.i, (omega (arith, w.loop-i-test.false), (omega arith, w.heap-is ∙ l.invariant.1)))
      | then-loop-i-test+else-last-i-gt8 w ↦ (
        l.i + 8,
        (
          omega arith,
          (
            omega (arith, w.loop-i-test.true),
            w.heap-is ∙ eight_more a.heap.now _ _ a.from a.to l.i a.n
                l.invariant.1 w.copy_eight.ensures c.requires.2 (omega arith) (omega (arith, w.loop-i-test.true)),
          ),
        ),
      )
    ] in
    copied_parts a.heap.now _ _ a.from a.to passed.0 _ 8 a.n
    passed.1.1.1 c.copy_eight-2.ensures
    c.requires.2 c.requires.1 (omega (arith, passed.1.0)) passed.1.1.0 (omega arith)
