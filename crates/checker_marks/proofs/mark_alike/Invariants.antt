-- `checker_marks::mark_alike` meets its contract. Invariant: what is left to mark leaves what all from the first
-- index on leaves, and the word there is the header; the word at hand is the last that was touched, or the one of
-- the first index, and no word behind it has a mark. The part is no local of the loop: this holds of each.
use Prim.Native.Nat.{ℕ, ◌+◌, ◌-◌, ◌/◌, ◌≤◌}
use mathlib.Core.Path.{◌≡◌}
use mathlib.Core.List.{List}
use lib.ListN.{length}
use Rattle.model.specs.Headers.{tuple}
use Rattle.model.specs.Words as words
use Rattle.checker_marks.specs.Marks.{part, Unmarked, marked_from}
use Rattle.checker_marks.specs.declared.Part.{Part}
use Rattle.checker_marks.proofs.Turns.{UnmarkedBehind}
use Rattle.checker_marks.proofs.mark_alike.Given as goal

-- what is left to mark, and the words of marks behind the one at hand
abbrev pub Left : Part → List ℕ → ℕ → List ℕ → ℕ → ℕ → Type 0
Left p heap₀ at₀ heap at place =
    UnmarkedBehind heap p place × (marked_from tuple heap p at ≡ marked_from tuple heap₀ p at₀)

abbrev pub invariant-loop-at : goal.invariant-loop-at
invariant-loop-at l = (l.initial.at ≤ l.at)
    × (l.at ≡ l.initial.at → words.at l.heap l.at ≡ l.header)
    × (length l.heap ≡ length l.initial.heap)
    × (l.place ≤ l.at / 32)
    × (l.word ≡ words.at l.heap (l.marks + l.place))
    × ((first free : ℕ) → l.end ≤ free → Unmarked l.initial.heap (part first free l.marks) l.initial.at
    → Left (part first free l.marks) l.initial.heap l.initial.at l.heap l.at l.place)

abbrev pub decreases-loop-at : goal.decreases-loop-at
decreases-loop-at l = l.end - l.at
