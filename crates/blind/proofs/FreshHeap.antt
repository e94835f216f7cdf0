-- All words of a heap, cleared, and what fresh makes of them.
use Prim.Native.Nat.{ℕ}
use native.Mathlib.Omega.{arith}
use mathlib.Core.Path.{◌≡◌, sym, ◌∙◌}
use mathlib.Core.Bool.{false}
use mathlib.Core.List.{List}
use lib.ListN.{length, replicate, length-replicate, get_or-replicate}
use lib.Seq.{ext_get_or}
use Rattle.model.specs.declared.Answer.TheVariants as Says
use Rattle.model.specs.Words.{State, with_heap, with_record}
use Rattle.model.specs.Shape.{bad_length}
use Rattle.model.specs.Answers.{says}
use Rattle.model.specs.Calls as Calls
use Rattle.model.specs.Calls.{fresh_record}
use Rattle.runs.specs.Runs.{cleared}
use Rattle.runs.proofs.RunLaws.{cleared-length, cleared_inside}
use Rattle.theory.proofs.Refusing.{passes}

cleared-all : (h : List ℕ) → cleared h 0 (length h) ≡ replicate (length h) 0
cleared-all h =
    let l = cleared-length h 0 (length h) in
    ext_get_or 0 (cleared h 0 (length h)) (replicate (length h) 0) (l ∙ sym (length-replicate (length h) 0))
    (λ i b. cleared_inside h 0 (length h) i (omega arith) (omega arith) (omega arith) ∙ sym (get_or-replicate (length h) i 0 0 (omega arith)))

pub fresh-done : (s : State) (h : List ℕ) → bad_length (length s.heap) ≡ false
    → h ≡ cleared s.heap 0 (length s.heap)
    → says Says.Done (with_record fresh_record (with_heap h s)) ≡ Calls.fresh s
unfolding Calls.fresh
fresh-done s h b e = passes _ _ b (rw (e, cleared-all s.heap))
