-- Every call tests SHAPE first, and a free index of 0 is SHAPE in every heap.
use Prim.Native.Nat.{ℕ, ◌+◌}
use native.Mathlib.Omega.{arith}
use mathlib.Core.Path.{◌≡◌}
use mathlib.Core.Bool.{Bool, true, ◌||◌}
use mathlib.Core.List.{List}
use lib.Dec.{ltb}
use lib.ListN.{length}
use borrow.Author.Tests.{lt-ltb}
use Rattle.model.specs.declared.Refusal.{Refusal}
use Rattle.model.specs.declared.Refusal.TheVariants as Why
use Rattle.model.specs.declared.Call.{Call}
use Rattle.model.specs.declared.Call.TheVariants as Ask
use Rattle.std.specs.Prelude.{Err}
use Rattle.model.specs.Limits.{max_roots}
use Rattle.model.specs.Words.{State, state_of, half_words}
use Rattle.model.specs.Headers.{Layout}
use Rattle.model.specs.Shape.{bad_length, bad_shape_of, bad_shape}
use Rattle.model.specs.Answers as Answers
use Rattle.model.specs.Answers.{Outcome, refuse}
use Rattle.model.specs.Calls as Calls
use Rattle.model.specs.Window.{window}
use Rattle.model.specs.Sessions.{step}
use Rattle.theory.proofs.Tests.{or_left, or_right}
use Rattle.crossing.specs.Crossing.{nowhere}

pub nowhere-bad : (H R : List ℕ) → bad_shape (state_of H R nowhere) ≡ true
unfolding bad_shape_of
nowhere-bad H R =
    let S = half_words H in
    let low : ltb 0 (S + 1) ≡ true = lt-ltb 0 (S + 1) (omega arith) in
    or_left (bad_length (length H) || ltb max_roots (length R) || ltb 0 (S + 1)) (ltb (S + 1 + S) 0)
    (or_right (bad_length (length H) || ltb max_roots (length R)) (ltb 0 (S + 1)) low)

refused : {b : Bool} {k : Refusal} {s : State} (next : Outcome State) → b ≡ true
    → refuse b k s next ≡ Answers.refused k s
unfolding refuse
refused next e = rw e

module _ (Y : Layout) (s : State) (bad : bad_shape s ≡ true) where
  pub shape-first : (k : Call) → step Y k s ≡ Answers.refused Why.Shape s
  unfolding step Calls.collect Calls.check Calls.allocate Calls.set_integer Calls.set_null Calls.set_code Calls.copy Calls.load
      Calls.store Calls.raw_read Calls.raw_write Calls.same Calls.inspect Calls.write Calls.read
  shape-first Ask.Collect = refused _ bad
  shape-first Ask.Check = refused _ bad
  shape-first (Ask.Allocate k n r) = refused _ bad
  shape-first (Ask.SetInteger r v) = refused _ bad
  shape-first (Ask.SetNull r) = refused _ bad
  shape-first (Ask.SetCode r w) = refused _ bad
  shape-first (Ask.Copy p q) = refused _ bad
  shape-first (Ask.Load r f q) = refused _ bad
  shape-first (Ask.Store r f q) = refused _ bad
  shape-first (Ask.RawRead r f) = refused _ bad
  shape-first (Ask.RawWrite r f n) = refused _ bad
  shape-first (Ask.Same p q) = refused _ bad
  shape-first (Ask.Inspect r) = refused _ bad
  shape-first (Ask.Write r) = refused _ bad
  shape-first (Ask.Read r) = refused _ bad

  pub window-shape : (r : ℕ) → window Y r s ≡ Err Why.Shape
  unfolding window
  window-shape r = rw bad
