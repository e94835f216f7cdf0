-- An allocation of either kind, and what goes back to C: done at once, where the record that came has a
-- half, since with none nothing fits; or by the whole call.
use Prim.Native.Nat.{ℕ}
use mathlib.Core.Path.{◌≡◌, refl, ap, ◌∙◌, subst}
use mathlib.Core.Bool.{Bool, true, false}
use mathlib.Core.List.{List, []}
use lib.ListN.{length}
use Rattle.model.specs.declared.Kind.{Kind}
use Rattle.model.specs.declared.Record.{Record}
use Rattle.model.specs.declared.Answered.{Answered}
use Rattle.model.specs.declared.Call.TheVariants as Ask
use Rattle.model.specs.declared.Answer.TheVariants as Says
use Rattle.model.specs.Words.{state_of}
use Rattle.model.specs.Headers.{tuple}
use Rattle.std.specs.Prelude.{Ok}
use Rattle.model.specs.Agreements.{outcome}
use Rattle.model.specs.Answers.{says, told}
use Rattle.model.specs.Calls.{allocate}
use Rattle.model.specs.Sessions.{step}
use Rattle.theory.proofs.Tests.{never}
use Rattle.placing.specs.Placing.{at_once}
use Rattle.placing.proofs.PlacingLaws.{at-once_shaped}
use Rattle.crossing.specs.declared.CRecord.{CRecord}
use Rattle.crossing.specs.declared.CResult.{CResult}
use Rattle.crossing.specs.Numbers.{given_of, called_of, result_of, no_half, numbers_of}
use Rattle.crossing.specs.Crossing.{nowhere, taken, back, Narrow}
use Rattle.crossing.proofs.ShapeFirst.{nowhere-bad}
use Rattle.crossing.proofs.Crosses.{crosses, narrow}

taken-nowhere : (c : CRecord) → no_half c ≡ true → taken c ≡ nowhere
taken-nowhere c e = rw e

back-there : (c : CRecord) (p : Record) → no_half c ≡ false → numbers_of p ≡ back c p
back-there c p e = rw e

module _ {H' R' : List ℕ} {q : Record} (k : Kind) (c : CRecord) (H R : List ℕ) (n r : ℕ) (e : q ≡ taken c) where
  -- ---- by the whole call

  module _ {o : Answered} (g : outcome o H' R' ≡ allocate tuple k n r (state_of H R q)) where
    pub whole_crosses : {a : CResult} → a ≡ result_of (told o.answer) (back c o.«record»)
        → given_of a H' R' [] ≡ called_of result_of (allocate tuple k n r) H R [] c
    unfolding step
    whole_crosses h = crosses result_of c H R (Ask.Allocate k n r) e g h

    pub whole_narrow : Narrow c.free → Narrow o.«record».free.0
    unfolding step
    whole_narrow = narrow c H R (Ask.Allocate k n r) e g

  -- ---- at once

  module _ {p : Record} (f : at_once (length H) (length R) q n r ≡ true)
      (g : says Says.Done (state_of H' R' p) ≡ allocate tuple k n r (state_of H R q)) where
    has_half : no_half c ≡ false
    has_half = go (no_half c) refl
      where
        fitted_nowhere : no_half c ≡ true → at_once (length H) (length R) nowhere n r ≡ true
        fitted_nowhere z = subst (λ (x : Record). at_once (length H) (length R) x n r ≡ true) (e ∙ taken-nowhere c z) f

        go : (b : Bool) → no_half c ≡ b → no_half c ≡ false
        go false z = z
        go true z = never (nowhere-bad H R) (at-once_shaped tuple k n r (state_of H R nowhere) (fitted_nowhere z))

    pub at-once_crosses : {a : CResult} → a ≡ result_of (told (Ok Says.Done)) (numbers_of p)
        → given_of a H' R' [] ≡ called_of result_of (allocate tuple k n r) H R [] c
    at-once_crosses h =
        whole_crosses {o = record { answer = Ok Says.Done; «record» = p }} g
        (h ∙ ap (result_of (told (Ok Says.Done))) (back-there c p has_half))

    pub at-once_narrow : Narrow c.free → Narrow p.free.0
    at-once_narrow = whole_narrow {o = record { answer = Ok Says.Done; «record» = p }} g
