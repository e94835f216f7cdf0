-- The whole text: what is read from its first byte on, to its end, is what it stands for.
use Prim.Native.Nat.{ℕ, zero, suc, ◌+◌, ◌≤◌}
use native.Mathlib.Omega.{arith}
use mathlib.Core.Path.{◌≡◌, refl, sym, ap, ◌∙◌}
use mathlib.Core.Bool.{Bool, true, false}
use mathlib.Core.List.{List}
use lib.IntN.{ℤ}
use Rattle.std.specs.Prelude.{Option, Ok, Err}
use lib.ListN.{length, get_or}
use mir.Syntax.{w32}
use mir.Val.{SFits}
use Rattle.model.specs.declared.Refusal.{Refusal}
use Rattle.model.specs.declared.Refusal.TheVariants as Why
use Rattle.model.specs.Texts.{max_depth}
use Rattle.model.specs.Trees.{Tree, leaf, node, tree_words}
use Rattle.model.specs.ReadFaults as Faults
use Rattle.model.specs.Reading.{outside, start, whole, go, signed, most_digits, Parsed, tree, broken, parsed}
use Rattle.theory.proofs.Tests.{never}
use Rattle.reader_judging.specs.declared.Judged.TheVariants.{Integer, Tuple}
use Rattle.reader_judging.specs.Judging.{judged_of}
use Rattle.reader_numerals.specs.Numerals.{rest, negative, NumeralRead, NoNumeral}
use Rattle.reader_judging.specs.declared.values.Found.{Found}
use Rattle.reader_judging.specs.Places.{Reads, Refuses, Whole}
use Rattle.reader_numerals.proofs.Steps.{step-bad, at-end}

-- an integer in its range fits 32 bits
pub signed-fits : (neg : Bool) (n : ℕ) → n ≤ most_digits neg → SFits w32 (signed neg n)
signed-fits false n h = record { sfits = omega arith }
signed-fits true zero h = record { sfits = omega arith }
signed-fits true (suc n) h = record { sfits = omega arith }

-- where nothing was counted before
pub from_none : (t : List ℕ) (w : ℕ) (r : Option ℕ) (f : Found) → w ≡ 0 → Reads start 0 max_depth t 0 w r f → Reads start 0 max_depth t 0 0 r f
from_none t w r f e read = rw e at read

module _ (t : List ℕ) where
  judged : (x : Parsed) → parsed t ≡ x → judged_of x ≡ judged_of (parsed t)
  judged x e = ap judged_of (sym e)

  pub empty : length t ≡ 0 → Err Why.Value ≡ judged_of (parsed t)
  empty e = judged (broken Why.Value) (at-end t (go (start outside)) 0 (sym e))

  -- a value, to the end and not
  all : (x : Tree) (r : ℕ) → r ≡ length t → parsed t ≡ rest t (go (whole x outside)) r → parsed t ≡ tree x
  all x r e f = f ∙ at-end t (go (whole x outside)) r e

  not-all : (x : Tree) (r : ℕ) → r ≤ length t → (r ≡ length t → ⊥) → parsed t ≡ rest t (go (whole x outside)) r
      → Err Why.Value ≡ judged_of (parsed t)
  not-all x r l z f =
      judged (broken Why.Value) (f ∙ step-bad t (go (whole x outside)) Why.Value r (omega arith) refl)

  pub no_integer : NoNumeral t 0 → Err Why.Value ≡ judged_of (parsed t)
  no_integer none = judged (broken Why.Value) (none.stops outside)

  module _ (r n : ℕ) (y : NumeralRead t 0 r n) where
    pub integer-behind : (r ≡ length t → ⊥) → Err Why.Value ≡ judged_of (parsed t)
    integer-behind z = not-all _ r y.within z (y.leads outside)

    pub an_integer : r ≡ length t → (v : ℤ) → v ≡ signed (negative t 0) n → Ok (Integer v) ≡ judged_of (parsed t)
    an_integer e v f = ap (λ (z : ℤ). Ok (Integer z)) f ∙ judged (tree (leaf _)) (all _ r e (y.leads outside))

  -- ---- a tuple

  words_of : (x : Tree) (w : ℕ) → (tree_words x ≡ 0 → ⊥) → w ≡ 0 + tree_words x → Ok (Tuple w) ≡ judged_of (tree x)
  words_of (leaf v) w z e = absurd (z refl)
  words_of (node g) w z e = let d : w ≡ tree_words (node g) = omega arith in ap (λ (n : ℕ). Ok (Tuple n)) d

  module _ (r w : ℕ) (y : Whole start 0 max_depth t 0 0 r w) where
    pub a_tuple : Faults.opens (get_or t 0 0) ≡ true → r ≡ length t → Ok (Tuple w) ≡ judged_of (parsed t)
    a_tuple k e =
        words_of y.stood w (λ q. never k (y.alone q).1) y.words
        ∙ judged (tree y.stood) (all y.stood r e (y.leads outside refl))

    pub more-behind : (r ≡ length t → ⊥) → Err Why.Value ≡ judged_of (parsed t)
    more-behind z = not-all y.stood r y.within z (y.leads outside refl)

  pub refused : (k : Refusal) → Refuses start 0 max_depth t 0 k → Err k ≡ judged_of (parsed t)
  refused k read = judged (broken k) (read.stops outside refl)
