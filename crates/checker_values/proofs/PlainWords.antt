-- Words that are odd or 0 are values by any marks.
use Prim.Native.Nat.{ℕ, ◌%◌}
use mathlib.Core.Path.{◌≡◌, refl, sym, ap, ◌∙◌}
use mathlib.Core.Logic.{⊎_elim}
use mathlib.Core.Bool.{Bool, true, false, ◌&&◌, ◌||◌, and-true, and_assoc}
use Rattle.std.proofs.Common.{if◌then◌else◌, bit_or}
use Rattle.std.specs.List.{fold}
use Rattle.runs.proofs.RunLaws.{or-zero}
use mathlib.Core.List.{List, [], ◌∷◌}
use lib.Dec.{eqb}
use borrow.Author.Tests.{eqb-true, eq-eqb}
use Rattle.theory.proofs.Tests.{or_cases, and_both, both_and}
use Rattle.model.specs.Headers.{Layout}
use Rattle.model.specs.Soundness.{all}
use Rattle.model.specs.Values.{is_odd, is_null}
use Rattle.checker_marks.specs.Marks.{is_value_by_marks}
use Rattle.checker_marks.proofs.Judging.{value-odd}
use Rattle.checker_values.specs.Plain.{is_plain}

-- the bits of a word that count
bits-plain : (w : ℕ) → eqb (if is_odd w then 0 else w) 0 ≡ is_plain w
bits-plain w = elim (is_odd w) as (λ b. eqb (if b then 0 else w) 0 ≡ (b || is_null w)) [ true ↦ refl | false ↦ refl ]

bits-from : (b : ℕ) (ws : List ℕ)
    → eqb (fold (λ b w. bit_or b (if is_odd w then 0 else w)) b ws) 0 ≡ (eqb b 0 && all is_plain ws)
bits-from b [] = sym (and-true (eqb b 0))
bits-from b (w ∷ ws) =
    bits-from (bit_or b (if is_odd w then 0 else w)) ws
    ∙ ap (λ (x : Bool). x && all is_plain ws) (or-zero b (if is_odd w then 0 else w))
    ∙ ap (λ (x : Bool). eqb b 0 && x && all is_plain ws) (bits-plain w)
    ∙ and_assoc (eqb b 0) (is_plain w) (all is_plain ws)

pub bits-all_plain : (ws : List ℕ) → eqb (fold (λ b w. bit_or b (if is_odd w then 0 else w)) 0 ws) 0 ≡ all is_plain ws
bits-all_plain ws = bits-from 0 ws

module _ (Y : Layout) (M : List ℕ) (e : ℕ) where
  value-null : (w : ℕ) → w ≡ 0 → is_value_by_marks Y M e w ≡ true
  unfolding is_value_by_marks
  value-null w z = rw z

  value-plain : (w : ℕ) → is_plain w ≡ true → is_value_by_marks Y M e w ≡ true
  value-plain w p =
      ⊎_elim
      (λ (o : is_odd w ≡ true). value-odd Y M e w (eqb-true (w % 2) 1 o))
      (λ (z : is_null w ≡ true). value-null w (eqb-true w 0 z))
      (or_cases (is_odd w) (is_null w) p)

  values-plain : (ws : List ℕ) → all is_plain ws ≡ true → all (is_value_by_marks Y M e) ws ≡ true
  values-plain [] p = refl
  values-plain (w ∷ ws) p =
      let parts = and_both (is_plain w) (all is_plain ws) p in
      let q = is_value_by_marks Y M e in
      both_and (q w) (all q ws) (value-plain w parts.0) (values-plain ws parts.1)

  -- where no even word has a bit
  pub values-even : (ws : List ℕ) (bits : ℕ) → eqb bits 0 ≡ all is_plain ws → bits ≡ 0
      → all (is_value_by_marks Y M e) ws ≡ true
  values-even ws bits plain z = values-plain ws (sym plain ∙ eq-eqb bits 0 z)
