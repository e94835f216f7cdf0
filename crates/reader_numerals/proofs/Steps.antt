-- How the bytes are read on from a place: one byte, the end, and a refusal, which decides.
use Prim.Native.Nat.{ℕ, ◌+◌, ◌≤◌, ◌<◌}
use native.Mathlib.Omega.{arith}
use native.Mathlib.Numerals.{add-one}
use mathlib.Core.Path.{◌≡◌, refl, sym, ap, ◌∙◌}
use mathlib.Core.Bool.{Bool, true, false, ◌&&◌}
use mathlib.Core.List.{List, [], ◌∷◌}
use lib.Dec.{ltb, leb, eqb}
use lib.ListN.{length, get_or, drop}
use lib.Seq.{drop-cons, drop-length}
use borrow.Author.Tests.{ltb-true, leb-true, eqb-true, lt-ltb, eq-eqb, ne_eqb}
use Rattle.std.specs.Char.{is_ascii_digit}
use Rattle.std.proofs.lemmas.Bool.Decides.{nat_tests}
use Rattle.model.specs.declared.Refusal.{Refusal}
use Rattle.model.specs.declared.Refusal.TheVariants as Why
use Rattle.model.specs.Texts.{max_depth}
use Rattle.model.specs.Trees.{Tree}
use Rattle.model.specs.Reading.{Open, outside, paren, brace, Next, bad, is_digit, follow, onward, stopped, broken, parsed_from}
use Rattle.theory.proofs.Tests.{and_both, both_and, never}
use Rattle.reader_numerals.specs.Numerals.{rest}

pub step : (t : List ℕ) (x : Next) (at : ℕ) → at < length t → rest t x at ≡ rest t (onward max_depth x (get_or t at 0)) (at + 1)
unfolding parsed_from
step t x at h =
    ap (λ (bs : List ℕ). parsed_from max_depth x bs) (drop-cons t at 0 h)
    ∙ ap (λ (k : ℕ). parsed_from max_depth (onward max_depth x (get_or t at 0)) (drop k t)) (sym (add-one at))

-- to what is read next
pub step_to : (t : List ℕ) (x y : Next) (at : ℕ) → at < length t → onward max_depth x (get_or t at 0) ≡ y → rest t x at ≡ rest t y (at + 1)
step_to t x y at h e = step t x at h ∙ ap (λ (z : Next). rest t z (at + 1)) e

pub at-end : (t : List ℕ) (x : Next) (at : ℕ) → at ≡ length t → rest t x at ≡ stopped x
unfolding parsed_from
at-end t x at e =
    ap (λ (k : ℕ). parsed_from max_depth x (drop k t)) e ∙ ap (λ (bs : List ℕ). parsed_from max_depth x bs) (drop-length t)

pub bad-stays : (k : Refusal) (bs : List ℕ) → parsed_from max_depth (bad k) bs ≡ broken k
unfolding parsed_from
bad-stays k [] = refl
bad-stays k (b ∷ bs) = bad-stays k bs

-- a byte that refuses
pub step-bad : (t : List ℕ) (x : Next) (k : Refusal) (at : ℕ) → at < length t → onward max_depth x (get_or t at 0) ≡ bad k
    → rest t x at ≡ broken k
step-bad t x k at h e = step_to t x (bad k) at h e ∙ bad-stays k _

-- ---- bytes

pub digit_bounds : (b : ℕ) → is_digit b ≡ true → (48 ≤ b) × (b < 58)
digit_bounds b e =
    let p = and_both (leb 48 b) (ltb b 58) e in
    (leb-true 48 b p.0, ltb-true b 58 p.1)

le_lt : (b : ℕ) → leb b 57 ≡ ltb b 58
le_lt b = grind (arith, nat_tests)

-- what std calls a digit
pub ascii_digit : (b : ℕ) → is_ascii_digit b ≡ is_digit b
ascii_digit b = ap (λ (q : Bool). leb 48 b && q) (le_lt b)

-- no digit follows a value
pub follow-digit : (x : Tree) (o : Open) (b : ℕ) → 48 ≤ b → b < 58 → follow x o b ≡ bad Why.Value
follow-digit x outside b l h = refl
follow-digit x (paren ts o) b l h = simp (ne_eqb b 44 (λ e. omega arith), ne_eqb b 41 (λ e. omega arith))
follow-digit x (brace o) b l h = simp (ne_eqb b 125 (λ e. omega arith))

-- whether a byte stands at a place
module _ (t : List ℕ) (at b : ℕ) (r : Bool) (e : r ≡ (ltb at (length t) && eqb (get_or t at 0) b)) where
  pub there : r ≡ true → (at < length t) × (get_or t at 0 ≡ b)
  there h =
      let p = and_both (ltb at (length t)) (eqb (get_or t at 0) b) (sym e ∙ h) in
      (ltb-true at (length t) p.0, eqb-true (get_or t at 0) b p.1)

  pub not_there : r ≡ false → at < length t → get_or t at 0 ≡ b → ⊥
  not_there h l q = never (both_and _ _ (lt-ltb at (length t) l) (eq-eqb (get_or t at 0) b q)) (sym e ∙ h)
