-- A number's digits by their count, and an integer's by its sign.
use Prim.Native.Nat.{ℕ, zero, suc, ◌+◌, ◌-◌, ◌*◌, ◌/◌, ◌%◌, ◌≤◌, ◌<◌}
use native.Mathlib.Omega.{arith}
use mathlib.Core.Path.{◌≡◌, refl, ap, ◌∙◌}
use mathlib.Core.List.{List, [], ◌∷◌, ◌++◌}
use lib.ListN.{length, length-append}
use borrow.Author.Tests.{lt-ltb, le-ltb}
use Rattle.model.specs.Values.{untag}
use Rattle.model.specs.Texts.{digit, digits, digits_to, minus, integer_text}
use Rattle.writer_measuring.specs.Numerals.{padded, tens}

tens-some : (k : ℕ) → 1 ≤ tens k
unfolding tens
tens-some zero = omega arith
tens-some (suc k) = omega (arith, tens-some k)

pub length-padded : (k n : ℕ) → length (padded k n) ≡ k
unfolding padded
length-padded zero n = refl
length-padded (suc k) n = length-append (padded k (n / 10)) _ ∙ omega (arith, length-padded k (n / 10))

-- with no leading zero: fewer do not hold the number
counted : (k f n : ℕ) → k ≤ f → n < tens (suc k) → ((k ≡ 0 → ⊥) → tens k ≤ n) → digits_to f n ≡ padded (suc k) n
unfolding tens padded digits_to
counted zero zero n l u h = ap (λ (d : ℕ). digit d ∷ []) (omega arith)
counted zero (suc f) n l u h = simp (lt-ltb n 10 (omega arith)) (ap (λ (d : ℕ). digit d ∷ []) (omega arith))
counted (suc k) zero n l u h = absurd (omega arith)
counted (suc k) (suc f) n l u h =
    let m : 10 * tens k ≤ n = h (λ z. omega arith) in
    simp (le-ltb n 10 (omega (arith, tens-some k))) (
    ap (λ (ds : List ℕ). ds ++ (digit (n % 10) ∷ []))
    (counted k f (n / 10) (omega arith) (omega arith) (λ z. omega arith)))

pub digits-counted : (k n : ℕ) → k ≤ n → tens k ≤ n → n < tens (suc k) → digits n ≡ padded (suc k) n
digits-counted k n l m u = counted k n n l u (λ z. m)

pub one-digit : (n : ℕ) → n < 10 → digits n ≡ padded 1 n
unfolding tens
one-digit n u = counted zero n n (omega arith) u (λ z. absurd (z refl))

module _ (n k : ℕ) (e : digits n ≡ padded k n) where
  pub length_digits : length (digits n) ≡ k
  length_digits = ap length e ∙ length-padded k n

-- ---- with a sign

pub unsigned : (w : ℕ) → w < 2_147_483_648 → digits (w / 2) ≡ integer_text (untag w)
unfolding untag
unsigned w h = simp (lt-ltb _ _ h)

pub signed : (w : ℕ) → 2_147_483_648 ≤ w → minus ∷ digits ((4_294_967_295 - w) / 2 + 1) ≡ integer_text (untag w)
unfolding untag
signed w h = simp (le-ltb _ _ h)
