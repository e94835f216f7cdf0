-- An integer by its sign: `~` and the digits of its size, or its digits alone.
use Prim.Native.Nat.{ℕ, zero, suc, ◌+◌, ◌-◌, ◌*◌, ◌≤◌, ◌<◌}
use native.Mathlib.Omega.{arith}
use mathlib.Core.Path.{◌≡◌, refl, sym, ap, ◌∙◌}
use mathlib.Core.Logic.{⊎_elim}
use mathlib.Core.Bool.{true, false}
use mathlib.Core.List.{List, [], ◌∷◌, ◌++◌}
use lib.IntN.{ℤ, pos, negsuc}
use lib.ListN.{length, get_or, drop, set, length-append}
use borrow.Author.Tests.{lt-ltb, le-ltb, leb-true}
use Rattle.model.specs.Limits.{max_integer}
use Rattle.model.specs.Texts.{digits, digits_to}
use Rattle.model.specs.Reading.{is_digit}
use Rattle.theory.proofs.Tests.{decide, never}
use Rattle.reader_placing.specs.Numerals.{DigitsAt, DigitsRead, IntegerAt, IntegerRead}
use Rattle.reader_placing.proofs.Bytes.{first_of_lem}
use Rattle.reader_placing.proofs.Digits.{AllDigits, digits-all}

pub some-digit : (k n : ℕ) → 1 ≤ length (digits_to k n)
unfolding digits_to
some-digit zero n = omega arith
some-digit (suc k) n =
    ⊎_elim
    (λ (h : n < 10). simp (lt-ltb n 10 h) (omega arith))
    (λ (h : 10 ≤ n). simp (le-ltb n 10 h, length-append) (omega arith))
    (decide n 10)

head-digit : (T : List ℕ) (p : ℕ) (ds rest : List ℕ) → AllDigits ds → 1 ≤ length ds → drop p T ≡ ds ++ rest
    → is_digit (get_or T p 0) ≡ true
head-digit T p [] rest a l e = absurd (omega arith)
head-digit T p (d ∷ ds) rest a l e = ap is_digit (first_of_lem T p d (ds ++ rest) e).is ∙ a.0

-- a number's text begins with a digit
pub begins-digit : (T : List ℕ) (p n : ℕ) (rest : List ℕ) → drop p T ≡ digits n ++ rest → is_digit (get_or T p 0) ≡ true
begins-digit T p n rest e = head-digit T p (digits n) rest (digits-all n n (omega arith)) (some-digit n n) e

pub record Negative (T : List ℕ) (at : ℕ) (v : ℤ) : Type 0 where
  pub below : ℕ
  pub is : v ≡ negsuc below
  pub digits_at : DigitsAt T (at + 1) (below + 1)
  pub inside : at + 1 < length T

within : (T : List ℕ) (p : ℕ) (ds : List ℕ) (b : ℕ) (rest : List ℕ) → drop p T ≡ ds ++ (b ∷ rest) → p < length T
within T p [] b rest e = (first_of_lem T p b rest e).inside
within T p (d ∷ ds) b rest e = (first_of_lem T p d (ds ++ (b ∷ rest)) e).inside

-- what a byte that is no digit says of a number's text
no_digit : (T : List ℕ) (p n b : ℕ) (rest : List ℕ) → drop p T ≡ digits n ++ rest → get_or T p 0 ≡ b → is_digit b ≡ false → ⊥
no_digit T p n b rest e g f = never (sym (ap is_digit g) ∙ begins-digit T p n rest e) f

module _ (T : List ℕ) (at : ℕ) where
  pub integer_inside : (v : ℤ) → IntegerAt T at v → at < length T
  integer_inside (pos n) i = within T at (digits n) i.part.mark i.part.rest i.part.spelt
  integer_inside (negsuc n) i =
      (first_of_lem T at 126 (digits (n + 1) ++ (i.part.mark ∷ i.part.rest)) i.part.spelt).inside

  pub negative : (v : ℤ) → IntegerAt T at v → get_or T at 0 ≡ 126 → Negative T at v
  negative (pos n) i e = absurd (no_digit T at n 126 (i.part.mark ∷ i.part.rest) i.part.spelt e refl)
  negative (negsuc n) i e =
      let f = first_of_lem T at 126 (digits (n + 1) ++ (i.part.mark ∷ i.part.rest)) i.part.spelt in
      record {
        below = n;
        is = refl;
        digits_at = record {
          part = record { mark = i.part.mark; rest = i.part.rest; spelt = f.rest; ends = i.part.ends };
          small = omega (arith, leb-true n max_integer i.fits);
        };
        inside = within T (at + 1) (digits (n + 1)) i.part.mark i.part.rest f.rest;
      }

  module _ (H : List ℕ) (field number end : ℕ) where
    pub negative-read : (v : ℤ) (g : Negative T at v) → DigitsRead (at + 1) (g.below + 1) number end
        → IntegerRead H field at v end (set H field (4_294_967_295 - 2 * (number - 1)))
    negative-read v g d =
        let b = g.below in
        rw g.is (record {
          stored = ap (λ (w : ℕ). set H field w) (omega (arith, d.is));
          behind = omega (arith, d.behind);
        })
