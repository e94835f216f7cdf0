-- A number's digits stored from the right, and as a writer goes over them.
use Prim.Native.Nat.{ℕ, zero, suc, ◌+◌, ◌-◌, ◌/◌, ◌%◌, ◌≤◌, ◌<◌}
use native.Mathlib.Omega.{arith}
use mathlib.Core.Path.{◌≡◌, sym, ap, ◌∙◌}
use mathlib.Core.Logic.{⊎_elim}
use mathlib.Core.List.{List, [], ◌∷◌, ◌++◌, map}
use lib.ListN.{length, set, length-append}
use lib.Seq.{sets, set_comm}
use borrow.Author.Tests.{lt-ltb, le-ltb}
use Rattle.model.specs.Values.{untag}
use Rattle.model.specs.Texts.{digits, digits_to, integer_text, byte}
use Rattle.theory.proofs.Tests.{decide}
use Rattle.writer_measuring.specs.Numerals.{padded}
use Rattle.writer_measuring.proofs.Digits.{length-padded, length_digits, unsigned, signed}
use Rattle.writer_spelling.specs.Going.{reached, goes}
use Rattle.writer_spelling.proofs.Steps.{bytes_fit}

sets_last : (ds : List ℕ) (d : ℕ) (t : List ℕ) (at : ℕ) → sets (set t (at + length ds) d) at ds ≡ sets t at (ds ++ (d ∷ []))
sets_last [] d t at = ap (λ (n : ℕ). set t n d) (omega arith)
sets_last (a ∷ ds) d t at =
    ap (λ (n : ℕ). sets (set (set t n d) at a) (suc at) ds) (omega arith)
    ∙ ap (λ (l : List ℕ). sets l (suc at) ds) (set_comm t (suc at + length ds) at d a (λ e. omega arith))
    ∙ sets_last ds d (set t at a) (suc at)

pub stored : (t : List ℕ) (at place rest : ℕ) → at < place
    → sets (set t (place - 1) (48 + rest % 10)) at (padded (place - 1 - at) (rest / 10)) ≡ sets t at
    (padded (place - at) rest)
unfolding padded
stored t at place rest h =
    let k = place - 1 - at in
    let e : place - 1 ≡ at + length (padded k (rest / 10)) = omega (arith, length-padded k (rest / 10)) in
    let f : suc k ≡ place - at = omega arith in
    ap (λ (n : ℕ). sets (set t n (48 + rest % 10)) at (padded k (rest / 10))) e
    ∙ sets_last (padded k (rest / 10)) (48 + rest % 10) t at
    ∙ ap (λ (n : ℕ). sets t at (padded n rest)) f

-- all of them, where the place is the first
pub all-stored : (t u : List ℕ) (at place count rest n : ℕ) → place ≤ at
    → sets u at (padded (place - at) rest) ≡ sets t at (padded (at + count - at) n) → u ≡ sets t at (padded count n)
unfolding padded
all-stored t u at place count rest n h e =
    let z : 0 ≡ place - at = omega arith in
    let k : at + count - at ≡ count = omega arith in
    ap (λ (m : ℕ). sets u at (padded m rest)) z ∙ e ∙ ap (λ (m : ℕ). sets t at (padded m n)) k

-- ---- as they are gone over

module _ (n k : ℕ) (e : digits n ≡ padded k n) where
  pub digits_fit : (at : ℕ) (t u : List ℕ) → u ≡ sets t at (padded k n) → at + length (digits n) ≤ length t
      → reached (at + k) u ≡ goes (map byte (digits n)) at t
  digits_fit at t u f h =
      ap (λ (v : List ℕ). reached (at + k) v) f
      ∙ ap (λ (ds : List ℕ). reached (at + k) (sets t at ds)) (sym e)
      ∙ ap (λ (m : ℕ). reached (at + m) (sets t at (digits n))) (sym (length_digits n k e))
      ∙ bytes_fit (digits n) at t h

some-digit : (k n : ℕ) → 1 ≤ length (digits_to k n)
unfolding digits_to
some-digit zero n = omega arith
some-digit (suc k) n =
    ⊎_elim
    (λ (h : n < 10). simp (lt-ltb n 10 h) (omega arith))
    (λ (h : 10 ≤ n). simp (le-ltb n 10 h, length-append) (omega arith))
    (decide n 10)

pub some_byte : (w : ℕ) → 1 ≤ length (integer_text (untag w))
some_byte w =
    ⊎_elim
    (λ (h : w < 2_147_483_648). omega (arith, ap length (unsigned w h), some-digit (w / 2) (w / 2)))
    (λ (h : 2_147_483_648 ≤ w). omega (arith, ap length (signed w h)))
    (decide w 2_147_483_648)
