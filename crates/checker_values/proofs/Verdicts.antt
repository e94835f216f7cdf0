-- Verdicts on words in a row: word by word, part by part, and over words that are met twice.
use Prim.Native.Nat.{ℕ, ◌+◌, ◌-◌, ◌≤◌, ◌<◌, zero, suc}
use native.Mathlib.Omega.{arith}
use mathlib.Core.Path.{◌≡◌, refl, sym, ap, ◌∙◌}
use mathlib.Core.Bool.{Bool, ◌&&◌, and-true, and_assoc, and_self_left}
use mathlib.Core.List.{List}
use lib.ListN.{length, take, drop, length-drop}
use lib.Seq.{drop-cons, take-add, take-length}
use Rattle.model.specs.Soundness.{all}
use Rattle.model.specs.Words.{at}
use Rattle.runs.proofs.RunLaws.{all_append, all_rest}

module _ (q : ℕ → Bool) (l : List ℕ) where
  -- ---- one word after the other

  next_word : (n : ℕ) → n < length l → all q (take (n + 1) l) ≡ (all q (take n l) && q (at l n))
  next_word n more =
      ap (all q) (take-add n 1 l)
      ∙ all_append q (take n l) (take 1 (drop n l))
      ∙ ap (λ (t : List ℕ). all q (take n l) && all q (take 1 t)) (drop-cons l n 0 more)
      ∙ ap (λ (b : Bool). all q (take n l) && b) (and-true (q (at l n)))

  pub first_word : 0 < length l → all q (take 1 l) ≡ q (at l 0)
  first_word more = next_word 0 more

  pub two_words : 1 < length l → all q (take 2 l) ≡ (q (at l 0) && q (at l 1))
  two_words more = next_word 1 more ∙ ap (λ (b : Bool). b && q (at l 1)) (first_word (omega arith))

  pub three_words : 2 < length l → all q (take 3 l) ≡ (q (at l 0) && q (at l 1) && q (at l 2))
  three_words more = next_word 2 more ∙ ap (λ (b : Bool). b && q (at l 2)) (two_words (omega arith))

  pub four_words : 3 < length l → all q (take 4 l) ≡ (q (at l 0) && q (at l 1) && q (at l 2) && q (at l 3))
  four_words more = next_word 3 more ∙ ap (λ (b : Bool). b && q (at l 3)) (three_words (omega arith))

  pub whole : (n : ℕ) → length l ≡ n → all q (take n l) ≡ all q l
  whole n e = ap (λ (k : ℕ). all q (take k l)) (sym e) ∙ ap (all q) (take-length l)

  -- ---- parts of a row

  -- the first i words and the k words from j on are all, some of them twice
  pub covered : (i j k : ℕ) → j ≤ i → j + k ≡ length l → (all q (take i l) && all q (take k (drop j l))) ≡ all q l
  covered i j k d e =
      let start = all q (take j l) in
      let twice = all q (take (i - j) (drop j l)) in
      let end = all q (drop (i - j) (drop j l)) in
      let sum : i ≡ j + (i - j) = omega arith in
      let rest : k ≡ length (drop j l) = omega (arith, length-drop j l) in
      rw (
        ap (λ (n : ℕ). all q (take n l)) sum,
        take-add j (i - j) l,
        all_append q (take j l) (take (i - j) (drop j l)),
        ap (λ (n : ℕ). take n (drop j l)) rest ∙ take-length (drop j l),
        all_rest q l j,
        all_rest q (drop j l) (i - j),
      )
      (and_assoc start twice (twice && end) ∙ ap (λ (x : Bool). start && x) (and_self_left twice end))

pub up_to_four : {A : Type 0} (n : ℕ) → n ≤ 4 → (n ≡ 0 → A) → (n ≡ 1 → A) → (n ≡ 2 → A) → (n ≡ 3 → A) → (n ≡ 4 → A) → A
up_to_four zero most f₀ f₁ f₂ f₃ f₄ = f₀ refl
up_to_four (suc zero) most f₀ f₁ f₂ f₃ f₄ = f₁ refl
up_to_four (suc (suc zero)) most f₀ f₁ f₂ f₃ f₄ = f₂ refl
up_to_four (suc (suc (suc zero))) most f₀ f₁ f₂ f₃ f₄ = f₃ refl
up_to_four (suc (suc (suc (suc zero)))) most f₀ f₁ f₂ f₃ f₄ = f₄ refl
up_to_four (suc (suc (suc (suc (suc n))))) most f₀ f₁ f₂ f₃ f₄ = absurd (omega arith)
