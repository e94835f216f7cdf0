-- The first word of a half, by the heap's length.
use Rattle.std.proofs.Common.{◌≡◌, ℕ, ap, ◌∙◌}
use Rattle.model.specs.declared.Half.{Half}
use Rattle.model.specs.Words.{half_words_of, first_of}

pub first_by_length : {first S : ℕ} (n : ℕ) (h : Half) → first ≡ first_of S h → S ≡ half_words_of n
    → first ≡ first_of (half_words_of n) h
first_by_length n h e f = e ∙ ap (λ (S : ℕ). first_of S h) f
