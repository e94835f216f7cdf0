-- What a word is that a writer goes over, where no piece refuses.
use Prim.Native.Nat.{ℕ, ◌+◌, ◌≤◌}
use mathlib.Core.Path.{◌≡◌, refl, sym, subst}
use mathlib.Core.Bool.{true, false}
use mathlib.Core.List.{List}
use mathlib.Core.Logic.{⊎_elim}
use lib.ListN.{length}
use Rattle.model.specs.Words.{at}
use Rattle.model.specs.Values.{is_odd, untag}
use Rattle.model.specs.Headers.{tuple}
use Rattle.model.specs.Objects.{index, is_traced}
use Rattle.model.specs.Texts.{Piece, integer_text, value_pieces}
use Rattle.theory.proofs.Tests.{by_test}
use Rattle.writer_measuring.specs.Forms.{named_in, form_in}
use Rattle.writer_measuring.proofs.Sorts.{odd_pieces, unnamed_pieces, untraced_pieces, deep_pieces, Told}
use Rattle.writer_spelling.specs.Going.{goes, Arrives}
use Rattle.writer_spelling.proofs.Steps.{no_fault, room_for_bytes}
use Rattle.writer_spelling.proofs.Digits.{some_byte}

module _ (first last : ℕ) (H : List ℕ) (d w place : ℕ) (t : List ℕ) (even : is_odd w ≡ false)
    (a : Arrives (goes (value_pieces (form_in first last H) d w) place t)) where
  pub arrives_told : Told first last H w
  arrives_told =
      ⊎_elim
      (λ (n : named_in first last H w ≡ true).
      ⊎_elim
      (λ (r : is_traced (tuple.kind_of (at H (index tuple w))) ≡ true). record { named = n; traced = r })
      (λ (u : is_traced (tuple.kind_of (at H (index tuple w))) ≡ false).
      absurd (no_fault _ _ place t (untraced_pieces first last H d w even _ refl n u) a))
      (by_test (is_traced (tuple.kind_of (at H (index tuple w))))))
      (λ (n : named_in first last H w ≡ false). absurd (no_fault _ _ place t (unnamed_pieces first last H d w even n) a))
      (by_test (named_in first last H w))

  pub arrives_levels : d ≡ 0 → ⊥
  arrives_levels z =
      no_fault _ _ place t
      (deep_pieces first last H d w even _ refl arrives_told.named arrives_told.traced z) a

module _ (first last : ℕ) (H : List ℕ) (d w place : ℕ) (t : List ℕ) where
  pub odd-room : is_odd w ≡ true → Arrives (goes (value_pieces (form_in first last H) d w) place t)
      → place + length (integer_text (untag w)) ≤ length t
  odd-room o a =
      room_for_bytes (integer_text (untag w)) place t (some_byte w)
      (subst (λ (ps : List Piece). Arrives (goes ps place t)) (sym (odd_pieces first last H d w o)) a)
